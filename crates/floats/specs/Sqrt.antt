-- The square root, as IEEE 754 has it: the value of the format that is nearest to it, a tie to the even one. Definitions only.
use Rattle.std.specs.Prelude.{ℕ, zero, suc, ◌+◌, ◌*◌, ◌/◌, ◌^◌, Bool, true, false, cond, ◌==◌, nat_le, Float}
use Rattle.std.specs.Float.{nan, inf, fin, Format}
use Rattle.std.specs.Float.Ieee.{low, up, down, size, round}

-- 2 * p, or the next number if its square is no more than n
unfoldable pub digit : ℕ → ℕ → ℕ
digit n p = cond (nat_le ((p * 2 + 1) * (p * 2 + 1)) n) (p * 2 + 1) (p * 2)

-- the largest q with q * q ≤ n, for an n below 4 ^ d
unfoldable pub whole : ℕ → ℕ → ℕ
unfolding digit
whole zero n = 0
whole (suc d) n = digit n (whole d (n / 4))

-- one half more where the whole root is not exact
abbrev pub more : Bool → ℕ
more true = 0
more false = 1

-- √n to the nearest multiple of a half that shows whether it is whole: q if q * q = n, and else q + 1 / 2 for the whole part q. In halves.
unfoldable pub halves : ℕ → ℕ
unfolding whole size
halves n = let q = whole (size n) n in q * 2 + more (q * q == n)

-- The root of n / 4 ^ low, in units of the format's smallest value that is √n.
unfoldable pub root_of : Format → ℕ → Float
unfolding halves round
root_of f n = round f false (halves n) (2 ^ suc (low f))

unfoldable pub sqrt : Format → Float → Float
unfolding root_of
sqrt f nan = nan
sqrt f (inf true) = nan
sqrt f (inf false) = inf false
sqrt f (fin s zero e) = fin s zero e
sqrt f (fin true (suc m) e) = nan
sqrt f (fin false (suc m) e) = root_of f (suc m * up e * 2 ^ (low f + low f) / down e)
