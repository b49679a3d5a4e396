-- `floats::root_scaled` meets its contract: the laws are those of `proofs/Scaled.antt`. Assumes nothing.
use Rattle.std.proofs.Common.{◌≡◌, ℕ, ◌+◌, ◌*◌, ◌^◌, ◌<◌, ◌≤◌, subst, arith}
use lib.Ieee.{binary64, of_bits}
use lib.Ieee.Nearest.{closest}
use Rattle.floats.specs.Sqrt.{root_of}
use Rattle.floats.specs.Parts.{Rooted}
use Rattle.floats.proofs.Scaled.{zeros, shift, place, zeros-in, shifted, lt, halved}
use Rattle.floats.proofs.root_scaled.Goals as goal

-- the laws' premises at the function's entry, and what the call of `root_digits` gives
zs : (c : goal.Start) → (11 ≤ zeros c.args.g) × (zeros c.args.g ≤ 63)
zs c = zeros-in c.args.g c.requires.g_nonzero c.requires.g_bound

rooted : (c : goal.After-root_digits-d) → Rooted (c.args.g * 2 ^ shift c.args.g c.args.e) c.root_digits-d.result.q c.root_digits-d.result.r
rooted c =
    let a = c.before in
    subst (λ (x : ℕ). Rooted x c.root_digits-d.result.q c.root_digits-d.result.r) (shifted a.args.g a.requires.g_nonzero a.requires.g_bound a.args.e) c.root_digits-d.ensures

under : (c : goal.After-root_digits-d) → c.root_digits-d.result.q < 2 ^ 54
under c = let a = c.before in lt a.args.g a.args.e a.requires.g_nonzero a.requires.g_bound a.requires.e_bound c.root_digits-d.result.q c.root_digits-d.result.r (rooted c)

-- the root with its sticky digit
half : (c : goal.After-from) → let k = c.before.before.before in let a = k.before in
    (k.root_digits-d.result.q * 2 + c.from.result < 36028797018963968)
    × (of_bits binary64 (place a.args.g a.args.e * 4503599627370496 + closest (k.root_digits-d.result.q * 2 + c.from.result) 4) ≡ root_of binary64 (a.args.g * 2 ^ (a.args.e + 1074)))
half c =
    let k = c.before.before.before in
    let a = k.before in
    halved a.args.g a.args.e a.requires.g_nonzero a.requires.g_bound a.requires.e_bound k.root_digits-d.result.q k.root_digits-d.result.r (rooted k) c.from.result c.from.ensures

pub overflow_sub-h : goal.overflow_sub-h
overflow_sub-h c = let z = zs c in omega arith

pub overflow_sub-k : goal.overflow_sub-k
overflow_sub-k c = let z = zs c.before in omega arith

pub overflow_mul-halves : goal.overflow_mul-halves
overflow_mul-halves c = let u = under c.before in record { fits = omega arith }

pub overflow_add-halves : goal.overflow_add-halves
overflow_add-halves c = let h = (half c).0 in record { fits = omega arith }

pub returns : goal.returns
returns c = rw c.nearest.ensures (half c.before).1
