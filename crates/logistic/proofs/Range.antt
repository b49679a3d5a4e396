-- The score by its cases: a float that is neither below -16 nor above 16 nor a NaN is from -16 to 16, and its u is at most 2,097,152.
-- Assumes nothing.
use Rattle.std.proofs.Common.{◌≡◌, ℕ, ◌+◌, ◌-◌, ◌*◌, ◌/◌, ◌≤◌, Bool, true, false, cond, not, T, refl, arith}
use lib.Ieee.{Float, nan, inf, fin, up, down, lt, le, ne, is_nan, round, of_bits, binary32}
use lib.Ieee.Fits.{down_pos}
use Rattle.logistic.specs.Score.{u_of, sixteen, units_at, score_for, score_of, taken, refusal, answer_of, given}
use Rattle.floats.proofs.Numbers.{not-false}
use Rattle.floats.proofs.Order.{not_lt_le}
use Rattle.logistic.proofs.Floor.{Ranged, size, quotient, u_is, place_at}

pub ranged : (z : Float) → is_nan z ≡ false → lt z (sixteen true) ≡ false → lt (sixteen false) z ≡ false → Ranged z
unfolding is_nan
ranged z n a b =
    let p : T (not (is_nan z)) = not-false (is_nan z) n in
    (not_lt_le z (sixteen true) p tt (not-false (lt z (sixteen true)) a), not_lt_le (sixteen false) z tt p (not-false (lt (sixteen false) z) b))

less : (n d : ℕ) → 1048576 - n / d ≤ 2097152
less n d = omega arith

pub u_most : (z : Float) → Ranged z → u_of z ≤ 2097152
unfolding place_at le
u_most nan r = absurd r.0
u_most (inf true) r = absurd r.0
u_most (inf false) r = absurd r.1
u_most (fin true m e) r = rw u_is (less (m * up e * 65536 + (down e - 1)) (down e))
u_most (fin false m e) r =
    let h : m * up e ≤ 16 * down e = size false m e r in
    let l : m * up e * 65536 / down e ≤ 1048576 = quotient (m * up e * 65536) (down e) (down_pos e) (omega arith) in
    rw u_is (omega arith)

-- ---- the units of a score, in all three cases: the score is units/2^24
unfoldable pub units_of : Float → ℕ
units_of z = cond (lt z (sixteen true)) 0 (cond (lt (sixteen false) z) 16777216 (units_at (u_of z)))

pub none : of_bits binary32 0 ≡ score_for 0
unfolding round of_bits
none = refl

pub all : of_bits binary32 0x3f80_0000 ≡ score_for 16777216
unfolding round of_bits
all = refl

pub by_units : (z : Float) → score_of z ≡ score_for (units_of z)
unfolding score_of units_of
by_units z = go (lt z (sixteen true)) (lt (sixteen false) z)
  where
    go : (a b : Bool)
        → cond a (of_bits binary32 0) (cond b (of_bits binary32 0x3f80_0000) (score_for (units_at (u_of z)))) ≡ score_for (cond a 0 (cond b 16777216 (units_at (u_of z))))
    go true b = none
    go false true = all
    go false false = refl

-- ---- the answer by the code's tests
pub refused : (z : Float) → is_nan z ≡ true → refusal 6 0 ≡ answer_of z
unfolding answer_of
refused z e = rw e

pub refused_nan : (z : Float) → refusal 6 0 ≡ answer_of z → z ≡ given (answer_of z)
unfolding answer_of is_nan
refused_nan nan e = refl
refused_nan (inf s) e = cc
refused_nan (fin s m k) e = cc

pub scored : (z : Float) → is_nan z ≡ false → taken 0 (score_of z) ≡ answer_of z
unfolding answer_of
scored z e = rw e

pub low : (z : Float) → lt z (sixteen true) ≡ true → of_bits binary32 0 ≡ score_of z
unfolding score_of
low z e = rw e

pub high : (z : Float) → lt z (sixteen true) ≡ false → lt (sixteen false) z ≡ true → of_bits binary32 0x3f80_0000 ≡ score_of z
unfolding score_of
high z e g = rw (e, g)

pub mid : (z : Float) → lt z (sixteen true) ≡ false → lt (sixteen false) z ≡ false → score_for (units_at (u_of z)) ≡ score_of z
unfolding score_of
mid z e g = rw (e, g)
