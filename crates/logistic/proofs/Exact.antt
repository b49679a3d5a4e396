-- Every score is a number from 0 to 1, and exactly its units over 2^24.
-- Assumes nothing.
use Rattle.std.proofs.Common.{◌≡◌, ℕ, ◌*◌, ◌^◌, ◌<◌, ◌≤◌, false, T, sym, refl, ap, ◌∙◌, inl, inr, zero-le, lt_of_lt_of_le, mul-le-mul_right, mul_assoc, eq-or-lt_of_le, mul-lt-mul_of_pos_right, lit<, lit≤}
use lib.Ieee.{Float, le, binary32, of_bits, is_nan}
use lib.Ieee.Exact.{HasValue, round_exact}
use lib.Ieee.Order.{round_mono}
use Rattle.logistic.specs.Score.{score_for, score_of}
use Rattle.floats.proofs.Grid.{round_is_number}
use Rattle.logistic.proofs.Range.{units_of, by_units, none, all}
use Rattle.logistic.proofs.Rising.{units_top}

-- "the score is units/2^24, exact in f32": up to 2^24 units
small : (n : ℕ) → n < 16777216 → n * 2 ^ 125 < 2 ^ 277
small n h = lt_of_lt_of_le (mul-lt-mul_of_pos_right h (lit< tt)) (lit≤ tt)

pub exact : (n : ℕ) → n ≤ 16777216 → HasValue (score_for n) false n 16777216
exact n h = elim (eq-or-lt_of_le h) [ inl e ↦ rw e whole | inr l ↦ part n l ]
  where
    whole : HasValue (score_for 16777216) false 16777216 16777216
    whole = round_exact binary32 false 16777216 16777216 1 149 (lit< tt) (lit< tt) (lit< tt) refl

    part : (n : ℕ) → n < 16777216 → HasValue (score_for n) false n 16777216
    part n l = round_exact binary32 false n 16777216 n 125 (lit< tt) l (small n l) (sym (mul_assoc n (2 ^ 125) 16777216))

pub score_exact : (z : Float) → HasValue (score_of z) false (units_of z) 16777216
score_exact z = rw (by_units z) (exact (units_of z) (units_top z))

pub score_number : (z : Float) → is_nan (score_of z) ≡ false
score_number z = ap is_nan (by_units z) ∙ round_is_number binary32 false (units_of z) 16777216

pub score_least : (z : Float) → T (le (of_bits binary32 0) (score_of z))
score_least z = rw (by_units z, none) (round_mono binary32 0 16777216 (units_of z) 16777216 (lit< tt) (lit< tt) (mul-le-mul_right 16777216 zero-le))

pub score_most : (z : Float) → T (le (score_of z) (of_bits binary32 0x3f80_0000))
score_most z = rw (by_units z, all) (round_mono binary32 (units_of z) 16777216 16777216 16777216 (lit< tt) (lit< tt) (mul-le-mul_right 16777216 (units_top z)))
