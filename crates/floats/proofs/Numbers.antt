-- NaNs and their patterns, in either format, and an `f64` that is no NaN, by its pattern. Assumes nothing.
use Rattle.std.proofs.Common.{◌≡◌, ℕ, ◌-◌, ◌%◌, ◌<◌, ◌≤◌, Bool, true, false, not, T, ltb, sym, refl, ap, ◌∙◌, subst, true≢false, mod-eq_of_lt, arith, nltb→le}
use native.Mathlib.Nat.{mod-eq-sub-mod}
use lib.Ieee.{Float, nan, inf, fin, binary64, is_nan, fits, to_bits}
use lib.Ieee.Bits.{of_bits-to_bits, to_bits-lt, nan_bits_is, nan_bits_above}

pub not-false : (b : Bool) → b ≡ false → T (not b)
not-false b h = subst (λ (z : Bool). T (not z)) (sym h) tt

-- what the test leaves, and what owning an `f64` tells
abbrev pub Number : Float → Type 0
Number x = (is_nan x ≡ false) × T (fits binary64 x)

pub in_range : (x : Float) → Number x → to_bits binary64 x % 9223372036854775808 ≤ 9218868437227405312
in_range x n =
    let b = to_bits binary64 x in
    nltb→le 9218868437227405312 (b % 9223372036854775808)
    (not-false (ltb 9218868437227405312 (b % 9223372036854775808))
    (sym (nan_bits_above binary64 b) ∙ nan_bits_is binary64 b ∙ ap is_nan (of_bits-to_bits binary64 x n.1) ∙ n.0))

pub positive_in : (x : Float) → Number x → to_bits binary64 x < 9223372036854775808 → to_bits binary64 x ≤ 9218868437227405312
positive_in x n h = subst (λ (b : ℕ). b ≤ 9218868437227405312) (mod-eq_of_lt h) (in_range x n)

pub rest : (x : Float) → Number x → 9223372036854775808 ≤ to_bits binary64 x → to_bits binary64 x % 9223372036854775808 ≡ to_bits binary64 x - 9223372036854775808
rest x n h = let l : to_bits binary64 x < 18446744073709551616 = to_bits-lt binary64 x n.1 in let d : to_bits binary64 x - 9223372036854775808 < 9223372036854775808 = omega arith in mod-eq-sub-mod h ∙ mod-eq_of_lt d

pub negative_in : (x : Float) → Number x → 9223372036854775808 ≤ to_bits binary64 x → to_bits binary64 x - 9223372036854775808 ≤ 9218868437227405312
negative_in x n h = subst (λ (b : ℕ). b ≤ 9218868437227405312) (rest x n h) (in_range x n)

-- there is one NaN
pub the_nan : (x : Float) → is_nan x ≡ true → x ≡ nan
unfolding is_nan
the_nan nan h = refl
the_nan (inf s) h = absurd (true≢false (sym h))
the_nan (fin s m e) h = absurd (true≢false (sym h))
