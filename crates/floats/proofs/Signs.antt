-- `sqrt` by the pattern: a positive number, a zero or the infinity, and a negative number. Assumes nothing.
use Rattle.std.proofs.Common.{◌≡◌, ℕ, zero, suc, ◌+◌, ◌-◌, ◌*◌, ◌/◌, ◌%◌, ◌^◌, ◌<◌, ◌≤◌, Bool, true, false, cond, ◌⊎◌, sym, refl, ap, ◌∙◌, subst, inl, inr, lt_of_lt_of_le, zero-lt-suc, mul_assoc, add-sub_of_le, eq-or-lt_of_le, mul-pos, zero-add, mul-one, arith, pow_pos, pow-add}
use lib.Ieee.{Float, nan, binary64, top, of_fields, of_bits, to_bits, is_nan}
use lib.Ieee.Bits.{of_bits-to_bits}
use lib.Ieee.Exact.{HasValue}
use Rattle.floats.specs.Sqrt.{root_of, sqrt}
use Rattle.floats.proofs.Pattern.{read, low_value}
use Rattle.floats.proofs.Narrowing.{field, lead, lead_ge, finite_value}
use Rattle.floats.proofs.Rooting.{sqrt_value, sqrt_negative, root_of-number}
use Rattle.floats.proofs.Numbers.{Number, in_range, rest}

low_field : (s : Bool) (m : ℕ) → field m ≡ 0 → HasValue (of_bits binary64 (cond s (top binary64) 0 + m)) s (m % 4503599627370496 * 2 ^ 0) (2 ^ 1074)
low_field s m z =
    subst (λ (v : Float). HasValue v s (m % 4503599627370496 * 2 ^ 0) (2 ^ 1074)) (sym (read binary64 s m (short m z)))
    (subst (λ (e : ℕ). HasValue (of_fields binary64 s e (m % 4503599627370496)) s (m % 4503599627370496 * 2 ^ 0) (2 ^ 1074)) (sym z) (low_value binary64 s (m % 4503599627370496)))
  where
    short : (m : ℕ) → m / 4503599627370496 ≡ 0 → m < 9223372036854775808
    short m z = omega arith

digits_pos : (m : ℕ) → 0 < m → field m ≡ 0 → 0 < m % 4503599627370496 * 2 ^ 0
digits_pos m h z = let e : m % 4503599627370496 * 2 ^ 0 ≡ m % 4503599627370496 = mul-one (m % 4503599627370496) in omega arith

lead_pos : (m : ℕ) → 0 < lead m * 2 ^ (field m - 1)
lead_pos m = mul-pos (lt_of_lt_of_le (zero-lt-suc 4503599627370495) (lead_ge m)) (pow_pos (field m - 1))

under_inf : (m : ℕ) → m < 9218868437227405312 → field m < 2047
under_inf m h = omega arith

le_inf : (m : ℕ) → m < 9218868437227405312 → m ≤ 9218868437227405312
le_inf m h = omega arith

plain : (b : ℕ) → sqrt binary64 (of_bits binary64 b) ≡ sqrt binary64 (of_bits binary64 (0 + b))
plain b = ap (λ (x : ℕ). sqrt binary64 (of_bits binary64 x)) (sym (zero-add b))

-- ---- positive
pub subnormal_root : (b : ℕ) → 0 < b → field b ≡ 0 → sqrt binary64 (of_bits binary64 b) ≡ root_of binary64 (b % 4503599627370496 * 2 ^ 1074)
subnormal_root b h z =
    plain b ∙ sqrt_value binary64 (of_bits binary64 (0 + b)) (b % 4503599627370496 * 2 ^ 0) (digits_pos b h z) (low_field false b z) ∙ ap (λ (x : ℕ). root_of binary64 (x * 2 ^ 1074)) (mul-one (b % 4503599627370496))

pub normal_root : (b : ℕ) → b < 9218868437227405312 → 0 < field b → sqrt binary64 (of_bits binary64 b) ≡ root_of binary64 (lead b * 2 ^ (field b - 1 + 1074))
normal_root b h z =
    plain b
    ∙ sqrt_value binary64 (of_bits binary64 (0 + b)) (lead b * 2 ^ (field b - 1)) (lead_pos b) (finite_value false b (le_inf b h) z (under_inf b h))
    ∙ ap (root_of binary64) (mul_assoc (lead b) (2 ^ (field b - 1)) (2 ^ 1074) ∙ ap (λ (x : ℕ). lead b * x) (sym (pow-add 2 (field b - 1) 1074)))

split : (e : ℕ) → (e ≡ 0) ⊎ (0 < e)
split zero = inl refl
split (suc e) = inr (zero-lt-suc e)

pub positive_number : (b : ℕ) → 0 < b → b < 9218868437227405312 → is_nan (sqrt binary64 (of_bits binary64 b)) ≡ false
positive_number b h l = elim (split (field b)) [
  | inl z ↦ ap is_nan (subnormal_root b h z) ∙ root_of-number binary64 (b % 4503599627370496 * 2 ^ 1074)
  | inr z ↦ ap is_nan (normal_root b l z) ∙ root_of-number binary64 (lead b * 2 ^ (field b - 1 + 1074))
]

-- ---- the patterns whose root is themselves
pub at_zero : sqrt binary64 (of_bits binary64 0) ≡ of_bits binary64 0
unfolding sqrt of_bits
at_zero = refl

at_minus_zero : sqrt binary64 (of_bits binary64 9223372036854775808) ≡ of_bits binary64 9223372036854775808
unfolding sqrt of_bits
at_minus_zero = refl

at_inf : sqrt binary64 (of_bits binary64 9218868437227405312) ≡ of_bits binary64 9218868437227405312
unfolding sqrt of_bits
at_inf = refl

pub itself : (x : Float) (b : ℕ) → Number x → to_bits binary64 x ≡ b → sqrt binary64 (of_bits binary64 b) ≡ of_bits binary64 b → x ≡ sqrt binary64 x
itself x b n e h =
    let y : of_bits binary64 b ≡ x = ap (of_bits binary64) (sym e) ∙ of_bits-to_bits binary64 x n.1 in
    sym y ∙ sym h ∙ ap (sqrt binary64) y

pub inf_or_zero : (x : Float) → Number x → 9218868437227405312 ≤ to_bits binary64 x → to_bits binary64 x ≤ 9223372036854775808 → x ≡ sqrt binary64 x
inf_or_zero x n l u = elim (eq-or-lt_of_le u) [
  | inl e ↦ itself x 9223372036854775808 n e at_minus_zero
  | inr k ↦ itself x 9218868437227405312 n (one (to_bits binary64 x) l (subst (λ (b : ℕ). b ≤ 9218868437227405312) (native.Mathlib.Nat.mod-eq_of_lt k) (in_range x n))) at_inf
]
  where
    one : (b : ℕ) → 9218868437227405312 ≤ b → b ≤ 9218868437227405312 → b ≡ 9218868437227405312
    one b h k = omega arith

-- ---- negative
inf_root : sqrt binary64 (of_bits binary64 (9223372036854775808 + 9218868437227405312)) ≡ nan
unfolding sqrt of_bits
inf_root = refl

negative_root : (m : ℕ) → 0 < m → m ≤ 9218868437227405312 → sqrt binary64 (of_bits binary64 (9223372036854775808 + m)) ≡ nan
negative_root m h l = elim (eq-or-lt_of_le l) [
  | inl e ↦ ap (λ (x : ℕ). sqrt binary64 (of_bits binary64 (9223372036854775808 + x))) e ∙ inf_root
  | inr k ↦ elim (split (field m)) [
    | inl z ↦ sqrt_negative binary64 (of_bits binary64 (9223372036854775808 + m)) (m % 4503599627370496 * 2 ^ 0) (2 ^ 1074) (digits_pos m h z) (low_field true m z)
    | inr z ↦ sqrt_negative binary64 (of_bits binary64 (9223372036854775808 + m)) (lead m * 2 ^ (field m - 1)) (2 ^ 1074) (lead_pos m) (finite_value true m l z (under_inf m k))
  ]
]

pub below_zero : (x : Float) → Number x → 9223372036854775808 < to_bits binary64 x → sqrt binary64 x ≡ nan
below_zero x n h =
    let b = to_bits binary64 x in
    let l : 9223372036854775808 ≤ b = native.Mathlib.Nat.le_of_lt h in
    let p : 0 < b - 9223372036854775808 = omega arith in
    ap (sqrt binary64) (sym (of_bits-to_bits binary64 x n.1))
    ∙ ap (λ (y : ℕ). sqrt binary64 (of_bits binary64 y)) (sym (add-sub_of_le l))
    ∙ negative_root (b - 9223372036854775808) p (subst (λ (y : ℕ). y ≤ 9218868437227405312) (rest x n l) (in_range x n))
