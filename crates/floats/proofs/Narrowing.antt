-- The four ways of `narrow_magnitude`. Assumes nothing.
use Rattle.std.proofs.Common.{◌≡◌, ℕ, zero, suc, ◌+◌, ◌-◌, ◌*◌, ◌/◌, ◌%◌, ◌^◌, ◌<◌, ◌≤◌, Bool, true, false, cond, ◌⊎◌, sym, refl, ap, ◌∙◌, subst, inl, inr, le_trans, le_of_eq, lt_of_lt_of_le, lt_of_le_of_lt, mul-le-mul_right, mul_assoc, eq-or-lt_of_le, le-div_iff_mul-le, mul-one, arith, lit≤, pow_pos, pow_mono, pow-add, shl_lt}
use Prim.Native.Nat.{compare}
use lib.Pow.{pow-lt}
use lib.Ieee.{Float, inf, binary32, binary64, round, hid, ones, top, of_fields, of_bits}
use lib.Ieee.Fits.{nearest-le}
use lib.Ieee.Exact.{HasValue}
use lib.Ieee.Nearest.{closest, nearest-ge}
use lib.Ieee.Scale.{round_same}
use Rattle.floats.specs.Convert.{convert}
use Rattle.floats.specs.Parts.{Narrowed}
use Rattle.floats.proofs.Compared.{closest_zero}
use Rattle.floats.proofs.Grid.{round_grid, units_over}
use Rattle.floats.proofs.Pattern.{read, low_value, high_value, convert_value, round_pattern}

-- the exponent's field and the digits of the f64 pattern m
abbrev pub field : ℕ → ℕ
field m = m / 4503599627370496

abbrev pub lead : ℕ → ℕ
lead m = m % 4503599627370496 + 4503599627370496

lead_lt : (m : ℕ) → lead m < 9007199254740992
lead_lt m = omega arith

pub lead_ge : (m : ℕ) → 4503599627370496 ≤ lead m
lead_ge m = omega arith

swapped : (m : ℕ) → 4503599627370496 + m % 4503599627370496 ≡ lead m
swapped m = omega arith

fields_bound : (m : ℕ) → m ≤ 9218868437227405312 → m < 9223372036854775808
fields_bound m h = omega arith

-- x is finite, with a field above 0
pred : (e : ℕ) → 0 < e → e ≡ suc (e - 1)
pred e h = omega arith

pub finite_value : (s : Bool) (m : ℕ) → m ≤ 9218868437227405312 → 0 < field m → field m < 2047 → HasValue (of_bits binary64 (cond s (top binary64) 0 + m)) s (lead m * 2 ^ (field m - 1)) (2 ^ 1074)
finite_value s m M Z F =
    subst (λ (v : Float). HasValue v s (lead m * 2 ^ (field m - 1)) (2 ^ 1074)) (sym (read binary64 s m (fields_bound m M)))
    (subst (λ (e : ℕ). HasValue (of_fields binary64 s e (m % 4503599627370496)) s (lead m * 2 ^ (field m - 1)) (2 ^ 1074)) (sym (pred (field m) Z))
    (subst (λ (g : ℕ). HasValue (of_fields binary64 s (suc (field m - 1)) (m % 4503599627370496)) s (g * 2 ^ (field m - 1)) (2 ^ 1074)) (swapped m)
    (high_value binary64 s (field m - 1) (m % 4503599627370496) (subst (λ (e : ℕ). e < 2047) (pred (field m) Z) F))))

-- ---- too small: a zero
pub tiny : (m : ℕ) → m ≤ 9218868437227405312 → field m < 872 → Narrowed m 0
tiny m M F = record { says = λ s. ends s; small = lit≤ tt }
  where
    zero_of : (s : Bool) (x : Float) (a : ℕ) → a < 2 ^ 924 → HasValue x s a (2 ^ 1074) → of_bits binary32 (cond s (top binary32) 0 + 0) ≡ convert binary32 x
    zero_of s x a A v =
        let z : closest a (2 ^ 925) ≡ 0 = closest_zero a (2 ^ 925) (double a (2 ^ 924) (2 ^ 925) A refl) in
        ap (λ (q : ℕ). of_bits binary32 (cond s (top binary32) 0 + (0 * hid binary32 + q))) (sym z)
        ∙ round_pattern binary32 s a 0 925 (lt_of_lt_of_le A (lit≤ tt)) (inl refl) (subst (λ (q : ℕ). 0 * hid binary32 + q ≤ ones binary32 * hid binary32) (sym z) (lit≤ tt))
        ∙ ap (λ (y : ℕ). round binary32 s y (2 ^ 1074)) (mul-one a)
        ∙ sym (convert_value binary32 x s a (2 ^ 1074) (pow_pos 1074) v)
      where
        double : (a p q : ℕ) → a < p → q ≡ 2 * p → 2 * a < q
        double a p q h e = omega arith

    no_field : (e : ℕ) → (0 ≡ e) ⊎ (0 < e)
    no_field zero = inl refl
    no_field (suc e) = inr (native.Mathlib.Nat.zero-lt-suc e)

    digits-small : (m : ℕ) → m % 4503599627370496 < 4503599627370496
    digits-small m = omega arith

    ends : (s : Bool) → of_bits binary32 (cond s (top binary32) 0 + 0) ≡ convert binary32 (of_bits binary64 (cond s (top binary64) 0 + m))
    ends s = elim (no_field (field m)) [
      | inl z ↦
          zero_of s (of_bits binary64 (cond s (top binary64) 0 + m)) (m % 4503599627370496 * 2 ^ 0)
          (lt_of_le_of_lt (le_of_eq (mul-one (m % 4503599627370496))) (lt_of_lt_of_le (digits-small m) (lit≤ tt)))
          (subst (λ (v : Float). HasValue v s (m % 4503599627370496 * 2 ^ 0) (2 ^ 1074)) (sym (read binary64 s m (fields_bound m M)))
          (subst (λ (e : ℕ). HasValue (of_fields binary64 s e (m % 4503599627370496)) s (m % 4503599627370496 * 2 ^ 0) (2 ^ 1074)) z (low_value binary64 s (m % 4503599627370496))))
      | inr z ↦
          zero_of s (of_bits binary64 (cond s (top binary64) 0 + m)) (lead m * 2 ^ (field m - 1))
          (lt_of_lt_of_le (shl_lt 53 (field m - 1) (lead_lt m)) (pow_mono (low-exp (field m) F)))
          (finite_value s m M z (wide (field m) F))
    ]
      where
        low-exp : (e : ℕ) → e < 872 → 53 + (e - 1) ≤ 924
        low-exp e h = omega arith

        wide : (e : ℕ) → e < 872 → e < 2047
        wide e h = omega arith

closest_le : (g h p : ℕ) → g < 2 ^ (p + h) → closest g (2 ^ h) ≤ 2 ^ p
closest_le g h p G = le_trans (nearest-le (g / 2 ^ h) (compare (g % 2 ^ h * 2) (2 ^ h))) (lib.Pow.shr_lt p h G)

-- ---- subnormal results, and the largest of them rounded up
pub subnormal : (m : ℕ) → m ≤ 9218868437227405312 → 872 ≤ field m → field m < 897 → Narrowed m (closest (lead m) (2 ^ (926 - field m)))
subnormal m M L F = record { says = λ s. ends s; small = le_trans bound (lit≤ tt) }
  where
    fit : (e : ℕ) → e < 897 → 53 ≤ 24 + (926 - e)
    fit e l = omega arith

    bound : closest (lead m) (2 ^ (926 - field m)) ≤ 2 ^ 24
    bound = closest_le (lead m) (926 - field m) 24 (lt_of_lt_of_le (lead_lt m) (pow_mono (fit (field m) F)))

    exps : (e : ℕ) → 872 ≤ e → e < 897 → e - 1 + (149 + (926 - e)) ≡ 1074
    exps e a b = omega arith

    ends : (s : Bool) → of_bits binary32 (cond s (top binary32) 0 + closest (lead m) (2 ^ (926 - field m))) ≡ convert binary32 (of_bits binary64 (cond s (top binary64) 0 + m))
    ends s =
        let g = lead m in
        let h = 926 - field m in
        let x = of_bits binary64 (cond s (top binary64) 0 + m) in
        ap (λ (q : ℕ). of_bits binary32 (cond s (top binary32) 0 + q)) (plain (closest (lead m) (2 ^ (926 - field m))))
        ∙ round_pattern binary32 s g 0 h (lt_of_lt_of_le (lead_lt m) (pow_mono (fit (field m) F))) (inl refl) (subst (λ (q : ℕ). q ≤ ones binary32 * hid binary32) (plain (closest (lead m) (2 ^ (926 - field m)))) (le_trans bound (lit≤ tt)))
        ∙ round_same binary32 s (g * 2 ^ 0) (2 ^ (149 + h)) (g * 2 ^ (field m - 1)) (2 ^ 1074) (pow_pos (149 + h)) (pow_pos 1074)
        (ap (λ (y : ℕ). y * 2 ^ 1074) (mul-one g) ∙ ap (λ (y : ℕ). g * y) (ap (λ (y : ℕ). 2 ^ y) (sym (exps (field m) L F)) ∙ pow-add 2 (field m - 1) (149 + h)) ∙ sym (mul_assoc g (2 ^ (field m - 1)) (2 ^ (149 + h))))
        ∙ sym (convert_value binary32 x s (g * 2 ^ (field m - 1)) (2 ^ 1074) (pow_pos 1074) (finite_value s m M (some (field m) L) (wide (field m) F)))
      where
        plain : (q : ℕ) → q ≡ 0 * hid binary32 + q
        plain q = omega arith

        some : (e : ℕ) → 872 ≤ e → 0 < e
        some e l = omega arith

        wide : (e : ℕ) → e < 897 → e < 2047
        wide e l = omega arith

-- ---- from the least normal f32 on
normal_round : (s : Bool) (m : ℕ) → m ≤ 9218868437227405312 → 897 ≤ field m → field m < 2047 → convert binary32 (of_bits binary64 (cond s (top binary64) 0 + m)) ≡ round binary32 s (lead m * 2 ^ (field m - 897)) (2 ^ 178)
normal_round s m M L F =
    let g = lead m in
    let k = field m - 897 in
    let e = field m - 1 in
    convert_value binary32 (of_bits binary64 (cond s (top binary64) 0 + m)) s (g * 2 ^ e) (2 ^ 1074) (pow_pos 1074) (finite_value s m M (some (field m) L) F)
    ∙ round_same binary32 s (g * 2 ^ e) (2 ^ 1074) (g * 2 ^ k) (2 ^ 178) (pow_pos 1074) (pow_pos 178)
    (mul_assoc g (2 ^ e) (2 ^ 178)
    ∙ ap (λ (y : ℕ). g * y) (sym (pow-add 2 e 178) ∙ ap (λ (y : ℕ). 2 ^ y) (exps (field m) L) ∙ pow-add 2 k 1074)
    ∙ sym (mul_assoc g (2 ^ k) (2 ^ 1074)))
  where
    some : (e : ℕ) → 897 ≤ e → 0 < e
    some e l = omega arith

    exps : (e : ℕ) → 897 ≤ e → e - 1 + 178 ≡ e - 897 + 1074
    exps e l = omega arith

pub normal : (m : ℕ) → m ≤ 9218868437227405312 → 897 ≤ field m → field m < 1151 → Narrowed m ((field m - 897) * 8388608 + closest (lead m) (2 ^ 29))
normal m M L F = record { says = λ s. ends s; small = bound }
  where
    bound : (field m - 897) * 8388608 + closest (lead m) (2 ^ 29) ≤ 2139095040
    bound = sum (field m) (closest (lead m) (2 ^ 29)) F (closest_le (lead m) 29 24 (lead_lt m))
      where
        sum : (e q : ℕ) → e < 1151 → q ≤ 16777216 → (e - 897) * 8388608 + q ≤ 2139095040
        sum e q a b = omega arith

    wide : (e : ℕ) → e < 1151 → e < 2047
    wide e l = omega arith

    ends : (s : Bool) → of_bits binary32 (cond s (top binary32) 0 + ((field m - 897) * 8388608 + closest (lead m) (2 ^ 29))) ≡ convert binary32 (of_bits binary64 (cond s (top binary64) 0 + m))
    ends s = round_pattern binary32 s (lead m) (field m - 897) 29 (lead_lt m) (inr (lead_ge m)) bound ∙ sym (normal_round s m M L (wide (field m) F))

-- ---- too large, and the infinities
pattern_of_inf : (s : Bool) → of_bits binary32 (cond s (top binary32) 0 + 2139095040) ≡ inf s
unfolding of_bits
pattern_of_inf true = refl
pattern_of_inf false = refl

inf_again : (s : Bool) → convert binary32 (of_bits binary64 (cond s (top binary64) 0 + 9218868437227405312)) ≡ inf s
unfolding of_bits convert
inf_again true = refl
inf_again false = refl

pub huge : (m : ℕ) → m ≤ 9218868437227405312 → 1151 ≤ field m → Narrowed m 2139095040
huge m M L = record { says = λ s. ends s; small = lit≤ tt }
  where
    far : (e : ℕ) → 1151 ≤ e → 277 ≤ 23 + (e - 897)
    far e l = omega arith

    where-at : (m : ℕ) → m ≤ 9218868437227405312 → (m ≡ 9218868437227405312) ⊎ (field m < 2047)
    where-at m h = elim (eq-or-lt_of_le h) [ inl e ↦ inl e | inr l ↦ inr (less m l) ]
      where
        less : (m : ℕ) → m < 9218868437227405312 → m / 4503599627370496 < 2047
        less m l = omega arith

    over : (s : Bool) → field m < 2047 → convert binary32 (of_bits binary64 (cond s (top binary64) 0 + m)) ≡ inf s
    over s F =
        normal_round s m M (le_trans (lit≤ tt) L) F
        ∙ round_grid binary32 s (lead m) (field m - 897) 29 (lead_lt m) (inr (lead_ge m))
        ∙ units_over binary32 s (closest (lead m) (2 ^ 29)) (field m - 897)
        (le_trans (pow_mono (far (field m) L)) (le_trans (le_of_eq (pow-add 2 23 (field m - 897))) (mul-le-mul_right (2 ^ (field m - 897)) kept)))
      where
        kept : 2 ^ 23 ≤ closest (lead m) (2 ^ 29)
        kept = le_trans ((le-div_iff_mul-le (pow_pos 29)).1 (lead_ge m)) (nearest-ge (lead m / 2 ^ 29) (compare (lead m % 2 ^ 29 * 2) (2 ^ 29)))

    ends : (s : Bool) → of_bits binary32 (cond s (top binary32) 0 + 2139095040) ≡ convert binary32 (of_bits binary64 (cond s (top binary64) 0 + m))
    ends s = pattern_of_inf s ∙ elim (where-at m M) [ inl e ↦ sym (ap (λ (x : ℕ). convert binary32 (of_bits binary64 (cond s (top binary64) 0 + x))) e ∙ inf_again s) | inr l ↦ sym (over s l) ]
