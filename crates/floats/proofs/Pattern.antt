-- Patterns in either format: what a pattern's fields are read as, and the pattern of what `round` gives. Assumes nothing.
use Rattle.std.proofs.Common.{◌≡◌, ℕ, suc, ◌+◌, ◌-◌, ◌*◌, ◌/◌, ◌%◌, ◌^◌, ◌<◌, ◌≤◌, Bool, true, false, cond, not, T, eqb, leb, ◌⊎◌, sym, refl, ap, ◌∙◌, subst, inl, inr, le_trans, le_of_eq, le-add_right, lt_irrefl, mod-eq_of_lt, le-div_iff_mul-le, zero-add, le→leb, eqb→eq, pow_pos, pow-add, shr_lt}
use Prim.Native.Nat.{compare}
use native.Mathlib.Nat.{add-mod_left, mul-add-mod_self_left}
use lib.Dec.{not_T}
use lib.Arith.{lt→nleb}
use lib.Ieee.{Float, nan, inf, fin, Format, prec, low, up, down, odd, units, round, is_nan, hid, ones, top, of_fields, of_bits, to_bits}
use lib.Ieee.Fits.{round-fits, nearest-le, down_pos}
use lib.Ieee.Bits.{of_bits-to_bits, is_true, is_false, cond_no}
use lib.Ieee.Exact.{HasValue, odd_sign}
use lib.Ieee.Nearest.{closest, nearest-ge}
use lib.Ieee.Scale.{round_same}
use Rattle.floats.specs.Convert.{convert}
use Rattle.floats.proofs.Grid.{round_grid, units_bits, round_is_number}

-- ---- a pattern is read by its sign, its exponent's field and its digits
opened : (f : Format) (b : ℕ) → of_bits f b ≡ of_fields f (leb (top f) b) (b % top f / hid f) (b % hid f)
unfolding of_bits
opened f b = refl

pub read : (f : Format) (s : Bool) (m : ℕ) → m < top f → of_bits f (cond s (top f) 0 + m) ≡ of_fields f s (m / hid f) (m % hid f)
read f true m h =
    opened f (top f + m)
    ∙ ap (λ (b : Bool). of_fields f b ((top f + m) % top f / hid f) ((top f + m) % hid f)) (is_true (leb (top f) (top f + m)) (le→leb (top f) (top f + m) (le-add_right (top f) m)))
    ∙ ap (λ (x : ℕ). of_fields f true (x / hid f) ((top f + m) % hid f)) (add-mod_left (top f) m ∙ mod-eq_of_lt h)
    ∙ ap (λ (x : ℕ). of_fields f true (m / hid f) x) (mul-add-mod_self_left (hid f) (suc (ones f)) m)
read f false m h =
    ap (λ (x : ℕ). of_bits f x) (zero-add m)
    ∙ opened f m
    ∙ ap (λ (b : Bool). of_fields f b (m % top f / hid f) (m % hid f)) (is_false (leb (top f) m) (lt→nleb (top f) m h))
    ∙ ap (λ (x : ℕ). of_fields f false (x / hid f) (m % hid f)) (mod-eq_of_lt h)

-- ---- the value of a pattern that is no infinity's and no NaN's
pub low_value : (f : Format) (s : Bool) (t : ℕ) → HasValue (of_fields f s 0 t) s (t * 2 ^ 0) (2 ^ low f)
unfolding of_fields
low_value f s t = odd_sign (prec f) s t 0 (low f)

differs : (a b : ℕ) → a < b → T (not (eqb a b))
differs a b h = not_T (eqb a b) (λ t. lt_irrefl b (subst (λ (x : ℕ). x < b) (eqb→eq a b t) h))

pub high_value : (f : Format) (s : Bool) (x t : ℕ) → suc x < ones f → HasValue (of_fields f s (suc x) t) s ((hid f + t) * 2 ^ x) (2 ^ low f)
unfolding of_fields
high_value f s x t h =
    subst (λ (v : Float). HasValue v s ((hid f + t) * 2 ^ x) (2 ^ low f))
    (sym (cond_no (eqb (suc x) (ones f)) (cond (eqb t 0) (inf s) nan) (odd (prec f) s (hid f + t) x (low f)) (differs (suc x) (ones f) h)))
    (odd_sign (prec f) s (hid f + t) x (low f))

-- ---- `convert` sees only the value
pub convert_value : (f : Format) (x : Float) (s : Bool) (a c : ℕ) → 0 < c → HasValue x s a c → convert f x ≡ round f s a c
unfolding convert
convert_value f nan s a c C v = absurd v
convert_value f (inf t) s a c C v = absurd v
convert_value f (fin t m e) s a c C v = ap (λ (b : Bool). round f b (m * up e) (down e)) v.0 ∙ round_same f s (m * up e) (down e) a c (down_pos e) C v.1

pub convert_number : (f : Format) (x : Float) → is_nan x ≡ false → is_nan (convert f x) ≡ false
unfolding convert is_nan
convert_number f nan h = h
convert_number f (inf s) h = refl
convert_number f (fin s m e) h = round_is_number f s (m * up e) (down e)

-- ---- the pattern of what `round` gives
pub round_pattern : (f : Format) (s : Bool) (g k h : ℕ) → g < 2 ^ (prec f + h) → (k ≡ 0) ⊎ (2 ^ (prec f - 1 + h) ≤ g) → k * hid f + closest g (2 ^ h) ≤ ones f * hid f
    → of_bits f (cond s (top f) 0 + (k * hid f + closest g (2 ^ h))) ≡ round f s (g * 2 ^ k) (2 ^ (low f + h))
round_pattern f s g k h G L B =
    let q = closest g (2 ^ h) in
    let r = round f s (g * 2 ^ k) (2 ^ (low f + h)) in
    let e : r ≡ units f s q k = round_grid f s g k h G L in
    let Q : q ≤ 2 ^ prec f = le_trans (nearest-le (g / 2 ^ h) (compare (g % 2 ^ h * 2) (2 ^ h))) (shr_lt (prec f) h G) in
    ap (of_bits f) (sym (ap (to_bits f) e ∙ units_bits f s q k Q (lo L) B)) ∙ of_bits-to_bits f r (round-fits f s (g * 2 ^ k) (2 ^ (low f + h)))
  where
    lo : (k ≡ 0) ⊎ (2 ^ (prec f - 1 + h) ≤ g) → (k ≡ 0) ⊎ (hid f ≤ closest g (2 ^ h))
    lo (inl e) = inl e
    lo (inr a) = inr (le_trans ((le-div_iff_mul-le (pow_pos h)).1 (le_trans (le_of_eq (sym (pow-add 2 (prec f - 1) h))) a)) (nearest-ge (g / 2 ^ h) (compare (g % 2 ^ h * 2) (2 ^ h))))
