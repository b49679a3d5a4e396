-- A format's value is known by its sign and its size, so rounding what the format holds changes nothing. Sums, products and quotients that are no NaN. Assumes nothing.
use Rattle.std.proofs.Common.{◌≡◌, ℕ, zero, suc, ◌+◌, ◌-◌, ◌*◌, ◌%◌, ◌^◌, ◌<◌, ◌≤◌, Bool, true, false, cond, not, ◌&&◌, ◌||◌, T, eqb, ltb, leb, ℤ, pos, negsuc, sym, refl, ap, ◌∙◌, subst, le_trans, le_of_eq, lt_of_lt_of_le, le_of_suc-le-suc, lt_irrefl, mul_assoc, mul_comm, lt_of_mul-lt-mul_right, mul-lt-mul_of_pos_right, mul-pos, one-mul, lt_of_not-le, zero-mul, mul-one, mul_right_comm, arith, eqb→eq, ltb→lt, leb→le, pow_pos, pow-add, ne_eqb}
use native.Mathlib.Nat.{eq_of_mul-eq-mul_right}
use mathlib.Core.Bool.{beq}
use lib.Pow.{pow-lt}
use lib.Ieee.{Float, nan, inf, fin, Format, prec, emax, low, up, down, round, sum, add, sub, neg, mul, div, fits, is_nan, of_bits, to_bits}
use lib.Ieee.Fits.{and_l, and_r, down_pos, round-fits}
use lib.Ieee.Bits.{of_bits-to_bits}
use lib.Ieee.Exact.{HasValue, round_exact}
use lib.Ieee.Scale.{finite}
use Rattle.floats.specs.Convert.{convert}
use Rattle.floats.proofs.Grid.{to_bits_of_value, round_is_number}

pow_le_back : (a l : ℕ) → 2 ^ a ≤ 2 ^ l → a ≤ l
pow_le_back a l h = le_of_suc-le-suc (lt_of_not-le (λ (g : suc l ≤ a). lt_irrefl (2 ^ l) (lt_of_lt_of_le (pow-lt g) h)))

-- ---- a value of the format is a whole number of its smallest values
whole_units : (l : ℕ) (m : ℕ) (e : ℤ) → down e ≤ 2 ^ l → (a : ℕ) × (m * up e * 2 ^ l ≡ a * down e)
whole_units l m (pos k) h = (m * 2 ^ k * 2 ^ l, sym (mul-one (m * 2 ^ k * 2 ^ l)))
whole_units l m (negsuc k) h =
    let g : suc k ≤ l = pow_le_back (suc k) l h in (
      m * 2 ^ (l - suc k),
      ap (λ (x : ℕ). x * 2 ^ l) (mul-one m) ∙ ap (λ (x : ℕ). m * 2 ^ x) (sym (back l (suc k) g)) ∙ ap (λ (x : ℕ). m * x) (pow-add 2 (l - suc k) (suc k)) ∙ sym (mul_assoc m (2 ^ (l - suc k)) (2 ^ suc k)),
    )
  where
    back : (l k : ℕ) → k ≤ l → l - k + k ≡ l
    back l k h = omega arith

two_one : (x y : ℕ) → 0 < x → 0 < y → x * y ≡ 1 → y ≤ 1
two_one x y h k e = le_trans (le_of_eq (sym (one-mul y))) (le_trans (native.Mathlib.Nat.mul-le-mul_right y h) (le_of_eq e))

low_enough : (f : Format) (s : Bool) (m : ℕ) (e : ℤ) → T (fits f (fin s m e)) → down e ≤ 2 ^ low f
unfolding fits
low_enough f s zero e t = le_trans (two_one (up e) (down e) (lib.Ieee.Fits.up_pos e) (down_pos e) (eqb→eq (up e * down e) 1 t)) (pow_pos (low f))
low_enough f s (suc m) e t =
    let A = eqb (suc m % 2) 1 in
    let B = ltb (suc m) (2 ^ prec f) in
    let C = leb (down e) (2 ^ low f) in
    let D = ltb (suc m * up e) (2 ^ suc (emax f) * down e) in
    leb→le (down e) (2 ^ low f) (and_r (A && B) C (and_l (A && B && C) D t))

pub value_units : (f : Format) (x : Float) (s : Bool) (a c : ℕ) → T (fits f x) → 0 < c → HasValue x s a c → (n : ℕ) × HasValue x s n (2 ^ low f) × (a * 2 ^ low f ≡ n * c)
value_units f nan s a c t C v = absurd v
value_units f (inf b) s a c t C v = absurd v
value_units f (fin b m e) s a c t C v =
    let u = whole_units (low f) m e (low_enough f b m e t) in
    let l = 2 ^ low f in (
      u.0,
      (v.0, u.1),
      eq_of_mul-eq-mul_right (down e) (down_pos e) (a * l) (u.0 * c)
          (mul_right_comm a l (down e) ∙ ap (λ (z : ℕ). z * l) (sym v.1) ∙ mul_right_comm (m * up e) c l ∙ ap (λ (z : ℕ). z * c) u.1 ∙ mul_right_comm u.0 (down e) c),
    )

-- ---- the sign and the size say which value it is
pub value_unique : (f : Format) (x y : Float) (s : Bool) (a c : ℕ) → T (fits f x) → T (fits f y) → 0 < c → HasValue x s a c → HasValue y s a c → x ≡ y
value_unique f x y s a c p q C v w =
    let u = value_units f x s a c p C v in
    let z = value_units f y s a c q C w in
    let e : u.0 ≡ z.0 = eq_of_mul-eq-mul_right c C u.0 z.0 (sym u.2 ∙ z.2) in
    let k : HasValue y s u.0 (2 ^ low f) = subst (λ (n : ℕ). HasValue y s n (2 ^ low f)) (sym e) z.1 in
    sym (of_bits-to_bits f x p) ∙ ap (of_bits f) (to_bits_of_value f x s u.0 u.1 ∙ sym (to_bits_of_value f y s u.0 k)) ∙ of_bits-to_bits f y q

-- ---- the operations on finite values give no NaN, but for 0 / 0
sum_number : (f : Format) (s : Bool) (a : ℕ) (t : Bool) (b c : ℕ) → is_nan (sum f s a t b c) ≡ false
unfolding sum
sum_number f s a t b c = go (beq s t) (ltb a b)
  where
    go : (x y : Bool) → is_nan (cond x (round f s (a + b) c) (cond y (round f t (b - a) c) (round f (s && ltb b a) (a - b) c))) ≡ false
    go true y = round_is_number f s (a + b) c
    go false true = round_is_number f t (b - a) c
    go false false = round_is_number f (s && ltb b a) (a - b) c

pub add_number : (f : Format) (x y : Float) → T (finite x) → T (finite y) → is_nan (add f x y) ≡ false
unfolding add
add_number f nan y p q = absurd p
add_number f (inf s) y p q = absurd p
add_number f (fin s m e) nan p q = absurd q
add_number f (fin s m e) (inf t) p q = absurd q
add_number f (fin s m e) (fin t n d) p q = sum_number f s (m * up e * down d) t (n * up d * down e) (down e * down d)

-- an infinity and a finite value too
pub add_inf_number : (f : Format) (x y : Float) → is_nan x ≡ false → T (finite y) → is_nan (add f x y) ≡ false
unfolding add is_nan
add_inf_number f nan y p q = p
add_inf_number f (inf s) nan p q = absurd q
add_inf_number f (inf s) (inf t) p q = absurd q
add_inf_number f (inf s) (fin t n d) p q = refl
add_inf_number f (fin s m e) nan p q = absurd q
add_inf_number f (fin s m e) (inf t) p q = absurd q
add_inf_number f (fin s m e) (fin t n d) p q = sum_number f s (m * up e * down d) t (n * up d * down e) (down e * down d)

neg_finite : (x : Float) → T (finite x) → T (finite (neg x))
unfolding neg
neg_finite nan p = p
neg_finite (inf s) p = p
neg_finite (fin s m e) p = tt

pub sub_number : (f : Format) (x y : Float) → T (finite x) → T (finite y) → is_nan (sub f x y) ≡ false
unfolding sub
sub_number f x y p q = add_number f x (neg y) p (neg_finite y q)

pub mul_number : (f : Format) (x y : Float) → T (finite x) → T (finite y) → is_nan (mul f x y) ≡ false
unfolding mul
mul_number f nan y p q = absurd p
mul_number f (inf s) y p q = absurd p
mul_number f (fin s m e) nan p q = absurd q
mul_number f (fin s m e) (inf t) p q = absurd q
mul_number f (fin s m e) (fin t n d) p q = round_is_number f (lib.Ieee.unlike s t) (m * up e * (n * up d)) (down e * down d)

-- a number other than 0
abbrev pub some : Float → Bool
some nan = false
some (inf s) = true
some (fin s m e) = not (eqb m 0)

-- a number over a finite one, not both 0
pub div_number : (f : Format) (x y : Float) → is_nan x ≡ false → T (finite y) → T (some x || some y) → is_nan (div f x y) ≡ false
unfolding div is_nan
div_number f nan y p q h = p
div_number f (inf s) nan p q h = absurd q
div_number f (inf s) (inf t) p q h = absurd q
div_number f (inf s) (fin t n d) p q h = refl
div_number f (fin s m e) nan p q h = absurd q
div_number f (fin s m e) (inf t) p q h = absurd q
div_number f (fin s zero e) (fin t zero d) p q h = absurd h
div_number f (fin s (suc m) e) (fin t zero d) p q h = rw (ne_eqb (suc m) 0 (λ e. omega (arith, e)))
div_number f (fin s m e) (fin t (suc n) d) p q h =
    rw (ne_eqb (suc n) 0 (λ e. omega (arith, e))) (round_is_number f (lib.Ieee.unlike s t) (m * up e * down d) (suc n * up d * down e))

-- ---- what the format holds is not changed by rounding
place : (l : ℕ) (e : ℤ) → down e ≤ 2 ^ l → (j : ℕ) × ((m : ℕ) → m * up e * 2 ^ l ≡ m * 2 ^ j * down e)
place l (pos k) h = (k + l, λ m. mul_assoc m (2 ^ k) (2 ^ l) ∙ ap (λ (x : ℕ). m * x) (sym (pow-add 2 k l)) ∙ sym (mul-one (m * 2 ^ (k + l))))
place l (negsuc k) h =
    let g : suc k ≤ l = pow_le_back (suc k) l h in
    (l - suc k, λ m. ap (λ (x : ℕ). x * 2 ^ l) (mul-one m) ∙ ap (λ (x : ℕ). m * 2 ^ x) (sym (back l (suc k) g)) ∙ ap (λ (x : ℕ). m * x) (pow-add 2 (l - suc k) (suc k)) ∙ sym (mul_assoc m (2 ^ (l - suc k)) (2 ^ suc k)))
  where
    back : (l k : ℕ) → k ≤ l → l - k + k ≡ l
    back l k h = omega arith

small_enough : (f : Format) (s : Bool) (m : ℕ) (e : ℤ) → T (fits f (fin s m e)) → (m < 2 ^ prec f) × (m * up e < 2 ^ suc (emax f) * down e)
unfolding fits
small_enough f s zero e t = (pow_pos (prec f), subst (λ (x : ℕ). x < 2 ^ suc (emax f) * down e) (sym (zero-mul (up e))) (one-le e))
  where
    one-le : (e : ℤ) → 1 ≤ 2 ^ suc (emax f) * down e
    one-le e = mul-pos (pow_pos (suc (emax f))) (down_pos e)
small_enough f s (suc m) e t =
    let A = eqb (suc m % 2) 1 in
    let B = ltb (suc m) (2 ^ prec f) in
    let C = leb (down e) (2 ^ low f) in
    let D = ltb (suc m * up e) (2 ^ suc (emax f) * down e) in
    (ltb→lt (suc m) (2 ^ prec f) (and_r A B (and_l (A && B) C (and_l (A && B && C) D t))), ltb→lt (suc m * up e) (2 ^ suc (emax f) * down e) (and_r (A && B && C) D t))

pub round_fixed : (f : Format) (x : Float) (s : Bool) (a c : ℕ) → T (fits f x) → 0 < c → HasValue x s a c → round f s a c ≡ x
round_fixed f nan s a c t C v = absurd v
round_fixed f (inf b) s a c t C v = absurd v
round_fixed f (fin b m e) s a c t C v =
    let l = 2 ^ low f in
    let pl = place (low f) e (low_enough f b m e t) in
    let j = pl.0 in
    let sm = small_enough f b m e t in
    let under : m * 2 ^ j < 2 ^ (low f + suc (emax f)) = lt_of_mul-lt-mul_right (down e)
    (subst (λ (z : ℕ). z < 2 ^ (low f + suc (emax f)) * down e) (pl.1 m)
    (lt_of_lt_of_le (mul-lt-mul_of_pos_right sm.1 (pow_pos (low f))) (le_of_eq (mul_right_comm (2 ^ suc (emax f)) (down e) l ∙ ap (λ (z : ℕ). z * down e) (mul_comm (2 ^ suc (emax f)) l ∙ sym (pow-add 2 (low f) (suc (emax f)))))))) in
    let cross : a * l ≡ m * 2 ^ j * c = eq_of_mul-eq-mul_right (down e) (down_pos e) (a * l) (m * 2 ^ j * c)
    (mul_right_comm a l (down e) ∙ ap (λ (z : ℕ). z * l) (sym v.1) ∙ mul_right_comm (m * up e) c l ∙ ap (λ (z : ℕ). z * c) (pl.1 m) ∙ mul_right_comm (m * 2 ^ j) (down e) c) in
    value_unique f (round f s a c) (fin b m e) s a c (round-fits f s a c) t C (round_exact f s a c m j C sm.0 under cross) v

-- a value that the narrower format holds comes back from the wider one
pub convert_fixed : (f : Format) (x : Float) → T (fits f x) → convert f x ≡ x
unfolding convert
convert_fixed f nan t = refl
convert_fixed f (inf s) t = refl
convert_fixed f (fin s m e) t = round_fixed f (fin s m e) s (m * up e) (down e) t (down_pos e) (refl, refl)

-- a product that the format holds, as one by a power of two in range, is exact
pub mul_fixed : (f : Format) (s : Bool) (m : ℕ) (e : ℤ) (t : Bool) (n : ℕ) (d : ℤ) (z : Float) → T (fits f z) → HasValue z (lib.Ieee.unlike s t) (m * up e * (n * up d)) (down e * down d) → mul f (fin s m e) (fin t n d) ≡ z
unfolding mul
mul_fixed f s m e t n d z p v = round_fixed f z (lib.Ieee.unlike s t) (m * up e * (n * up d)) (down e * down d) p (mul-pos (down_pos e) (down_pos d)) v
