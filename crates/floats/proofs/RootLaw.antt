-- Why `sqrt` deserves its name (`root-not-below`, `root-not-above`): with x a positive value, every fraction u / v whose square is at most x rounds to
-- at most `sqrt x`, and every one whose square is at least x rounds to at least `sqrt x`. So `sqrt x` is √x rounded once. Assumes nothing.
use Rattle.std.proofs.Common.{◌≡◌, ℕ, zero, suc, ◌+◌, ◌-◌, ◌*◌, ◌/◌, ◌%◌, ◌^◌, ◌<◌, ◌≤◌, Bool, true, false, not, T, eqb, leb, ℤ, sym, refl, ap, ◌∙◌, subst, le_trans, le_of_eq, le_refl, lt_of_lt_of_le, lt_of_le_of_lt, lt_irrefl, mul-le-mul_right, mod-lt, zero-lt-suc, mul_assoc, suc-mul, mul_comm, div-lt_iff_lt-mul, mul-lt-mul_of_pos_right, mul-pos, lt_of_not-le, div-add-mod', le-div_iff_mul-le, zero-mul, mul_right_comm, div-mul-le_self, le_of_mul-le-mul_right, mul_left_comm, arith, lit≤, eqb→eq, leb→le, pow_pos, pow_mono, pow-add}
use native.Mathlib.Nat.{mul-mul-mul_comm, pow-succ'}
use lib.Dec.{eqb_refl, nleb→lt}
use lib.Ieee.{Float, fin, Format, binary32, binary64, prec, low, up, down, size, round, fits, le}
use lib.Ieee.Fits.{down_pos, up_pos}
use lib.Ieee.Digits.{size-lt, size_reaches}
use lib.Ieee.Exact.{HasValue}
use lib.Ieee.Order.{round_mono}
use Rattle.floats.specs.Sqrt.{more as extra, whole, root_of, sqrt}
use Rattle.floats.proofs.Squares.{sq_suc, root_le, root_lt, IsRoot, whole_of}
use Rattle.floats.proofs.Between.{round_between}
use Rattle.floats.proofs.Rooting.{opened, sqrt_value}
use Rattle.floats.proofs.Exact.{value_units}

-- ---- two fractions strictly between the same neighbours w and w + 1, in smallest values, round alike where w has more digits than are kept
digits_over : (p w : ℕ) → 2 ^ p ≤ w → p < size w
digits_over p w h = lt_of_not-le (λ (g : size w ≤ p). lt_irrefl w (lt_of_lt_of_le (size-lt w) (le_trans (pow_mono g) h)))

-- w cut to p + 1 digits
cut_ge : (p w : ℕ) → 2 ^ p ≤ w → 2 ^ p ≤ w / 2 ^ (size w - suc p)
cut_ge p w h = (le-div_iff_mul-le (pow_pos (size w - suc p))).1 (le_trans (le_of_eq (sym (pow-add 2 p (size w - suc p)))) (size_reaches w (p + (size w - suc p)) (fit p (size w) (digits_over p w h))))
  where
    fit : (p z : ℕ) → p < z → p + (z - suc p) < z
    fit p z h = omega arith

cut_lt : (p w : ℕ) → 2 ^ p ≤ w → w / 2 ^ (size w - suc p) < 2 ^ (p + 1)
cut_lt p w h = (div-lt_iff_lt-mul (pow_pos (size w - suc p))).1 (lt_of_lt_of_le (size-lt w) (le_of_eq (ap (λ (x : ℕ). 2 ^ x) (fit p (size w) (digits_over p w h)) ∙ pow-add 2 (p + 1) (size w - suc p))))
  where
    fit : (p z : ℕ) → p < z → z ≡ p + 1 + (z - suc p)
    fit p z h = omega arith

next : (w P : ℕ) → 0 < P → suc w ≤ suc (w / P) * P
next w P h =
    let e : w / P * P + w % P ≡ w = div-add-mod' w P in
    let m : w % P < P = mod-lt w h in
    let s : suc (w / P) * P ≡ w / P * P + P = suc-mul (w / P) P in
    omega arith

pub same_between : (f : Format) (s : Bool) (w a c b d : ℕ) → 0 < c → 0 < d → 2 ^ prec f ≤ w → w * c < a * 2 ^ low f → a * 2 ^ low f < suc w * c → w * d < b * 2 ^ low f → b * 2 ^ low f < suc w * d
    → round f s a c ≡ round f s b d
same_between f s w a c b d C D W l h l' h' =
    let y = size w - suc (prec f) in
    let j = w / 2 ^ y in
    round_between f s a c j y C (cut_ge (prec f) w W) (cut_lt (prec f) w W) (lt_of_le_of_lt (mul-le-mul_right c (div-mul-le_self w (2 ^ y))) l) (lt_of_lt_of_le h (mul-le-mul_right c (next w (2 ^ y) (pow_pos y))))
    ∙ sym (round_between f s b d j y D (cut_ge (prec f) w W) (cut_lt (prec f) w W) (lt_of_le_of_lt (mul-le-mul_right d (div-mul-le_self w (2 ^ y))) l') (lt_of_lt_of_le h' (mul-le-mul_right d (next w (2 ^ y) (pow_pos y)))))

-- ---- the root's whole part has all the digits that are kept, and more
room : (f : Format) → prec f + prec f ≤ low f
room binary32 = lit≤ tt
room binary64 = lit≤ tt

sq_grows : (b : ℕ) → b * b < suc b * suc b
sq_grows b = let x : suc b * suc b ≡ b * b + 2 * b + 1 = sq_suc b in omega arith

sq_le : (a b : ℕ) → a * a ≤ b * b → a ≤ b
sq_le a b h = root_le a b (b * b) h (sq_grows b)

module _ (f : Format) (a : ℕ) (A : 0 < a) where
  wide : 2 ^ prec f ≤ whole (size (a * 2 ^ low f)) (a * 2 ^ low f)
  wide =
      let m = a * 2 ^ low f in
      root_le (2 ^ prec f) (whole (size m) m) m
      (le_trans (le_of_eq (sym (pow-add 2 (prec f) (prec f)))) (le_trans (pow_mono (room f)) (le_trans (le_of_eq (sym (native.Mathlib.Nat.one-mul (2 ^ low f)))) (mul-le-mul_right (2 ^ low f) A))))
      (whole_of m).1

module _ (f : Format) (a u v : ℕ) (A : 0 < a) (B : 0 < v) where
  -- both sides in smallest values: (u / v)² and x
  squared : u * u * 2 ^ low f * 2 ^ low f ≡ u * 2 ^ low f * (u * 2 ^ low f)
  squared = mul_assoc (u * u) (2 ^ low f) (2 ^ low f) ∙ mul-mul-mul_comm u u (2 ^ low f) (2 ^ low f)

  below-sq : u * u * 2 ^ low f ≤ a * (v * v) → u * 2 ^ low f * (u * 2 ^ low f) ≤ a * 2 ^ low f * (v * v)
  below-sq h = le_trans (le_of_eq (sym squared)) (le_trans (mul-le-mul_right (2 ^ low f) h) (le_of_eq (mul_right_comm a (v * v) (2 ^ low f))))

  above-sq : a * (v * v) ≤ u * u * 2 ^ low f → a * 2 ^ low f * (v * v) ≤ u * 2 ^ low f * (u * 2 ^ low f)
  above-sq h = le_trans (le_of_eq (mul_right_comm a (2 ^ low f) (v * v))) (le_trans (mul-le-mul_right (2 ^ low f) h) (le_of_eq squared))

  -- with the whole part w and one half more or not
  module _ (w : ℕ) (W : 2 ^ prec f ≤ w) (is : IsRoot (a * 2 ^ low f) w) where
    twice : (x : ℕ) → x * 2 ^ suc (low f) ≡ 2 * (x * 2 ^ low f)
    twice x = ap (λ (z : ℕ). x * z) (pow-succ' 2 (low f)) ∙ mul_left_comm x 2 (2 ^ low f)

    wv-sq : w * w * (v * v) ≡ w * v * (w * v)
    wv-sq = mul-mul-mul_comm w w v v

    sv-sq : suc w * suc w * (v * v) ≡ suc w * v * (suc w * v)
    sv-sq = mul-mul-mul_comm (suc w) (suc w) v v

    vv : 0 < v * v
    vv = mul-pos B B

    -- the root is w exactly
    exact_below : w * w ≡ a * 2 ^ low f → u * u * 2 ^ low f ≤ a * (v * v) → T (le (round f false u v) (round f false (w * 2 + 0) (2 ^ suc (low f))))
    exact_below e h =
        let k : u * 2 ^ low f ≤ w * v = sq_le (u * 2 ^ low f) (w * v) (le_trans (below-sq h) (le_of_eq (ap (λ (z : ℕ). z * (v * v)) (sym e) ∙ wv-sq))) in
        let t : u * 2 ^ suc (low f) ≡ 2 * (u * 2 ^ low f) = twice u in
        let g : (w * 2 + 0) * v ≡ 2 * (w * v) = ap (λ (z : ℕ). z * v) (native.Mathlib.Nat.add-zero (w * 2) ∙ mul_comm w 2) ∙ mul_assoc 2 w v in
        round_mono f u v (w * 2 + 0) (2 ^ suc (low f)) B (pow_pos (suc (low f))) (omega arith)

    exact_above : w * w ≡ a * 2 ^ low f → a * (v * v) ≤ u * u * 2 ^ low f → T (le (round f false (w * 2 + 0) (2 ^ suc (low f))) (round f false u v))
    exact_above e h =
        let k : w * v ≤ u * 2 ^ low f = sq_le (w * v) (u * 2 ^ low f) (le_trans (le_of_eq (sym wv-sq ∙ ap (λ (z : ℕ). z * (v * v)) e)) (above-sq h)) in
        let t : u * 2 ^ suc (low f) ≡ 2 * (u * 2 ^ low f) = twice u in
        let g : (w * 2 + 0) * v ≡ 2 * (w * v) = ap (λ (z : ℕ). z * v) (native.Mathlib.Nat.add-zero (w * 2) ∙ mul_comm w 2) ∙ mul_assoc 2 w v in
        round_mono f (w * 2 + 0) (2 ^ suc (low f)) u v (pow_pos (suc (low f))) B (omega arith)

    -- it is not: the half stands for it
    half_in : (w * 2 ^ suc (low f) < (w * 2 + 1) * 2 ^ low f) × ((w * 2 + 1) * 2 ^ low f < suc w * 2 ^ suc (low f))
    half_in =
        let P : 0 < 2 ^ low f = pow_pos (low f) in
        let t : w * 2 ^ suc (low f) ≡ 2 * (w * 2 ^ low f) = twice w in
        let t' : suc w * 2 ^ suc (low f) ≡ 2 * (suc w * 2 ^ low f) = twice (suc w) in
        let s : suc w * 2 ^ low f ≡ w * 2 ^ low f + 2 ^ low f = suc-mul w (2 ^ low f) in
        let g : (w * 2 + 1) * 2 ^ low f ≡ 2 * (w * 2 ^ low f) + 2 ^ low f = ap (λ (z : ℕ). z * 2 ^ low f) (native.Mathlib.Numerals.add-one (w * 2)) ∙ suc-mul (w * 2) (2 ^ low f) ∙ ap (λ (z : ℕ). z + 2 ^ low f) (ap (λ (z : ℕ). z * 2 ^ low f) (mul_comm w 2) ∙ mul_assoc 2 w (2 ^ low f)) in
        (omega arith, omega arith)

    half-v : (w * 2 + 1) * v ≡ 2 * (w * v) + v
    half-v = ap (λ (z : ℕ). z * v) (native.Mathlib.Numerals.add-one (w * 2)) ∙ suc-mul (w * 2) v ∙ ap (λ (z : ℕ). z + v) (ap (λ (z : ℕ). z * v) (mul_comm w 2) ∙ mul_assoc 2 w v)

    alike : w * v < u * 2 ^ low f → u * 2 ^ low f < suc w * v → round f false u v ≡ round f false (w * 2 + 1) (2 ^ suc (low f))
    alike l h = same_between f false w u v (w * 2 + 1) (2 ^ suc (low f)) B (pow_pos (suc (low f))) W l h half_in.0 half_in.1

    itself : T (le (round f false (w * 2 + 1) (2 ^ suc (low f))) (round f false (w * 2 + 1) (2 ^ suc (low f))))
    itself = round_mono f (w * 2 + 1) (2 ^ suc (low f)) (w * 2 + 1) (2 ^ suc (low f)) (pow_pos (suc (low f))) (pow_pos (suc (low f))) (le_refl ((w * 2 + 1) * 2 ^ suc (low f)))

    half-below : u * u * 2 ^ low f ≤ a * (v * v) → T (le (round f false u v) (round f false (w * 2 + 1) (2 ^ suc (low f))))
    half-below h = go (leb (u * 2 ^ suc (low f)) ((w * 2 + 1) * v)) (leb→le (u * 2 ^ suc (low f)) ((w * 2 + 1) * v)) (nleb→lt (u * 2 ^ suc (low f)) ((w * 2 + 1) * v))
      where
        under : u * 2 ^ low f < suc w * v
        under = root_lt (u * 2 ^ low f) (suc w * v) (a * 2 ^ low f * (v * v)) (below-sq h) (lt_of_lt_of_le (mul-lt-mul_of_pos_right is.1 vv) (le_of_eq sv-sq))

        go : (b : Bool) → (T b → u * 2 ^ suc (low f) ≤ (w * 2 + 1) * v) → (T (not b) → (w * 2 + 1) * v < u * 2 ^ suc (low f)) → T (le (round f false u v) (round f false (w * 2 + 1) (2 ^ suc (low f))))
        go true k g = round_mono f u v (w * 2 + 1) (2 ^ suc (low f)) B (pow_pos (suc (low f))) (k tt)
        go false k g =
            let t : u * 2 ^ suc (low f) ≡ 2 * (u * 2 ^ low f) = twice u in
            let e = half-v in
            let m : (w * 2 + 1) * v < u * 2 ^ suc (low f) = g tt in
            let over : w * v < u * 2 ^ low f = omega arith in
            subst (λ (z : Float). T (le z (round f false (w * 2 + 1) (2 ^ suc (low f))))) (sym (alike over under)) itself

    half-above : w * w < a * 2 ^ low f → a * (v * v) ≤ u * u * 2 ^ low f → T (le (round f false (w * 2 + 1) (2 ^ suc (low f))) (round f false u v))
    half-above q h = go (leb ((w * 2 + 1) * v) (u * 2 ^ suc (low f))) (leb→le ((w * 2 + 1) * v) (u * 2 ^ suc (low f))) (nleb→lt ((w * 2 + 1) * v) (u * 2 ^ suc (low f)))
      where
        over : w * v < u * 2 ^ low f
        over = root_lt (w * v) (u * 2 ^ low f) (w * w * (v * v)) (le_of_eq (sym wv-sq)) (lt_of_lt_of_le (mul-lt-mul_of_pos_right q vv) (above-sq h))

        go : (b : Bool) → (T b → (w * 2 + 1) * v ≤ u * 2 ^ suc (low f)) → (T (not b) → u * 2 ^ suc (low f) < (w * 2 + 1) * v) → T (le (round f false (w * 2 + 1) (2 ^ suc (low f))) (round f false u v))
        go true k g = round_mono f (w * 2 + 1) (2 ^ suc (low f)) u v (pow_pos (suc (low f))) B (k tt)
        go false k g =
            let t : u * 2 ^ suc (low f) ≡ 2 * (u * 2 ^ low f) = twice u in
            let e = half-v in
            let s : suc w * v ≡ w * v + v = suc-mul w v in
            let m : u * 2 ^ suc (low f) < (w * 2 + 1) * v = g tt in
            let under : u * 2 ^ low f < suc w * v = omega arith in
            subst (λ (z : Float). T (le (round f false (w * 2 + 1) (2 ^ suc (low f))) z)) (sym (alike over under)) itself

  root_below : u * u * 2 ^ low f ≤ a * (v * v) → T (le (round f false u v) (root_of f (a * 2 ^ low f)))
  root_below h =
      let m = a * 2 ^ low f in
      let w = whole (size m) m in
      subst (λ (z : Float). T (le (round f false u v) z)) (sym (opened f m)) (go w (wide f a A) (whole_of m) (eqb (w * w) m) (eqb→eq (w * w) m))
    where
      go : (w : ℕ) → 2 ^ prec f ≤ w → IsRoot (a * 2 ^ low f) w → (b : Bool) → (T b → w * w ≡ a * 2 ^ low f) → T (le (round f false u v) (round f false (w * 2 + extra b) (2 ^ suc (low f))))
      go w W is true e = exact_below w W is (e tt) h
      go w W is false e = half-below w W is h

  root-above : a * (v * v) ≤ u * u * 2 ^ low f → T (le (root_of f (a * 2 ^ low f)) (round f false u v))
  root-above h =
      let m = a * 2 ^ low f in
      let w = whole (size m) m in
      subst (λ (z : Float). T (le z (round f false u v))) (sym (opened f m)) (go w (wide f a A) (whole_of m) (eqb (w * w) m) (eqb→eq (w * w) m) (λ (e : w * w ≡ m). subst (λ (x : ℕ). T (eqb (w * w) x)) e (eqb_refl (w * w))))
    where
      go : (w : ℕ) → 2 ^ prec f ≤ w → IsRoot (a * 2 ^ low f) w → (b : Bool) → (T b → w * w ≡ a * 2 ^ low f) → (w * w ≡ a * 2 ^ low f → T b) → T (le (round f false (w * 2 + extra b) (2 ^ suc (low f))) (round f false u v))
      go w W is true e n = exact_above w W is (e tt) h
      go w W is false e n = half-above w W is (lib.Arith.lt_of_le-ne is.0 n) h

-- ---- the law, for x = a / 2 ^ low
sqrt_below : (f : Format) (x : Float) (a u v : ℕ) → HasValue x false a (2 ^ low f) → 0 < a → 0 < v → u * u * 2 ^ low f ≤ a * (v * v) → T (le (round f false u v) (sqrt f x))
sqrt_below f x a u v h A B l = subst (λ (z : Float). T (le (round f false u v) z)) (sym (sqrt_value f x a A h)) (root_below f a u v A B l)

sqrt_above : (f : Format) (x : Float) (a u v : ℕ) → HasValue x false a (2 ^ low f) → 0 < a → 0 < v → a * (v * v) ≤ u * u * 2 ^ low f → T (le (sqrt f x) (round f false u v))
sqrt_above f x a u v h A B l = subst (λ (z : Float). T (le z (round f false u v))) (sym (sqrt_value f x a A h)) (root-above f a u v A B l)

-- ---- the law as it is read: x is the positive value m * 2 ^ e of the format f, and u / v any fraction
module _ (f : Format) (m : ℕ) (e : ℤ) (u v : ℕ) (t : T (fits f (fin false (suc m) e))) (B : 0 < v) where
  abbrev x : Float
  x = fin false (suc m) e

  units_of : (n : ℕ) × HasValue x false n (2 ^ low f) × (suc m * up e * 2 ^ low f ≡ n * down e)
  units_of = value_units f x false (suc m * up e) (down e) t (down_pos e) (refl, refl)

  some : 0 < units_of.0
  some = pos-of-mul units_of.0 (down e) (subst (λ (z : ℕ). 0 < z) units_of.2 (mul-pos (mul-pos (zero-lt-suc m) (up_pos e)) (pow_pos (low f))))
    where
      pos-of-mul : (n d : ℕ) → 0 < n * d → 0 < n
      pos-of-mul zero d h = subst (λ (z : ℕ). 0 < z) (zero-mul d) h
      pos-of-mul (suc n) d h = zero-lt-suc n

  -- both sides times down e
  left-side : u * u * 2 ^ low f * down e ≡ u * u * down e * 2 ^ low f
  left-side = mul_right_comm (u * u) (2 ^ low f) (down e)

  right_side : units_of.0 * (v * v) * down e ≡ suc m * up e * (v * v) * 2 ^ low f
  right_side = mul_right_comm units_of.0 (v * v) (down e) ∙ ap (λ (z : ℕ). z * (v * v)) (sym units_of.2) ∙ mul_right_comm (suc m * up e) (2 ^ low f) (v * v)

  -- (u / v)² ≤ x gives round (u / v) ≤ sqrt x
  pub root-not-below : u * u * down e ≤ suc m * up e * (v * v) → T (le (round f false u v) (sqrt f x))
  root-not-below h =
      sqrt_below f x units_of.0 u v units_of.1 some B
      (le_of_mul-le-mul_right (le_trans (le_of_eq left-side) (le_trans (mul-le-mul_right (2 ^ low f) h) (le_of_eq (sym right_side)))) (down_pos e))

  -- x ≤ (u / v)² gives sqrt x ≤ round (u / v)
  pub root-not-above : suc m * up e * (v * v) ≤ u * u * down e → T (le (sqrt f x) (round f false u v))
  root-not-above h =
      sqrt_above f x units_of.0 u v units_of.1 some B
      (le_of_mul-le-mul_right (le_trans (le_of_eq right_side) (le_trans (mul-le-mul_right (2 ^ low f) h) (le_of_eq (sym left-side)))) (down_pos e))
