-- The root by its digits: whole digits and what they leave say what `root_of` rounds to. Assumes nothing.
use Rattle.std.proofs.Common.{◌≡◌, ℕ, zero, suc, ◌+◌, ◌-◌, ◌*◌, ◌/◌, ◌^◌, ◌<◌, ◌≤◌, Bool, true, false, T, eqb, ◌⊎◌, sym, refl, ap, ◌∙◌, subst, inl, inr, true≢false, le_trans, le_of_eq, lt_of_lt_of_le, lt_of_le_of_lt, add-zero, le_of_lt, lt_irrefl, mul-le-mul_right, mul_assoc, mul_comm, eq-or-lt_of_le, mul-lt-mul_of_pos_right, mul-pos, zero-mul, mul_right_comm, mul-div_cancel, arith, eqb→eq, pow_pos, pow-add, shl_lt}
use native.Mathlib.Nat.{mul-mul-mul_comm, pow-succ'}
use mathlib.Core.Bool.{false≢true}
use lib.Dec.{not_T}
use lib.Ieee.{Float, nan, inf, fin, Format, prec, low, up, down, size, units, round, is_nan, fits}
use lib.Ieee.Fits.{two, two-le_pos, down_pos, eq→eqb, round-fits}
use lib.Ieee.Bits.{is_true, is_false}
use lib.Ieee.Exact.{HasValue}
use lib.Ieee.Nearest.{closest}
use lib.Ieee.Scale.{round_same}
use Rattle.floats.specs.Sqrt.{more as extra, whole, root_of, sqrt}
use Rattle.floats.proofs.Grid.{round_grid, round_is_number}
use Rattle.floats.proofs.Squares.{sq_suc, root_le, root_lt, whole_is, whole_of}
use Rattle.floats.proofs.Between.{round_between}

pub opened : (f : Format) (n : ℕ) → root_of f n ≡ round f false (whole (size n) n * 2 + extra (eqb (whole (size n) n * whole (size n) n) n)) (2 ^ suc (low f))
unfolding root_of
opened f n = refl

-- n is a square: nothing is left
pub root_exact : (f : Format) (q y : ℕ) → 2 ^ prec f ≤ q → q < 2 ^ (prec f + 1) → root_of f (q * q * 2 ^ (y + y)) ≡ units f false (closest (q * 2) 4) (suc y)
root_exact f q y Q Q' =
    let l = low f in
    let P = 2 ^ y in
    let n = q * q * 2 ^ (y + y) in
    let sq : q * P * (q * P) ≡ n = mul-mul-mul_comm q P q P ∙ ap (λ (x : ℕ). q * q * x) (sym (pow-add 2 y y)) in
    let w : whole (size n) n ≡ q * P = whole_is n (q * P) (le_of_eq sq, lt_of_le_of_lt (le_of_eq (sym sq)) (grows (q * P))) in
    let st : extra (eqb (q * P * (q * P)) n) ≡ 0 = ap (λ (b : Bool). extra b) (is_true (eqb (q * P * (q * P)) n) (eq→eqb sq)) in
    opened f n
    ∙ ap (λ (x : ℕ). round f false (x * 2 + extra (eqb (x * x) n)) (2 ^ suc l)) w
    ∙ ap (λ (x : ℕ). round f false (q * P * 2 + x) (2 ^ suc l)) st
    ∙ ap (λ (x : ℕ). round f false x (2 ^ suc l)) (add-zero (q * P * 2))
    ∙ round_same f false (q * P * 2) (2 ^ suc l) (q * 2 * 2 ^ suc y) (2 ^ (l + 2)) (pow_pos (suc l)) (pow_pos (l + 2)) (cross l)
    ∙ round_grid f false (q * 2) (suc y) 2 (hi (prec f) Q') (inr (lo (prec f) (two-le_pos (prec f) (two f)) Q))
  where
    grows : (a : ℕ) → a * a < suc a * suc a
    grows a = let x : suc a * suc a ≡ a * a + 2 * a + 1 = sq_suc a in omega arith

    eight : (q P L : ℕ) → q * P * 2 * (L * 4) ≡ q * 2 * (2 * P) * (2 * L)
    eight q P L =
        mul-mul-mul_comm (q * P) 2 L 4
        ∙ sym (ap (λ (x : ℕ). q * 2 * x * (2 * L)) (mul_comm 2 P) ∙ ap (λ (x : ℕ). x * (2 * L)) (mul-mul-mul_comm q 2 P 2) ∙ ap (λ (x : ℕ). q * P * 4 * x) (mul_comm 2 L) ∙ mul-mul-mul_comm (q * P) 4 L 2)

    cross : (l : ℕ) → q * 2 ^ y * 2 * 2 ^ (l + 2) ≡ q * 2 * 2 ^ suc y * 2 ^ suc l
    cross l =
        ap (λ (x : ℕ). q * 2 ^ y * 2 * x) (pow-add 2 l 2)
        ∙ eight q (2 ^ y) (2 ^ l)
        ∙ sym (ap (λ (x : ℕ). q * 2 * x * 2 ^ suc l) (pow-succ' 2 y) ∙ ap (λ (x : ℕ). q * 2 * (2 * 2 ^ y) * x) (pow-succ' 2 l))

    hi : (p : ℕ) → q < 2 ^ (p + 1) → q * 2 < 2 ^ (p + 2)
    hi p h = subst (λ (x : ℕ). q * 2 < 2 ^ x) (next p) (shl_lt (p + 1) 1 h)
      where
        next : (p : ℕ) → p + 1 + 1 ≡ p + 2
        next p = omega arith

    lo : (p : ℕ) → 0 < p → 2 ^ p ≤ q → 2 ^ (p - 1 + 2) ≤ q * 2
    lo p h g = le_trans (le_of_eq (ap (λ (x : ℕ). 2 ^ x) (next p h) ∙ pow-add 2 p 1)) (mul-le-mul_right 2 g)
      where
        next : (p : ℕ) → 0 < p → p - 1 + 2 ≡ p + 1
        next p h = omega arith

-- something is left: the root lies strictly between q and q + 1, times 2 ^ y
pub root_inexact : (f : Format) (q r y : ℕ) → 2 ^ prec f ≤ q → q < 2 ^ (prec f + 1) → 0 < r → r ≤ 2 * q → root_of f ((q * q + r) * 2 ^ (y + y)) ≡ units f false (closest (2 * q + 1) 4) (suc y)
root_inexact f q r y Q Q' R R' =
    let l = low f in
    let P = 2 ^ y in
    let S = 2 ^ (y + y) in
    let n = (q * q + r) * S in
    let w = whole (size n) n in
    let is = whole_of n in
    let sq : q * P * (q * P) ≡ q * q * S = mul-mul-mul_comm q P q P ∙ ap (λ (x : ℕ). q * q * x) (sym (pow-add 2 y y)) in
    let sq' : suc q * P * (suc q * P) ≡ suc q * suc q * S = mul-mul-mul_comm (suc q) P (suc q) P ∙ ap (λ (x : ℕ). suc q * suc q * x) (sym (pow-add 2 y y)) in
    let below : q * P * (q * P) < n = lt_of_le_of_lt (le_of_eq sq) (mul-lt-mul_of_pos_right (more (q * q)) (pow_pos (y + y))) in
    let over : n < suc q * P * (suc q * P) = lt_of_lt_of_le (mul-lt-mul_of_pos_right less (pow_pos (y + y))) (le_of_eq (sym sq')) in
    let ge : q * P ≤ w = root_le (q * P) w n (le_of_lt below) is.1 in
    let lt : w < suc q * P = root_lt w (suc q * P) n is.0 over in
    let h = w * 2 + extra (eqb (w * w) n) in
    let lo : q * P * 2 < h = low_of w n (q * P) ge below in
    let hi : h < suc q * P * 2 = high-of w n (suc q * P) lt in
    opened f n
    ∙ round_between f false h (2 ^ suc l) q y (pow_pos (suc l)) Q Q'
    (lt_of_le_of_lt (le_of_eq (halved (q * P) l)) (mul-lt-mul_of_pos_right lo (pow_pos l)))
    (lt_of_lt_of_le (mul-lt-mul_of_pos_right hi (pow_pos l)) (le_of_eq (sym (halved (suc q * P) l))))
  where
    more : (a : ℕ) → a < a + r
    more a = omega arith

    less : q * q + r < suc q * suc q
    less = let x : suc q * suc q ≡ q * q + 2 * q + 1 = sq_suc q in omega arith

    halved : (a l : ℕ) → a * 2 ^ suc l ≡ a * 2 * 2 ^ l
    halved a l = ap (λ (x : ℕ). a * x) (pow-succ' 2 l) ∙ sym (mul_assoc a 2 (2 ^ l))

    either : (b : Bool) → (extra b ≡ 0) ⊎ (extra b ≡ 1)
    either true = inl refl
    either false = inr refl

    high-of : (w n u : ℕ) → w < u → w * 2 + extra (eqb (w * w) n) < u * 2
    high-of w n u h = elim (either (eqb (w * w) n)) [ inl e ↦ omega arith | inr e ↦ omega arith ]

    low_of : (w n u : ℕ) → u ≤ w → u * u < n → u * 2 < w * 2 + extra (eqb (w * w) n)
    low_of w n u g h = elim (eq-or-lt_of_le g) [
      | inl e ↦
          let z : extra (eqb (w * w) n) ≡ 1 = ap (λ (b : Bool). extra b) (is_false (eqb (w * w) n) (not_T (eqb (w * w) n) (λ t. lt_irrefl n (lt_of_le_of_lt (le_of_eq (sym (eqb→eq (w * w) n t) ∙ ap (λ (x : ℕ). x * x) (sym e))) h)))) in
          omega arith
      | inr k ↦ elim (either (eqb (w * w) n)) [ inl e ↦ omega arith | inr e ↦ omega arith ]
    ]

-- ---- `sqrt` by the value
pub sqrt_value : (f : Format) (x : Float) (a : ℕ) → 0 < a → HasValue x false a (2 ^ low f) → sqrt f x ≡ root_of f (a * 2 ^ low f)
unfolding sqrt
sqrt_value f nan a A v = absurd v
sqrt_value f (inf s) a A v = absurd v
sqrt_value f (fin true m e) a A v = absurd (true≢false v.0)
sqrt_value f (fin false zero e) a A v = absurd (lt_irrefl 0 (subst (λ (x : ℕ). 0 < x) (sym v.1 ∙ ap (λ (x : ℕ). x * 2 ^ low f) (zero-mul (up e)) ∙ zero-mul (2 ^ low f)) (mul-pos A (down_pos e))))
sqrt_value f (fin false (suc m) e) a A v =
    let l = 2 ^ low f in
    ap (root_of f)
    (ap (λ (x : ℕ). x / down e) (ap (λ (x : ℕ). suc m * up e * x) (pow-add 2 (low f) (low f)) ∙ sym (mul_assoc (suc m * up e) l l) ∙ ap (λ (x : ℕ). x * l) v.1 ∙ mul_right_comm a (down e) l)
    ∙ mul-div_cancel (a * l) (down_pos e))

pub sqrt_negative : (f : Format) (x : Float) (a c : ℕ) → 0 < a → HasValue x true a c → sqrt f x ≡ nan
unfolding sqrt
sqrt_negative f nan a c A v = absurd v
sqrt_negative f (inf s) a c A v = absurd v
sqrt_negative f (fin false m e) a c A v = absurd (false≢true v.0)
sqrt_negative f (fin true zero e) a c A v = absurd (lt_irrefl 0 (subst (λ (x : ℕ). 0 < x) (sym v.1 ∙ ap (λ (x : ℕ). x * c) (zero-mul (up e)) ∙ zero-mul c) (mul-pos A (down_pos e))))
sqrt_negative f (fin true (suc m) e) a c A v = refl

pub root_of-number : (f : Format) (n : ℕ) → is_nan (root_of f n) ≡ false
root_of-number f n = ap is_nan (opened f n) ∙ round_is_number f false (whole (size n) n * 2 + extra (eqb (whole (size n) n * whole (size n) n) n)) (2 ^ suc (low f))

pub root_of-fits : (f : Format) (n : ℕ) → T (fits f (root_of f n))
root_of-fits f n = subst (λ (x : Float). T (fits f x)) (sym (opened f n)) (round-fits f false (whole (size n) n * 2 + extra (eqb (whole (size n) n * whole (size n) n) n)) (2 ^ suc (low f)))
