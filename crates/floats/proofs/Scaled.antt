-- `root_scaled`: how far its radicand is shifted, that the digits of the root are 54, and the pattern that it makes of them. Assumes nothing.
use Rattle.std.proofs.Common.{◌≡◌, ℕ, suc, ◌+◌, ◌-◌, ◌*◌, ◌/◌, ◌%◌, ◌^◌, ◌<◌, ◌≤◌, Bool, true, false, not, T, eqb, sym, refl, ap, ◌∙◌, subst, inr, le_trans, le_of_eq, lt_of_lt_of_le, lt_of_le_of_lt, lt_irrefl, mul-le-mul_right, zero-lt-suc, mul_assoc, mul_comm, mul-lt-mul_of_pos_right, lt_of_not-le, le-div_iff_mul-le, zero-add, arith, lit≤, eqb→eq, pow_pos, pow_mono, pow-add, shl_lt, shl_exact, shr_lt}
use Prim.Native.Nat.{compare}
use lib.Dec.{eqb_refl}
use Rattle.std.specs.Int.{from_bool}
use lib.Count.{count_leading_zeros, leading_top}
use lib.Ieee.{binary64, units, of_bits, to_bits}
use lib.Ieee.Fits.{nearest-le}
use lib.Ieee.Bits.{of_bits-to_bits}
use lib.Ieee.Nearest.{closest, nearest-ge}
use Rattle.floats.specs.Sqrt.{root_of, more}
use Rattle.floats.specs.Parts.{Rooted}
use Rattle.floats.proofs.Grid.{units_bits}
use Rattle.floats.proofs.Squares.{sq_suc, root_le, root_lt}
use Rattle.floats.proofs.Rooting.{root_exact, root_inexact, root_of-fits}

pow_lt_back : (i p : ℕ) → 2 ^ i < 2 ^ p → i < p
pow_lt_back i p h = lt_of_not-le (λ (g : p ≤ i). lt_irrefl (2 ^ i) (lt_of_lt_of_le h (pow_mono g)))

-- ---- the shift
abbrev pub zeros : ℕ → ℕ
zeros g = count_leading_zeros 64 g

abbrev pub shift : ℕ → ℕ → ℕ
shift g e = zeros g - (e + zeros g) % 2

abbrev pub place : ℕ → ℕ → ℕ
place g e = (e + 1032 - shift g e) / 2

module _ (g : ℕ) (G : 0 < g) (G' : g < 2 ^ 53) where
  lead : (j : ℕ) × (zeros g + suc j ≡ 64) × (2 ^ j ≤ g) × (g < 2 ^ suc j)
  lead = leading_top 64 g G (lt_of_lt_of_le G' (lit≤ tt))

  pub zeros-in : (11 ≤ zeros g) × (zeros g ≤ 63)
  zeros-in =
      let t = lead in
      let j : t.0 < 53 = pow_lt_back t.0 53 (lt_of_le_of_lt t.2 G') in
      let e : zeros g + suc t.0 ≡ 64 = t.1 in
      (omega arith, omega arith)

  shift_in : (e : ℕ) → (shift g e ≤ zeros g) × (zeros g ≤ shift g e + 1)
  shift_in e = let z = zeros-in in (omega arith, omega arith)

  -- the shifted radicand loses nothing, and has 63 or 64 digits
  pub shifted : (e : ℕ) → g * 2 ^ shift g e % 2 ^ 64 ≡ g * 2 ^ shift g e
  shifted e = let t = lead in let s = shift_in e in let x : zeros g + suc t.0 ≡ 64 = t.1 in let h : suc t.0 + shift g e ≤ 64 = omega arith in shl_exact (suc t.0) (shift g e) 64 t.3 h

  pub radicand-ge : (e : ℕ) → 2 ^ 62 ≤ g * 2 ^ shift g e
  radicand-ge e =
      let t = lead in
      let s = shift_in e in
      let x : zeros g + suc t.0 ≡ 64 = t.1 in
      let h : 62 ≤ t.0 + shift g e = omega arith in
      le_trans (pow_mono h) (le_trans (le_of_eq (pow-add 2 t.0 (shift g e))) (mul-le-mul_right (2 ^ shift g e) t.2))

  pub radicand-lt : (e : ℕ) → g * 2 ^ shift g e < 2 ^ 64
  radicand-lt e = let t = lead in let s = shift_in e in let x : zeros g + suc t.0 ≡ 64 = t.1 in let h : suc t.0 + shift g e ≤ 64 = omega arith in lt_of_lt_of_le (shl_lt (suc t.0) (shift g e) t.3) (pow_mono h)

-- ---- the root has 54 digits
pub digits_ge : (a q r : ℕ) → Rooted a q r → 2 ^ 62 ≤ a → 2 ^ 53 ≤ q
digits_ge a q r w h = root_le (2 ^ 53) q (a * 2 ^ 44) (mul-le-mul_right (2 ^ 44) h) (subst (λ (x : ℕ). x < suc q * suc q) w.square less)
  where
    less : q * q + r < suc q * suc q
    less = let x : suc q * suc q ≡ q * q + 2 * q + 1 = sq_suc q in let k = w.rest in omega arith

pub digits_lt : (a q r : ℕ) → Rooted a q r → a < 2 ^ 64 → q < 2 ^ 54
digits_lt a q r w h = root_lt q (2 ^ 54) (a * 2 ^ 44) (subst (λ (x : ℕ). q * q ≤ x) w.square (part (q * q))) (mul-lt-mul_of_pos_right h (pow_pos 44))
  where
    part : (x : ℕ) → x ≤ x + r
    part x = omega arith

-- ---- the pattern
pattern_of : (n d k : ℕ) → root_of binary64 n ≡ units binary64 false (closest d 4) k → 2 ^ 54 ≤ d → d < 2 ^ 55 → k ≤ 1538 → of_bits binary64 (k * 4503599627370496 + closest d 4) ≡ root_of binary64 n
pattern_of n d k e D D' K =
    let c = closest d 4 in
    let hi : c ≤ 2 ^ 53 = le_trans (nearest-le (d / 4) (compare (d % 4 * 2) 4)) (shr_lt 53 2 D') in
    let lo : 2 ^ 52 ≤ c = le_trans ((le-div_iff_mul-le (zero-lt-suc 3)).1 D) (nearest-ge (d / 4) (compare (d % 4 * 2) 4)) in
    let all : k * 4503599627370496 + c ≤ 9218868437227405312 = under k c K hi in
    let b : to_bits binary64 (root_of binary64 n) ≡ k * 4503599627370496 + c = ap (to_bits binary64) e ∙ units_bits binary64 false c k hi (inr lo) all ∙ zero-add (k * 4503599627370496 + c) in
    ap (of_bits binary64) (sym b) ∙ of_bits-to_bits binary64 (root_of binary64 n) (root_of-fits binary64 n)
  where
    under : (k c : ℕ) → k ≤ 1538 → c ≤ 9007199254740992 → k * 4503599627370496 + c ≤ 9218868437227405312
    under k c a b = omega arith

module _ (g e : ℕ) (G : 0 < g) (G' : g < 2 ^ 53) (E : e ≤ 2045) where
  pub place_in : (place g e ≤ 1538) × (0 < place g e)
  place_in = let z = zeros-in g G G' in let s = shift_in g G G' e in (omega arith, omega arith)

  exponent : shift g e + 44 + (place g e - 1 + (place g e - 1)) ≡ e + 1074
  exponent = let z = zeros-in g G G' in omega arith

  again : suc (place g e - 1) ≡ place g e
  again = let p = place_in in omega arith

  module _ (q r : ℕ) (w : Rooted (g * 2 ^ shift g e) q r) where
    pub ge : 2 ^ 53 ≤ q
    ge = digits_ge (g * 2 ^ shift g e) q r w (radicand-ge g G G' e)

    pub lt : q < 2 ^ 54
    lt = digits_lt (g * 2 ^ shift g e) q r w (radicand-lt g G G' e)

    radicand : g * 2 ^ (e + 1074) ≡ (q * q + r) * 2 ^ (place g e - 1 + (place g e - 1))
    radicand =
        let y = place g e - 1 in
        ap (λ (x : ℕ). g * 2 ^ x) (sym exponent)
        ∙ ap (λ (x : ℕ). g * x) (pow-add 2 (shift g e + 44) (y + y) ∙ ap (λ (x : ℕ). x * 2 ^ (y + y)) (pow-add 2 (shift g e) 44))
        ∙ sym (mul_assoc g (2 ^ shift g e * 2 ^ 44) (2 ^ (y + y)))
        ∙ ap (λ (x : ℕ). x * 2 ^ (y + y)) (sym (mul_assoc g (2 ^ shift g e) (2 ^ 44)) ∙ sym w.square)

    twice-ge : (q : ℕ) → 9007199254740992 ≤ q → 18014398509481984 ≤ q * 2
    twice-ge q h = omega arith

    twice-lt : (q : ℕ) → q < 18014398509481984 → q * 2 < 36028797018963968
    twice-lt q h = omega arith

    exact : r ≡ 0 → of_bits binary64 (place g e * 4503599627370496 + closest (q * 2) 4) ≡ root_of binary64 (g * 2 ^ (e + 1074))
    exact z =
        let y = place g e - 1 in
        let n : g * 2 ^ (e + 1074) ≡ q * q * 2 ^ (y + y) = radicand ∙ ap (λ (x : ℕ). (q * q + x) * 2 ^ (y + y)) z ∙ ap (λ (x : ℕ). x * 2 ^ (y + y)) (native.Mathlib.Nat.add-zero (q * q)) in
        pattern_of (g * 2 ^ (e + 1074)) (q * 2) (place g e)
        (ap (root_of binary64) n ∙ root_exact binary64 q y ge lt ∙ ap (λ (x : ℕ). units binary64 false (closest (q * 2) 4) x) again)
        (twice-ge q ge) (twice-lt q lt) place_in.0

    odd-ge : (q : ℕ) → 9007199254740992 ≤ q → 18014398509481984 ≤ q * 2 + 1
    odd-ge q h = omega arith

    odd-lt : (q : ℕ) → q < 18014398509481984 → q * 2 + 1 < 36028797018963968
    odd-lt q h = omega arith

    some : (r : ℕ) → (r ≡ 0 → ⊥) → 0 < r
    some r h = omega arith

    inexact : (r ≡ 0 → ⊥) → of_bits binary64 (place g e * 4503599627370496 + closest (q * 2 + 1) 4) ≡ root_of binary64 (g * 2 ^ (e + 1074))
    inexact z =
        let y = place g e - 1 in
        pattern_of (g * 2 ^ (e + 1074)) (q * 2 + 1) (place g e)
        (ap (root_of binary64) radicand
        ∙ root_inexact binary64 q r y ge lt (some r z) w.rest
        ∙ ap (λ (x : ℕ). units binary64 false (closest (x + 1) 4) (suc y)) (mul_comm 2 q)
        ∙ ap (λ (x : ℕ). units binary64 false (closest (q * 2 + 1) 4) x) again)
        (odd-ge q ge) (odd-lt q lt) place_in.0

    -- both at once: the sticky digit tells them apart
    pub halved : (h : ℕ) → h ≡ from_bool (not (eqb r 0)) → (q * 2 + h < 36028797018963968) × (of_bits binary64 (place g e * 4503599627370496 + closest (q * 2 + h) 4) ≡ root_of binary64 (g * 2 ^ (e + 1074)))
    halved h is = rw (is, digit_more (eqb r 0)) (go (eqb r 0) (eqb→eq r 0) (λ z. subst (λ (x : ℕ). T (eqb r x)) z (eqb_refl r)))
      where
        digit_more : (b : Bool) → from_bool (not b) ≡ more b
        digit_more true = refl
        digit_more false = refl

        go : (b : Bool) → (T b → r ≡ 0) → (r ≡ 0 → T b) → (q * 2 + more b < 36028797018963968) × (of_bits binary64 (place g e * 4503599627370496 + closest (q * 2 + more b) 4) ≡ root_of binary64 (g * 2 ^ (e + 1074)))
        go true f n = rw (native.Mathlib.Nat.add-zero (q * 2)) (twice-lt q lt, exact (f tt))
        go false f n = (odd-lt q lt, inexact n)
