-- `nearest` by the three outcomes of its comparison, and `closest` by two inequalities. Assumes nothing.
use Rattle.std.proofs.Common.{◌≡◌, ℕ, zero, suc, ◌+◌, ◌*◌, ◌/◌, ◌%◌, ◌<◌, ◌≤◌, not, T, eqb, ◌⊎◌, sym, refl, ap, ◌∙◌, subst, inl, inr, mul-le-mul_right, mod-lt, suc-mul, div-add-mod', arith, eqb→eq, leb→le}
use Prim.Native.Nat.{compare, Ordering}
use lib.Dec.{is_le, compare_is_eq, nleb→lt, eqb_refl}
use lib.Arith.{lt_of_le-ne}
use lib.Ieee.{nearest}
use lib.Ieee.Nearest.{closest}

abbrev Cmp : Ordering → ℕ → ℕ → Type 0
Cmp Ordering.lt a b = a < b
Cmp Ordering.eq a b = a ≡ b
Cmp Ordering.gt a b = b < a

cmp : (a b : ℕ) → Cmp (compare a b) a b
cmp a b = go (compare a b) (leb→le a b) (nleb→lt a b) (eqb→eq a b) (λ (e : a ≡ b). subst (λ (x : ℕ). T (eqb a x)) e (eqb_refl a))
  where
    go : (o : Ordering) → (T (is_le o) → a ≤ b) → (T (not (is_le o)) → b < a) → (T (compare_is_eq o) → a ≡ b) → (a ≡ b → T (compare_is_eq o)) → Cmp o a b
    go Ordering.lt h k e n = lt_of_le-ne (h tt) n
    go Ordering.eq h k e n = e tt
    go Ordering.gt h k e n = k tt

no_lt_gt : (a b : ℕ) → a < b → b < a → ⊥
no_lt_gt a b h k = omega arith

no_lt_eq : (a b : ℕ) → a < b → a ≡ b → ⊥
no_lt_eq a b h k = omega arith

pub nearest_below : (q t d : ℕ) → t < d → nearest q (compare t d) ≡ q
nearest_below q t d h = go (compare t d) (cmp t d)
  where
    go : (o : Ordering) → Cmp o t d → nearest q o ≡ q
    go Ordering.lt k = refl
    go Ordering.eq k = absurd (no_lt_eq t d h k)
    go Ordering.gt k = absurd (no_lt_gt t d h k)

pub nearest_above : (q t d : ℕ) → d < t → nearest q (compare t d) ≡ suc q
nearest_above q t d h = go (compare t d) (cmp t d)
  where
    go : (o : Ordering) → Cmp o t d → nearest q o ≡ suc q
    go Ordering.lt k = absurd (no_lt_gt t d k h)
    go Ordering.eq k = absurd (no_lt_eq d t h (sym k))
    go Ordering.gt k = refl

pub nearest_tie : (q t d : ℕ) → t ≡ d → nearest q (compare t d) ≡ q + q % 2
nearest_tie q t d h = go (compare t d) (cmp t d)
  where
    go : (o : Ordering) → Cmp o t d → nearest q o ≡ q + q % 2
    go Ordering.lt k = absurd (no_lt_eq t d k h)
    go Ordering.eq k = refl
    go Ordering.gt k = absurd (no_lt_eq d t k (sym h))

-- ---- a / b to the nearest whole number is at most a half away from a / b
near : (q r b w : ℕ) (o : Ordering) → w ≡ q * b → r < b → Cmp o (r * 2) b → (2 * (nearest q o * b) ≤ 2 * (w + r) + b) × (2 * (w + r) ≤ 2 * (nearest q o * b) + b)
near q r b w Ordering.lt e l k = (omega (arith, e), omega (arith, e))
near q r b w Ordering.eq e l k = go (q % 2) (mod-lt q (zero-lt 1))
  where
    zero-lt : (n : ℕ) → 0 < suc n
    zero-lt n = omega arith

    go : (z : ℕ) → z < 2 → (2 * ((q + z) * b) ≤ 2 * (w + r) + b) × (2 * (w + r) ≤ 2 * ((q + z) * b) + b)
    go zero h = let x : (q + 0) * b ≡ w = ap (λ (y : ℕ). y * b) (plus-zero q) ∙ sym e in (omega arith, omega arith)
      where
        plus-zero : (n : ℕ) → n + 0 ≡ n
        plus-zero n = omega arith
    go (suc zero) h = let x : (q + 1) * b ≡ b + w = ap (λ (y : ℕ). y * b) (plus_one q) ∙ suc-mul q b ∙ swap (q * b) ∙ ap (λ (y : ℕ). b + y) (sym e) in (omega arith, omega arith)
      where
        plus_one : (n : ℕ) → n + 1 ≡ suc n
        plus_one n = omega arith

        swap : (n : ℕ) → n + b ≡ b + n
        swap n = omega arith
    go (suc (suc z)) h = absurd (big z h)
      where
        big : (n : ℕ) → suc (suc n) < 2 → ⊥
        big n l = omega arith
near q r b w Ordering.gt e l k = let x : suc q * b ≡ q * b + b = suc-mul q b in (omega (arith, e), omega (arith, e))

pub closest_near : (a b : ℕ) → 0 < b → (2 * (closest a b * b) ≤ 2 * a + b) × (2 * a ≤ 2 * (closest a b * b) + b)
closest_near a b B =
    subst (λ (x : ℕ). (2 * (closest a b * b) ≤ 2 * x + b) × (2 * x ≤ 2 * (closest a b * b) + b)) (div-add-mod' a b)
    (near (a / b) (a % b) b (a / b * b) (compare (a % b * 2) b) refl (mod-lt a B) (cmp (a % b * 2) b))

-- ---- and it is the only one that is nearer than a half
only : (q r b K x y : ℕ) (o : Ordering) → Cmp o (r * 2) b → r < b → x ≡ q * b → y ≡ K * b → 2 * y < 2 * (x + r) + b → 2 * (x + r) < 2 * y + b → nearest q o ≡ K
only q r b K x y o k l e f h g = elim (tri q K) [
  | inl a ↦  -- q < K, so suc q ≤ K and K * b ≤ suc q * b
      elim (tri (suc q) K) [
        | inl a' ↦ absurd (far1 (mul-le-mul_right b a'))
        | inr c ↦ elim c [ inl a' ↦ up o k a' | inr a' ↦ absurd (no a a') ]
      ]
  | inr c ↦ elim c [ inl a ↦ same o k a | inr a ↦ absurd (far2 (mul-le-mul_right b a)) ]
]
  where
    tri : (m n : ℕ) → (m < n) ⊎ ((m ≡ n) ⊎ (n < m))
    tri m n = go (compare m n) (cmp m n)
      where
        go : (o : Ordering) → Cmp o m n → (m < n) ⊎ ((m ≡ n) ⊎ (n < m))
        go Ordering.lt w = inl w
        go Ordering.eq w = inr (inl w)
        go Ordering.gt w = inr (inr w)

    no : q < K → K < suc q → ⊥
    no a c = omega arith

    far1 : suc (suc q) * b ≤ K * b → ⊥
    far1 w = let s : suc (suc q) * b ≡ suc q * b + b = suc-mul (suc q) b in let s' : suc q * b ≡ q * b + b = suc-mul q b in omega arith

    far2 : suc K * b ≤ q * b → ⊥
    far2 w = let s : suc K * b ≡ K * b + b = suc-mul K b in omega arith

    same : (o : Ordering) → Cmp o (r * 2) b → q ≡ K → nearest q o ≡ K
    same Ordering.lt w a = a
    same Ordering.eq w a = let s : q * b ≡ K * b = ap (λ (z : ℕ). z * b) a in absurd (bad s w)
      where
        bad : q * b ≡ K * b → r * 2 ≡ b → ⊥
        bad s w = omega arith
    same Ordering.gt w a = let s : q * b ≡ K * b = ap (λ (z : ℕ). z * b) a in absurd (bad s w)
      where
        bad : q * b ≡ K * b → b < r * 2 → ⊥
        bad s w = omega arith

    up : (o : Ordering) → Cmp o (r * 2) b → suc q ≡ K → nearest q o ≡ K
    up Ordering.lt w a = absurd (bad (ap (λ (z : ℕ). z * b) a) (suc-mul q b) w)
      where
        bad : suc q * b ≡ K * b → suc q * b ≡ q * b + b → r * 2 < b → ⊥
        bad s t w = omega arith
    up Ordering.eq w a = absurd (bad (ap (λ (z : ℕ). z * b) a) (suc-mul q b) w)
      where
        bad : suc q * b ≡ K * b → suc q * b ≡ q * b + b → r * 2 ≡ b → ⊥
        bad s t w = omega arith
    up Ordering.gt w a = a

pub closest_is : (a b K : ℕ) → 0 < b → 2 * (K * b) < 2 * a + b → 2 * a < 2 * (K * b) + b → closest a b ≡ K
closest_is a b K B h g =
    let e = div-add-mod' a b in
    only (a / b) (a % b) b K (a / b * b) (K * b) (compare (a % b * 2) b) (cmp (a % b * 2) b) (mod-lt a B) refl refl
    (subst (λ (x : ℕ). 2 * (K * b) < 2 * x + b) (sym e) h)
    (subst (λ (x : ℕ). 2 * x < 2 * (K * b) + b) (sym e) g)

pub closest_zero : (a b : ℕ) → 2 * a < b → closest a b ≡ 0
closest_zero a b h = closest_is a b 0 (pos_of a b h) (first a b h) (second a b h)
  where
    pos_of : (a b : ℕ) → 2 * a < b → 0 < b
    pos_of a b h = omega arith

    first : (a b : ℕ) → 2 * a < b → 2 * (0 * b) < 2 * a + b
    first a b h = omega arith

    second : (a b : ℕ) → 2 * a < b → 2 * a < 2 * (0 * b) + b
    second a b h = omega arith
