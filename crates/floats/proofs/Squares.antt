-- Squares, and the whole root: `whole` is the largest number whose square is no more. Assumes nothing.
use Rattle.std.proofs.Common.{◌≡◌, ℕ, zero, suc, ◌+◌, ◌*◌, ◌/◌, ◌^◌, ◌<◌, ◌≤◌, Bool, true, false, cond, not, T, leb, sym, ap, ◌∙◌, subst, le_refl, lt_of_lt_of_le, le_of_suc-le-suc, lt_of_le_of_lt, zero-lt-suc, suc-mul, mul_comm, div-lt_iff_lt-mul, mul-le-mul, le_antisymm, pow-suc, lt_of_not-le, mul-suc, not-le_of_lt, add-one, arith, leb→le}
use native.Mathlib.Nat.{mul-mul-mul_comm}
use lib.Dec.{nleb→lt}
use lib.Ieee.{size}
use lib.Ieee.Digits.{size-lt}
use Rattle.floats.specs.Sqrt.{digit, whole}

pub sq_suc : (a : ℕ) → suc a * suc a ≡ a * a + 2 * a + 1
sq_suc a = let x : suc a * suc a ≡ a * suc a + suc a = suc-mul a (suc a) in let y : a * suc a ≡ a * a + a = mul-suc a a in omega arith

pub sq_twice : (p : ℕ) → p * 2 * (p * 2) ≡ 4 * (p * p)
sq_twice p = mul-mul-mul_comm p 2 p 2 ∙ mul_comm (p * p) 4

pub sq_odd : (p : ℕ) → (p * 2 + 1) * (p * 2 + 1) ≡ 4 * (p * p) + 4 * p + 1
sq_odd p =
    let x : (p * 2 + 1) * (p * 2 + 1) ≡ suc (p * 2) * suc (p * 2) = ap (λ (z : ℕ). z * z) (add-one (p * 2)) in
    let y : suc (p * 2) * suc (p * 2) ≡ p * 2 * (p * 2) + 2 * (p * 2) + 1 = sq_suc (p * 2) in
    let z : p * 2 * (p * 2) ≡ 4 * (p * p) = sq_twice p in
    omega arith

-- a * a ≤ n < (b + 1) * (b + 1) puts a at most at b
pub root_le : (a b n : ℕ) → a * a ≤ n → n < suc b * suc b → a ≤ b
root_le a b n h k = le_of_suc-le-suc (lt_of_not-le (λ (g : suc b ≤ a). not-le_of_lt (lt_of_le_of_lt h k) (mul-le-mul g g)))

pub root_lt : (a b n : ℕ) → a * a ≤ n → n < b * b → a < b
root_lt a b n h k = lt_of_not-le (λ (g : b ≤ a). not-le_of_lt (lt_of_le_of_lt h k) (mul-le-mul g g))

-- q is the whole root of n
abbrev pub IsRoot : ℕ → ℕ → Type 0
IsRoot n q = (q * q ≤ n) × (n < suc q * suc q)

pub root_unique : (n p q : ℕ) → IsRoot n p → IsRoot n q → p ≡ q
root_unique n p q a b = le_antisymm (root_le p q n a.0 b.1) (root_le q p n b.0 a.1)

digit_root : (n p : ℕ) → IsRoot (n / 4) p → IsRoot n (digit n p)
unfolding digit
digit_root n p h = go (leb ((p * 2 + 1) * (p * 2 + 1)) n) (leb→le ((p * 2 + 1) * (p * 2 + 1)) n) (nleb→lt ((p * 2 + 1) * (p * 2 + 1)) n)
  where
    go : (b : Bool) → (T b → (p * 2 + 1) * (p * 2 + 1) ≤ n) → (T (not b) → n < (p * 2 + 1) * (p * 2 + 1)) → IsRoot n (cond b (p * 2 + 1) (p * 2))
    go true l g =
        let x : suc (p * 2 + 1) * suc (p * 2 + 1) ≡ (p * 2 + 1) * (p * 2 + 1) + 2 * (p * 2 + 1) + 1 = sq_suc (p * 2 + 1) in
        let y = sq_odd p in
        let z : suc p * suc p ≡ p * p + 2 * p + 1 = sq_suc p in
        let u : n / 4 < suc p * suc p = h.1 in
        (l tt, omega arith)
    go false l g =
        let x : suc (p * 2) * suc (p * 2) ≡ (p * 2 + 1) * (p * 2 + 1) = ap (λ (z : ℕ). z * z) (sym (add-one (p * 2))) in
        let y : p * 2 * (p * 2) ≡ 4 * (p * p) = sq_twice p in
        let u : p * p ≤ n / 4 = h.0 in
        let k : n < (p * 2 + 1) * (p * 2 + 1) = g tt in
        (omega arith, omega arith)

whole_root : (d n : ℕ) → n < 4 ^ d → IsRoot n (whole d n)
unfolding whole
whole_root zero n h = let e : n < 1 = h in (zero-le' n, e)
  where
    zero-le' : (n : ℕ) → 0 ≤ n
    zero-le' n = omega arith
whole_root (suc d) n h = digit_root n (whole d (n / 4)) (whole_root d (n / 4) ((div-lt_iff_lt-mul (zero-lt-suc 3)).1 (subst (λ (x : ℕ). n < x) (pow-suc 4 d) h)))

two_four : (d : ℕ) → 2 ^ d ≤ 4 ^ d
two_four zero = le_refl 1
two_four (suc d) = let a : 2 ^ suc d ≡ 2 ^ d * 2 = pow-suc 2 d in let b : 4 ^ suc d ≡ 4 ^ d * 4 = pow-suc 4 d in let c : 2 ^ d ≤ 4 ^ d = two_four d in omega arith

pub whole_is : (n q : ℕ) → IsRoot n q → whole (size n) n ≡ q
whole_is n q h = root_unique n (whole (size n) n) q (whole_root (size n) n (lt_of_lt_of_le (size-lt n) (two_four (size n)))) h

pub whole_of : (n : ℕ) → IsRoot n (whole (size n) n)
whole_of n = whole_root (size n) n (lt_of_lt_of_le (size-lt n) (two_four (size n)))
