-- A number strictly between two neighbouring multiples of a half of the last kept digit rounds as any other there: `round` need not know it exactly. Assumes nothing.
use Rattle.std.proofs.Common.{◌≡◌, ℕ, suc, ◌+◌, ◌-◌, ◌*◌, ◌/◌, ◌^◌, ◌<◌, ◌≤◌, Bool, sym, ap, ◌∙◌, inr, le_trans, le_of_eq, lt_of_lt_of_le, lt_of_le_of_lt, le_of_lt, mul-le-mul_right, zero-lt-suc, mul_assoc, suc-mul, mul_comm, div-lt_iff_lt-mul, mul-pos, le-div_iff_mul-le, mul_right_comm, arith, pow_pos, pow-add}
use native.Mathlib.Nat.{pow-succ'}
use lib.Ieee.{Format, prec, low, size, units, round}
use lib.Ieee.Fits.{two, two-le_pos, core, round_is}
use lib.Ieee.Nearest.{closest}
use Rattle.floats.proofs.Compared.{closest_near, closest_is}
use Rattle.floats.proofs.Grid.{drop_is}

-- j < a / b < j + 1, in whole numbers of half a step: the same as j + 1 / 2
pub closest_between : (a b j : ℕ) → 0 < b → j * b < a → a < suc j * b → closest a (b * 2) ≡ closest (2 * j + 1) 4
closest_between a b j B lo hi =
    let K = closest (2 * j + 1) 4 in
    let n = closest_near (2 * j + 1) 4 (zero-lt-suc 3) in
    let l : 2 * K ≤ j + 1 = below K j n.0 in
    let h : j ≤ 2 * K = above K j n.1 in
    let l' : 2 * K * b ≤ suc j * b = mul-le-mul_right b (le_trans l (le_of_eq (one j))) in
    let h' : j * b ≤ 2 * K * b = mul-le-mul_right b h in
    let e : K * (b * 2) ≡ 2 * K * b = mul_comm K (b * 2) ∙ mul_right_comm b 2 K ∙ ap (λ (x : ℕ). x * 2) (mul_comm b K) ∙ mul_comm (K * b) 2 ∙ sym (mul_assoc 2 K b) in
    let s : suc j * b ≡ j * b + b = suc-mul j b in
    closest_is a (b * 2) K (mul-pos B (zero-lt-suc 1)) (omega arith) (omega arith)
  where
    below : (K j : ℕ) → 2 * (K * 4) ≤ 2 * (2 * j + 1) + 4 → 2 * K ≤ j + 1
    below K j h = omega arith

    above : (K j : ℕ) → 2 * (2 * j + 1) ≤ 2 * (K * 4) + 4 → j ≤ 2 * K
    above K j h = omega arith

    one : (j : ℕ) → j + 1 ≡ suc j
    one j = omega arith

-- a / c lies strictly between j * 2 ^ y and (j + 1) * 2 ^ y smallest values, j having one digit more than the format keeps
pub round_between : (f : Format) (s : Bool) (a c j y : ℕ) → 0 < c → 2 ^ prec f ≤ j → j < 2 ^ (prec f + 1) → j * 2 ^ y * c < a * 2 ^ low f → a * 2 ^ low f < suc j * 2 ^ y * c
    → round f s a c ≡ units f s (closest (2 * j + 1) 4) (suc y)
round_between f s a c j y C J J' lo hi =
    let p = prec f in
    let P : 0 < p = two-le_pos p (two f) in
    let n = a * 2 ^ low f in
    let w = n / c in
    let up : w < 2 ^ (p + suc y) = (div-lt_iff_lt-mul C).1 (lt_of_lt_of_le hi (mul-le-mul_right c (le_trans (mul-le-mul_right (2 ^ y) J') (le_of_eq (sym (pow-add 2 (p + 1) y) ∙ ap (λ (x : ℕ). 2 ^ x) (move p y)))))) in
    let dn : 2 ^ (p - 1 + suc y) ≤ w = (le-div_iff_mul-le C).1 (le_trans (mul-le-mul_right c (le_trans (le_of_eq (ap (λ (x : ℕ). 2 ^ x) (back p y P) ∙ pow-add 2 p y)) (mul-le-mul_right (2 ^ y) J))) (le_of_lt lo)) in
    let z : size w - p ≡ suc y = drop_is p w (suc y) P up (inr dn) in
    let b = c * 2 ^ y in
    let e : c * 2 ^ suc y ≡ b * 2 = ap (λ (x : ℕ). c * x) (pow-succ' 2 y ∙ mul_comm 2 (2 ^ y)) ∙ sym (mul_assoc c (2 ^ y) 2) in
    round_is f s a c
    ∙ ap (λ (x : ℕ). core f s n c x) z
    ∙ ap (λ (x : ℕ). units f s (closest n x) (suc y)) e
    ∙ ap (λ (x : ℕ). units f s x (suc y)) (closest_between n b j (mul-pos C (pow_pos y)) (lt_of_le_of_lt (le_of_eq (swap j)) lo) (lt_of_lt_of_le hi (le_of_eq (sym (swap (suc j))))))
  where
    move : (p y : ℕ) → p + 1 + y ≡ p + suc y
    move p y = omega arith

    back : (p y : ℕ) → 0 < p → p - 1 + suc y ≡ p + y
    back p y h = omega arith

    swap : (j : ℕ) → j * (c * 2 ^ y) ≡ j * 2 ^ y * c
    swap j = ap (λ (x : ℕ). j * x) (mul_comm c (2 ^ y)) ∙ sym (mul_assoc j (2 ^ y) c)
