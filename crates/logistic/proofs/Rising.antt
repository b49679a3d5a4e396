-- A larger logistic input never gives a smaller score.
-- Assumes nothing.
use Rattle.std.proofs.Common.{◌≡◌, ℕ, ◌+◌, ◌-◌, ◌*◌, ◌/◌, ◌<◌, ◌≤◌, Bool, true, false, cond, T, eqb, ltb, ℤ, sym, refl, ◌∙◌, zero-le, le_trans, le_of_eq, le_refl, mul-le-mul_right, div-lt_iff_lt-mul, add-mul, one-mul, zero-mul, mul-one, mul_right_comm, le_of_mul-le-mul_right, arith, lit<, lit≤, eqb→eq, ltb-false, le-ltb}
use native.Mathlib.Nat.{lt-div-mul-add, zero-div, eq_of_mul-eq-mul_right}
use lib.Ieee.{Float, nan, inf, fin, up, down, lt, le, binary32}
use lib.Ieee.Fits.{down_pos, and_l, and_r}
use lib.Ieee.Nearest.{div_mono}
use lib.Ieee.Order.{round_mono}
use Rattle.logistic.specs.Score.{q_of, u_of, units_at, score_of}
use Rattle.logistic.proofs.Floor.{or_le, or_ge}
use Rattle.logistic.proofs.Floor.{place_at, u_is, ceil_same, quotient}
use Rattle.logistic.proofs.Range.{units_of, by_units}
use Rattle.logistic.proofs.Line.{units_most, units_mono}

-- ---- by the fraction n / d
abbrev neg_u : ℕ → ℕ → ℕ
neg_u n d = cond (ltb (16 * d) n) 0 (units_at (place_at true n d))

abbrev pos_u : ℕ → ℕ → ℕ
pos_u n d = cond (ltb (16 * d) n) 16777216 (units_at (place_at false n d))

ceil_le : (a d t : ℕ) → 0 < d → a ≤ t * d → (a + (d - 1)) / d ≤ t
ceil_le a d t p h = let l : (a + (d - 1)) / d < t + 1 = (div-lt_iff_lt-mul p).1 (omega (arith, add-mul t 1 d, one-mul d)) in omega arith

le_ceil : (a d : ℕ) → 0 < d → a ≤ (a + (d - 1)) / d * d
le_ceil a d p = omega (arith, lt-div-mul-add {a = a + (d - 1)} p)

within : (a c b d : ℕ) → 0 < c → b * c ≤ a * d → a ≤ 16 * c → b ≤ 16 * d
within a c b d p h l =
    le_of_mul-le-mul_right (le_trans h (le_trans (mul-le-mul_right d l) (le_of_eq (mul_right_comm 16 c d)))) p

neg_place : (a c b d : ℕ) → 0 < c → 0 < d → b * c ≤ a * d → place_at true a c ≤ place_at true b d
unfolding place_at
neg_place a c b d C D h =
    let t = (a * 65536 + (c - 1)) / c in
    let x : b * 65536 * c ≤ a * 65536 * d = le_trans (le_of_eq (mul_right_comm b 65536 c)) (le_trans (mul-le-mul_right 65536 h) (le_of_eq (mul_right_comm a d 65536))) in
    let y : a * 65536 * d ≤ t * d * c = le_trans (mul-le-mul_right d (le_ceil (a * 65536) c C)) (le_of_eq (mul_right_comm t c d)) in
    let k : (b * 65536 + (d - 1)) / d ≤ t = ceil_le (b * 65536) d t D (le_of_mul-le-mul_right (le_trans x y) C) in
    omega arith

neg_most : (n d : ℕ) → place_at true n d ≤ 1048576
unfolding place_at
neg_most n d = less ((n * 65536 + (d - 1)) / d)
  where
    less : (x : ℕ) → 1048576 - x ≤ 1048576
    less x = omega arith

neg_mono : (a c b d : ℕ) → 0 < c → 0 < d → b * c ≤ a * d → neg_u a c ≤ neg_u b d
neg_mono a c b d C D h = go (ltb (16 * c) a) refl
  where
    go : (t : Bool) → ltb (16 * c) a ≡ t → cond t 0 (units_at (place_at true a c)) ≤ neg_u b d
    go true e = zero-le
    go false e =
        rw (le-ltb (16 * d) b (within a c b d C h (ltb-false (16 * c) a e)))
        (units_mono (place_at true a c) (place_at true b d) (neg_place a c b d C D h) (le_trans (neg_most b d) (lit≤ tt)))

pos_place : (a c b d : ℕ) → 0 < c → 0 < d → a * d ≤ b * c → place_at false a c ≤ place_at false b d
unfolding place_at
pos_place a c b d C D h =
    let x : a * 65536 * d ≤ b * 65536 * c = le_trans (le_of_eq (mul_right_comm a 65536 d)) (le_trans (mul-le-mul_right 65536 h) (le_of_eq (mul_right_comm b c 65536))) in
    omega (arith, div_mono (a * 65536) c (b * 65536) d C D x)

pos_most : (n d : ℕ) → 0 < d → n ≤ 16 * d → place_at false n d ≤ 2097152
unfolding place_at
pos_most n d p h = omega (arith, quotient (n * 65536) d p (omega arith))

top : (n d : ℕ) → 0 < d → n ≤ 16 * d → units_at (place_at false n d) ≤ 16777216
top n d p h = le_trans (units_most (place_at false n d) (pos_most n d p h)) (lit≤ tt)

pos_top : (a c : ℕ) → 0 < c → pos_u a c ≤ 16777216
pos_top a c C = most (ltb (16 * c) a) refl
  where
    most : (t : Bool) → ltb (16 * c) a ≡ t → cond t 16777216 (units_at (place_at false a c)) ≤ 16777216
    most true g = le_refl 16777216
    most false g = top a c C (ltb-false (16 * c) a g)

neg_top : (a c : ℕ) → neg_u a c ≤ 16777216
neg_top a c = most (ltb (16 * c) a)
  where
    most : (t : Bool) → cond t 0 (units_at (place_at true a c)) ≤ 16777216
    most true = zero-le
    most false = le_trans (units_most (place_at true a c) (le_trans (neg_most a c) (lit≤ tt))) (lit≤ tt)

pos_mono : (a c b d : ℕ) → 0 < c → 0 < d → a * d ≤ b * c → pos_u a c ≤ pos_u b d
pos_mono a c b d C D h = go (ltb (16 * d) b) refl
  where
    go : (t : Bool) → ltb (16 * d) b ≡ t → pos_u a c ≤ cond t 16777216 (units_at (place_at false b d))
    go true e = pos_top a c C
    go false e =
        let l = ltb-false (16 * d) b e in
        rw (le-ltb (16 * c) a (within b d a c D h l))
        (units_mono (place_at false a c) (place_at false b d) (pos_place a c b d C D h) (pos_most b d D l))

neg_pos : (a c b d : ℕ) → 0 < d → neg_u a c ≤ pos_u b d
neg_pos a c b d D = le_trans (first (ltb (16 * c) a)) (second (ltb (16 * d) b) refl)
  where
    first : (t : Bool) → cond t 0 (units_at (place_at true a c)) ≤ units_at 1048576
    first true = zero-le
    first false = units_mono (place_at true a c) 1048576 (neg_most a c) (lit≤ tt)

    second : (t : Bool) → ltb (16 * d) b ≡ t → units_at 1048576 ≤ cond t 16777216 (units_at (place_at false b d))
    second true e = le_trans (units_most 1048576 (lit≤ tt)) (lit≤ tt)
    second false e = units_mono 1048576 (place_at false b d) (unfold place_at in omega arith) (pos_most b d D (ltb-false (16 * d) b e))

-- +0 is at most -0
zeros : (n c m d : ℕ) → 0 < c → 0 < d → n ≡ 0 → m ≡ 0 → pos_u n c ≤ neg_u m d
unfolding place_at
zeros n c m d C D e g = rw (e, g, le-ltb (16 * c) 0 zero-le, le-ltb (16 * d) 0 zero-le, zero-mul 65536, zero-div c, ceil_same 0 d D zero-le, zero-div d) (le_refl (units_at 1048576))

-- ---- of floats
neg_is : (m : ℕ) (e : ℤ) → units_of (fin true m e) ≡ neg_u (m * up e) (down e)
unfolding units_of lt
neg_is m e = rw (u_is true m e, mul-one (m * up e))

pos_is : (m : ℕ) (e : ℤ) → units_of (fin false m e) ≡ pos_u (m * up e) (down e)
unfolding units_of lt
pos_is m e = rw (u_is false m e, mul-one (m * up e))

gone : (n c : ℕ) → 0 < c → n * c ≡ 0 → n ≡ 0
gone n c p e = eq_of_mul-eq-mul_right c p n 0 (e ∙ sym (zero-mul c))

pub rising : (x y : Float) → T (le x y) → units_of x ≤ units_of y
unfolding le lt units_of
rising nan y t = absurd t
rising (inf s) nan t = absurd t
rising (inf true) (inf y) t = zero-le
rising (inf false) (inf true) t = absurd t
rising (inf false) (inf false) t = le_refl 16777216
rising (inf true) (fin s m e) t = zero-le
rising (inf false) (fin s m e) t = absurd t
rising (fin s m e) nan t = absurd t
rising (fin s m e) (inf true) t = absurd t
rising (fin true m e) (inf false) t = rw (neg_is m e) (neg_top (m * up e) (down e))
rising (fin false m e) (inf false) t = rw (pos_is m e) (pos_top (m * up e) (down e) (down_pos e))
rising (fin true m e) (fin true n k) t =
    rw (neg_is m e, neg_is n k) (neg_mono (m * up e) (down e) (n * up k) (down k) (down_pos e) (down_pos k) (or_ge (m * up e * down k) (n * up k * down e) true t))
rising (fin false m e) (fin false n k) t =
    rw (pos_is m e, pos_is n k) (pos_mono (m * up e) (down e) (n * up k) (down k) (down_pos e) (down_pos k) (or_le (m * up e * down k) (n * up k * down e) true t))
rising (fin true m e) (fin false n k) t = rw (neg_is m e, pos_is n k) (neg_pos (m * up e) (down e) (n * up k) (down k) (down_pos k))
rising (fin false m e) (fin true n k) t =
    let a = m * up e * down k in
    let b = n * up k * down e in
    let p : a ≡ b = eqb→eq a b (and_l (eqb a b) (eqb a 0) t) in
    let q : a ≡ 0 = eqb→eq a 0 (and_r (eqb a b) (eqb a 0) t) in
    rw (pos_is m e, neg_is n k)
    (zeros (m * up e) (down e) (n * up k) (down k) (down_pos e) (down_pos k) (gone (m * up e) (down k) (down_pos k) q) (gone (n * up k) (down e) (down_pos e) (sym p ∙ q)))

-- the units are at most 2^24
at_nan : units_of nan ≤ 16777216
unfolding units_of u_of q_of lt
at_nan = le_trans (units_most 1048576 (lit≤ tt)) (lit≤ tt)

pub units_top : (z : Float) → units_of z ≤ 16777216
unfolding units_of lt
units_top nan = at_nan
units_top (inf true) = zero-le
units_top (inf false) = le_refl 16777216
units_top (fin true m e) = rw (neg_is m e) (neg_top (m * up e) (down e))
units_top (fin false m e) = rw (pos_is m e) (pos_top (m * up e) (down e) (down_pos e))

-- "a larger input never gives a smaller score"
pub score_rising : (x y : Float) → T (le x y) → T (le (score_of x) (score_of y))
score_rising x y t =
    rw (by_units x, by_units y)
    (round_mono binary32 (units_of x) 16777216 (units_of y) 16777216 (lit< tt) (lit< tt) (mul-le-mul_right 16777216 (rising x y t)))
