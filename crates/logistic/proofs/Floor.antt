-- The floor of 65,536 times a float of size at most 16: the product is exact, and its whole part is a division.
-- Assumes nothing.
use Rattle.std.proofs.Common.{◌≡◌, ℕ, zero, suc, ◌+◌, ◌-◌, ◌*◌, ◌/◌, ◌%◌, ◌^◌, ◌<◌, ◌≤◌, min, Bool, true, false, cond, ◌&&◌, ◌||◌, T, eqb, ltb, leb, ℤ, pos, negsuc, ◌+ℤ◌, neg_ℤ, sym, refl, ap, ◌∙◌, true≢false, suc-le-suc, zero-le, le_trans, le_of_eq, lt_of_lt_of_le, not-suc-le-zero, lt_of_le_of_lt, le_of_lt, lt_irrefl, mul-le-mul_right, mod-lt, mul_assoc, mul_comm, div-lt_iff_lt-mul, add-mul, lt_of_mul-lt-mul_right, mul-pos, one-mul, div-add-mod', zero-mul, mul-one, not-le_of_lt, le_of_mul-le-mul_right, arith, lit<, eqb→eq, ltb→lt, lt→ltb, leb→le, pow_pos, pow-add, ltb-false, ltb-true}
use native.Mathlib.Nat.{zero-div, eq_of_mul-eq-mul_right, div-eq_of_lt-le}
use lib.Pow.{pow-lt}
use lib.Ieee.{Float, nan, inf, fin, binary32, up, down, lt, le, fits, round, mul, neg, to_unsigned, of_bits, of_int}
use lib.Ieee.Fits.{and_l, down_pos, up_pos}
use lib.Ieee.Exact.{HasValue, round_exact}
use lib.Ieee.Digits.{back}
use lib.Ieee.Nearest.{div_same}
use lib.Ieee.Order.{transfer}
use lib.Ieee.Back.{round_whole}
use Rattle.logistic.specs.Score.{floor, natural, q_of, u_of, sixteen}

-- ---- a test of `below` or `level` between sizes
pub or_le : (a b : ℕ) (t : Bool) → T (ltb a b || (eqb a b && t)) → a ≤ b
or_le a b t h = go (ltb a b) refl h
  where
    go : (u : Bool) → ltb a b ≡ u → T (u || (eqb a b && t)) → a ≤ b
    go true e x = le_of_lt (ltb-true a b e)
    go false e x = le_of_eq (eqb→eq a b (and_l (eqb a b) t x))

pub or_ge : (a b : ℕ) (t : Bool) → T (ltb b a || (eqb a b && t)) → b ≤ a
or_ge a b t h = go (ltb b a) refl h
  where
    go : (u : Bool) → ltb b a ≡ u → T (u || (eqb a b && t)) → b ≤ a
    go true e x = le_of_lt (ltb-true b a e)
    go false e x = le_of_eq (sym (eqb→eq a b (and_l (eqb a b) t x)))

-- ---- u by naturals: 1,048,576 and the floor, or less the ceiling
unfoldable pub place_at : Bool → ℕ → ℕ → ℕ
place_at false n d = n * 65536 / d + 1048576
place_at true n d = 1048576 - (n * 65536 + (d - 1)) / d

less : (c : ℕ) → natural (neg_ℤ (pos c) +ℤ pos 1048576) ≡ 1048576 - c
less zero = refl
less (suc c) = go (ltb 1048576 (suc c)) refl
  where
    go : (b : Bool) → ltb 1048576 (suc c) ≡ b → natural (cond b (negsuc (suc c - 1048577)) (pos (1048576 - suc c))) ≡ 1048576 - suc c
    go true e = let h : 1048576 < suc c = ltb-true 1048576 (suc c) e in omega arith
    go false e = refl

pub u_is : (s : Bool) (m : ℕ) (e : ℤ) → u_of (fin s m e) ≡ place_at s (m * up e) (down e)
unfolding u_of q_of floor place_at
u_is false m e = refl
u_is true m e = less ((m * up e * 65536 + (down e - 1)) / down e)

-- ---- the product is exact
by_power : (n : ℕ) → n * 65536 * 2 ^ 149 ≡ n * 2 ^ 165
by_power n = mul_assoc n 65536 (2 ^ 149)

no_more : (k : ℕ) → 2 ^ suc k ≤ 2 ^ 149 → suc k ≤ 149
no_more k h = go (ltb 149 (suc k)) refl
  where
    go : (b : Bool) → ltb 149 (suc k) ≡ b → suc k ≤ 149
    go true e = absurd (lt_irrefl (2 ^ 149) (lt_of_lt_of_le (pow-lt (ltb-true 149 (suc k) e)) h))
    go false e = ltb-false 149 (suc k) e

parts : (a b c d : Bool) → T (a && b && c && d) → T a × T b × T c × T d
parts true true true true t = (tt, tt, tt, tt)
parts true true true false t = absurd t
parts true true false d t = absurd (and_l false d t)
parts true false c d t = absurd (and_l false c (and_l (false && c) d t))
parts false b c d t = absurd (and_l false b (and_l (false && b) c (and_l (false && b && c) d t)))

scaled : (s : Bool) (m : ℕ) (e : ℤ) → T (fits binary32 (fin s m e)) → m * up e ≤ 16 * down e
    → HasValue (round binary32 s (m * up e * 65536) (down e)) s (m * up e * 65536) (down e)
unfolding fits
scaled s zero e t h = round_exact binary32 s (0 * up e * 65536) (down e) 0 0 (down_pos e) (lit< tt) (lit< tt) (simp zero-mul)
scaled s (suc m) (pos k) t h =
    let q = parts (eqb (suc m % 2) 1) (ltb (suc m) (2 ^ 24)) true (ltb (suc m * 2 ^ k) (2 ^ 128)) t in
    let few : suc m < 2 ^ 24 = ltb→lt (suc m) (2 ^ 24) q.1 in
    let e : suc m * 2 ^ (k + 165) ≡ suc m * 2 ^ k * 2 ^ 165 = ap (λ (x : ℕ). suc m * x) (pow-add 2 k 165) ∙ sym (mul_assoc (suc m) (2 ^ k) (2 ^ 165)) in
    round_exact binary32 s (suc m * 2 ^ k * 65536) 1 (suc m) (k + 165) (lit< tt) few
    (lt_of_le_of_lt (le_trans (le_of_eq e) (mul-le-mul_right (2 ^ 165) h)) (lit< tt))
    (by_power (suc m * 2 ^ k) ∙ sym e ∙ sym (mul-one (suc m * 2 ^ (k + 165))))
scaled s (suc m) (negsuc k) t h =
    let q = parts (eqb (suc m % 2) 1) (ltb (suc m) (2 ^ 24)) (leb (2 ^ suc k) (2 ^ 149)) (ltb (suc m * 1) (2 ^ 128 * 2 ^ suc k)) t in
    let few : suc m < 2 ^ 24 = ltb→lt (suc m) (2 ^ 24) q.1 in
    let deep : 2 ^ suc k ≤ 2 ^ 149 = leb→le (2 ^ suc k) (2 ^ 149) q.2 in
    let l : suc k ≤ 149 = no_more k deep in
    let l' : suc k ≤ 165 = omega arith in
    let p : 2 ^ (165 - suc k) * 2 ^ suc k ≡ 2 ^ 165 = sym (pow-add 2 (165 - suc k) (suc k)) ∙ ap (λ (x : ℕ). 2 ^ x) (back 165 (suc k) l') in
    let b : suc m ≤ 16 * 2 ^ suc k = le_trans (le_of_eq (sym (mul-one (suc m)))) h in
    let w : 16 * 2 ^ suc k * 2 ^ (165 - suc k) ≡ 16 * 2 ^ 165 = mul_assoc 16 (2 ^ suc k) (2 ^ (165 - suc k)) ∙ ap (λ (x : ℕ). 16 * x) (mul_comm (2 ^ suc k) (2 ^ (165 - suc k)) ∙ p) in
    round_exact binary32 s (suc m * 1 * 65536) (2 ^ suc k) (suc m) (165 - suc k) (pow_pos (suc k)) few
    (lt_of_le_of_lt (le_trans (mul-le-mul_right (2 ^ (165 - suc k)) b) (le_of_eq w)) (lit< tt))
    (by_power (suc m * 1) ∙ ap (λ (x : ℕ). x * 2 ^ 165) (mul-one (suc m)) ∙ ap (λ (x : ℕ). suc m * x) (sym p) ∙ sym (mul_assoc (suc m) (2 ^ (165 - suc k)) (2 ^ suc k)))

-- ---- the whole part, and the tests
trunc_val : (y : Float) (n d : ℕ) → 0 < d → HasValue y false n d → n ≤ 1048576 * d → to_unsigned 64 y ≡ n / d
unfolding to_unsigned
trunc_val nan n d p v h = absurd v
trunc_val (inf s) n d p v h = absurd v
trunc_val (fin true m e) n d p v h = absurd (true≢false v.0)
trunc_val (fin false m e) n d p v h =
    let q : m * up e / down e ≡ n / d = div_same (m * up e) (down e) n d (down_pos e) p v.1 in
    let l : n / d < 1048577 = (div-lt_iff_lt-mul p).1 (omega (arith, add-mul 1048576 1 d, one-mul d)) in
    let l' : m * up e / down e < 1048577 = rw q l in
    capped (m * up e / down e) l' ∙ q
  where
    capped : (a : ℕ) → a < 1048577 → min a (2 ^ 64 - 1) ≡ a
    capped a k = omega arith

pub under : (y : Float) (s : Bool) (n d : ℕ) → 0 < d → HasValue y s n d → n ≤ 1048576 * d → T (lt y (fin false 1 (pos 64)))
unfolding lt
under nan s n d p v h = absurd v
under (inf t) s n d p v h = absurd v
under (fin true m e) s n d p v h = lt→ltb 0 (m * up e * 1 + 18446744073709551616 * down e) (omega (arith, down_pos e))
under (fin false m e) s n d p v h =
    let g : m * up e * d ≤ 1048576 * d * down e = le_trans (le_of_eq v.1) (mul-le-mul_right (down e) h) in
    let g' : m * up e * d ≤ 1048576 * down e * d = le_trans g (le_of_eq (mul_assoc 1048576 d (down e) ∙ ap (λ (x : ℕ). 1048576 * x) (mul_comm d (down e)) ∙ sym (mul_assoc 1048576 (down e) d))) in
    let k : m * up e ≤ 1048576 * down e = le_of_mul-le-mul_right g' p in
    lt→ltb (m * up e * 1) (18446744073709551616 * down e) (omega (arith, down_pos e))

pub over : (y : Float) (n d : ℕ) → HasValue y false n d → T (lt (fin true 1 (pos 0)) y)
unfolding lt
over nan n d v = absurd v
over (inf t) n d v = absurd v
over (fin true m e) n d v = absurd (true≢false v.0)
over (fin false m e) n d v = lt→ltb 0 (1 * 1 * down e + m * up e * 1) (omega (arith, down_pos e))

lt_val : (x y : Float) (a c b d : ℕ) → 0 < c → 0 < d → HasValue x false a c → HasValue y false b d → lt x y ≡ ltb (a * d) (b * c)
unfolding lt
lt_val nan y a c b d C D p q = absurd p
lt_val (inf s) y a c b d C D p q = absurd p
lt_val (fin true m e) y a c b d C D p q = absurd (true≢false p.0)
lt_val (fin false m e) nan a c b d C D p q = absurd q
lt_val (fin false m e) (inf t) a c b d C D p q = absurd q
lt_val (fin false m e) (fin true n k) a c b d C D p q = absurd (true≢false q.0)
lt_val (fin false m e) (fin false n k) a c b d C D p q = go (ltb (a * d) (b * c)) refl (ltb (m * up e * down k) (n * up k * down e)) refl
  where
    go : (t : Bool) → ltb (a * d) (b * c) ≡ t → (u : Bool) → ltb (m * up e * down k) (n * up k * down e) ≡ u → u ≡ t
    go true h true g = refl
    go false h false g = refl
    go true h false g =
        absurd (not-le_of_lt (ltb-true (a * d) (b * c) h) (transfer b a d c (n * up k) (m * up e) (down k) (down e) (down_pos k) (down_pos e) (sym q.1) (sym p.1) (ltb-false (m * up e * down k) (n * up k * down e) g)))
    go false h true g =
        absurd (not-le_of_lt (ltb-true (m * up e * down k) (n * up k * down e) g) (transfer (n * up k) (m * up e) (down k) (down e) b a d c D C q.1 p.1 (ltb-false (a * d) (b * c) h)))

-- ---- the ceiling of n / d
ceil_up : (n d : ℕ) → 0 < d → n / d * d < n → (n + (d - 1)) / d ≡ n / d + 1
ceil_up n d p h =
    let e : n / d * d + n % d ≡ n = div-add-mod' n d in
    let l : n % d < d = mod-lt n p in
    let a : (n / d + 1) * d ≡ n / d * d + d = add-mul (n / d) 1 d ∙ ap (λ (x : ℕ). n / d * d + x) (one-mul d) in
    let b : (n / d + 1 + 1) * d ≡ n / d * d + d + d = add-mul (n / d + 1) 1 d ∙ (rw (one-mul d, a)) in
    div-eq_of_lt-le d (omega arith) (omega arith)

pub ceil_same : (n d : ℕ) → 0 < d → n ≤ n / d * d → (n + (d - 1)) / d ≡ n / d
ceil_same n d p h =
    let e : n / d * d + n % d ≡ n = div-add-mod' n d in
    let a : (n / d + 1) * d ≡ n / d * d + d = add-mul (n / d) 1 d ∙ ap (λ (x : ℕ). n / d * d + x) (one-mul d) in
    div-eq_of_lt-le d (omega arith) (omega arith)

-- ---- what a float of size at most 16 is
abbrev pub Ranged : Float → Type 0
Ranged z = T (le (sixteen true) z) × T (le z (sixteen false))

pub size : (s : Bool) (m : ℕ) (e : ℤ) → Ranged (fin s m e) → m * up e ≤ 16 * down e
unfolding le
size true m e r = rw mul-one at (or_ge (16 * down e) (m * up e * 1) true r.0)
size false m e r = rw mul-one at (or_le (m * up e * 1) (16 * down e) true r.1)

abbrev pub times : Float → Float
times x = mul binary32 x (of_bits binary32 1199570944)

-- z below 0: what -z times 65,536 is, and the place
pub record Neg (z : Float) : Type 0 where
  pub n : ℕ
  pub d : ℕ
  pub pos-d : 0 < d
  pub small : n ≤ 1048576 * d
  pub value : HasValue (times (neg z)) false n d
  pub is : u_of z ≡ 1048576 - (n + (d - 1)) / d

-- z not below 0
pub record Pos (z : Float) : Type 0 where
  pub n : ℕ
  pub d : ℕ
  pub pos-d : 0 < d
  pub small : n ≤ 1048576 * d
  pub above : T (lt (fin true 1 (pos 0)) (times z))
  pub below : T (lt (times z) (fin false 1 (pos 64)))
  pub cut : to_unsigned 64 (times z) ≡ n / d
  pub is : u_of z ≡ n / d + 1048576

grown : (n d : ℕ) → n ≤ 16 * d → n * 65536 ≤ 1048576 * d
grown n d h = omega arith

times_value : (s : Bool) (m : ℕ) (e : ℤ) → T (fits binary32 (fin s m e)) → m * up e ≤ 16 * down e → HasValue (times (fin s m e)) s (m * up e * 65536) (down e)
unfolding mul of_bits
times_value true m e t h = rw mul-one (scaled true m e t h)
times_value false m e t h = rw mul-one (scaled false m e t h)

fits_neg : (m : ℕ) (e : ℤ) → T (fits binary32 (fin true m e)) → T (fits binary32 (fin false m e))
unfolding fits
fits_neg zero e t = t
fits_neg (suc m) e t = t

pub negative : (z : Float) → T (fits binary32 z) → Ranged z → lt z (of_bits binary32 0) ≡ true → Neg z
unfolding lt le of_bits neg place_at
negative nan t r l = absurd r.0
negative (inf true) t r l = absurd r.0
negative (inf false) t r l = absurd r.1
negative (fin false m e) t r l = absurd (not-suc-le-zero (rw zero-mul at (ltb-true (m * up e * 1) (0 * 1 * down e) l)))
negative (fin true m e) t r l =
    let h = size true m e r in
    record {
      n = m * up e * 65536;
      d = down e;
      pos-d = down_pos e;
      small = grown (m * up e) (down e) h;
      value = times_value false m e (fits_neg m e t) h;
      is = u_is true m e;
    }

-- -0: the product is -0 too
pub no_size : (x d y : ℕ) → 0 < d → x * d ≡ 0 * y → x ≡ 0
no_size x d y p e = eq_of_mul-eq-mul_right d p x 0 (e ∙ zero-mul y ∙ sym (zero-mul d))

over_zero : (y : Float) (d : ℕ) → 0 < d → HasValue y true 0 d → T (lt (fin true 1 (pos 0)) y)
unfolding lt
over_zero nan d p v = absurd v
over_zero (inf t) d p v = absurd v
over_zero (fin false m e) d p v = absurd (true≢false (sym v.0))
over_zero (fin true m e) d p v =
    let z : m * up e ≡ 0 = no_size (m * up e) d (down e) p v.1 in
    lt→ltb (m * up e * 1) (1 * 1 * down e) (omega (arith, down_pos e))

trunc_neg : (y : Float) (n d : ℕ) → HasValue y true n d → to_unsigned 64 y ≡ 0
unfolding to_unsigned
trunc_neg nan n d v = absurd v
trunc_neg (inf t) n d v = absurd v
trunc_neg (fin false m e) n d v = absurd (true≢false (sym v.0))
trunc_neg (fin true m e) n d v = refl

above_zero : (m u : ℕ) → 0 < u → suc m * u ≤ 0 → ⊥
above_zero m u p h = not-le_of_lt (mul-pos {m = suc m} {n = u} (suc-le-suc zero-le) p) h

nothing : (d : ℕ) → 1048576 - 0 / d ≡ 0 / d + 1048576
nothing d = rw (zero-div d)

pub positive : (z : Float) → T (fits binary32 z) → Ranged z → lt z (of_bits binary32 0) ≡ false → Pos z
unfolding lt le of_bits place_at
positive nan t r l = absurd r.0
positive (inf true) t r l = absurd r.0
positive (inf false) t r l = absurd r.1
positive (fin false m e) t r l =
    let h = size false m e r in
    let v = times_value false m e t h in
    let g = grown (m * up e) (down e) h in
    record {
      n = m * up e * 65536;
      d = down e;
      pos-d = down_pos e;
      small = g;
      above = over (times (fin false m e)) (m * up e * 65536) (down e) v;
      below = under (times (fin false m e)) false (m * up e * 65536) (down e) (down_pos e) v g;
      cut = trunc_val (times (fin false m e)) (m * up e * 65536) (down e) (down_pos e) v g;
      is = u_is false m e;
    }
positive (fin true (suc m) e) t r l =
    absurd (above_zero m (up e) (up_pos e) (omega (arith, ltb-false 0 (suc m * up e * 1 + 0 * down e) l)))
positive (fin true zero e) t r l =
    let h = size true 0 e r in
    let v : HasValue (times (fin true 0 e)) true 0 (down e) = rw (zero-mul (up e)) at (times_value true 0 e t h) in
    let y = times (fin true 0 e) in
    record {
      n = 0;
      d = down e;
      pos-d = down_pos e;
      small = zero-le;
      above = over_zero y (down e) (down_pos e) v;
      below = under y true 0 (down e) (down_pos e) v zero-le;
      cut = trunc_neg y 0 (down e) v ∙ sym (zero-div (down e));
      is = u_is true 0 e ∙ rw zero-mul (ap (λ (x : ℕ). 1048576 - x) (ceil_same 0 (down e) (down_pos e) zero-le) ∙ nothing (down e));
    }

-- ---- for the needs of `place`
pub quotient : (n d : ℕ) → 0 < d → n ≤ 1048576 * d → n / d ≤ 1048576
quotient n d p h = let l : n / d < 1048577 = (div-lt_iff_lt-mul p).1 (omega (arith, add-mul 1048576 1 d, one-mul d)) in omega arith

module _ {z : Float} (g : Neg z) (t : ℕ) (whole : t ≡ to_unsigned 64 (times (neg z))) where
  pub t-is : t ≡ g.n / g.d
  t-is = whole ∙ trunc_val (times (neg z)) g.n g.d g.pos-d g.value g.small

  pub t-most : t ≤ 1048576
  t-most =
      omega (arith, t-is, quotient g.n g.d g.pos-d g.small)

  test : lt (of_int binary32 (pos t)) (times (neg z)) ≡ ltb (t * g.d) (g.n * 1)
  unfolding of_int
  test = lt_val (of_int binary32 (pos t)) (times (neg z)) t 1 g.n g.d (lit< tt) g.pos-d (round_whole binary32 false t (omega (arith, t-most))) g.value

  pub taken : lt (of_int binary32 (pos t)) (times (neg z)) ≡ true → (1048575 - t ≡ u_of z) × (t ≤ 1048575)
  taken e =
      let l : t * g.d < g.n * 1 = ltb-true (t * g.d) (g.n * 1) (sym test ∙ e) in
      let a : g.n / g.d * g.d < g.n = rw (t-is, mul-one) at l in
      let b : u_of z ≡ 1048576 - (g.n / g.d + 1) = g.is ∙ ap (λ (x : ℕ). 1048576 - x) (ceil_up g.n g.d g.pos-d a) in
      let k : t * g.d < 1048576 * g.d = omega (arith, g.small) in
      let k' : t < 1048576 = lt_of_mul-lt-mul_right g.d k in
      (omega (arith, t-is), omega arith)

  pub left : lt (of_int binary32 (pos t)) (times (neg z)) ≡ false → 1048576 - t ≡ u_of z
  left e =
      let l : g.n * 1 ≤ t * g.d = ltb-false (t * g.d) (g.n * 1) (sym test ∙ e) in
      let a : g.n ≤ g.n / g.d * g.d = rw (t-is, mul-one) at l in
      ap (λ (x : ℕ). 1048576 - x) (t-is ∙ sym (ceil_same g.n g.d g.pos-d a)) ∙ sym g.is
