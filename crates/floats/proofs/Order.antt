-- The order of floats: `le` is transitive, and of two values that are no NaN `lt x y` is the negation of `le y x`. Infinities and both zeros are included.
-- A finite value is (p - n) / d with natural numbers p, n, d, of which p or n is 0. So x ≤ y says p₁ d₂ + n₂ d₁ ≤ p₂ d₁ + n₁ d₂. Assumes nothing.
use Rattle.std.proofs.Common.{◌≡◌, ℕ, ◌+◌, ◌*◌, ◌<◌, ◌≤◌, Bool, true, false, not, ◌&&◌, ◌||◌, T, eqb, ltb, ◌⊎◌, ℤ, pos, negsuc, sym, refl, subst, inl, inr, ⊎_elim, true≢false, mul-le-mul_right, add-mul, zero-mul, mul_right_comm, le_of_mul-le-mul_right, arith, eqb→eq, ltb→lt, lt→ltb, pow_pos}
use lib.Dec.{eqb_refl}
use lib.Ieee.{Float, nan, inf, fin, up, down, below, level, lt, eq, le, is_nan}

or_cases : (a b : Bool) → T (a || b) → T a ⊎ T b
or_cases true b t = inl tt
or_cases false b t = inr t

or_left : (a b : Bool) → T a → T (a || b)
or_left true b t = tt
or_left false b t = absurd t

or_right : (a b : Bool) → T b → T (a || b)
or_right true b t = tt
or_right false b t = t

and_left : (a b : Bool) → T (a && b) → T a
and_left true b t = tt
and_left false b t = t

and_right : (a b : Bool) → T (a && b) → T b
and_right true b t = t
and_right false b t = absurd t

and_both : (a b : Bool) → T a → T b → T (a && b)
and_both true b s t = t
and_both false b s t = s

-- what a sign makes of a size: its positive and its negative part
abbrev pub plus : Bool → ℕ → ℕ
plus false a = a
plus true a = 0

abbrev pub less : Bool → ℕ → ℕ
less false a = 0
less true a = a

abbrev pub side : Bool → ℕ → Bool → ℕ → ℕ
side s a t b = plus s a + less t b

-- ---- `below` and `level` as orders of natural numbers

lt_of : (s : Bool) (a : ℕ) (t : Bool) (b : ℕ) → T (below s a t b) → side s a t b < side t b s a
lt_of false a false b h = omega (arith, ltb→lt a b h)
lt_of false a true b h = absurd h
lt_of true a false b h = omega (arith, ltb→lt 0 (a + b) h)
lt_of true a true b h = omega (arith, ltb→lt b a h)

same_of : (s : Bool) (a : ℕ) (t : Bool) (b : ℕ) → T (level s a t b) → side s a t b ≤ side t b s a
same_of false a false b h = omega (arith, eqb→eq a b (and_left (eqb a b) true h))
same_of false a true b h = omega (arith, eqb→eq a b (and_left (eqb a b) (eqb a 0) h), eqb→eq a 0 (and_right (eqb a b) (eqb a 0) h))
same_of true a false b h = omega arith
same_of true a true b h = omega (arith, eqb→eq a b (and_left (eqb a b) true h))

pub le_of : (s : Bool) (a : ℕ) (t : Bool) (b : ℕ) → T (below s a t b || level s a t b) → side s a t b ≤ side t b s a
le_of s a t b h =
    ⊎_elim (λ (w : T (below s a t b)). le-of-less (lt_of s a t b w)) (λ (w : T (level s a t b)). same_of s a t b w)
    (or_cases (below s a t b) (level s a t b) h)
  where
    le-of-less : {x y : ℕ} → x < y → x ≤ y
    le-of-less p = omega arith

eqb_of : (a b : ℕ) → a ≡ b → T (eqb a b)
eqb_of a b e = subst (λ (x : ℕ). T (eqb a x)) e (eqb_refl a)

-- a test that either fails or shows a < b
split : (a b : ℕ) → a ≤ b → (a < b) ⊎ (a ≡ b)
split a b h = go (ltb a b) (ltb→lt a b) (λ (n : T (not (ltb a b))). omega (arith, lib.Dec.nltb→le a b n))
  where
    go : (x : Bool) → (T x → a < b) → (T (not x) → a ≡ b) → (a < b) ⊎ (a ≡ b)
    go true f g = inl (f tt)
    go false f g = inr (g tt)

pub to_le : (s : Bool) (a : ℕ) (t : Bool) (b : ℕ) → side s a t b ≤ side t b s a → T (below s a t b || level s a t b)
to_le false a false b h =
    ⊎_elim (λ (l : a < b). or_left (ltb a b) (eqb a b && true) (lt→ltb a b l)) (λ (e : a ≡ b). or_right (ltb a b) (eqb a b && true) (and_both (eqb a b) true (eqb_of a b e) tt))
    (split a b (omega arith))
to_le false a true b h = and_both (eqb a b) (eqb a 0) (eqb_of a b (omega arith)) (eqb_of a 0 (omega arith))
to_le true a false b h =
    ⊎_elim (λ (l : 0 < a + b). or_left (ltb 0 (a + b)) (eqb a b && eqb a 0) (lt→ltb 0 (a + b) l))
    (λ (e : 0 ≡ a + b). or_right (ltb 0 (a + b)) (eqb a b && eqb a 0) (and_both (eqb a b) (eqb a 0) (eqb_of a b (omega arith)) (eqb_of a 0 (omega arith)))) (split 0 (a + b) (omega arith))
to_le true a true b h =
    ⊎_elim (λ (l : b < a). or_left (ltb b a) (eqb a b && true) (lt→ltb b a l)) (λ (e : b ≡ a). or_right (ltb b a) (eqb a b && true) (and_both (eqb a b) true (eqb_of a b (sym e)) tt))
    (split b a (omega arith))

-- ---- fractions

pub plus_mul : (s : Bool) (a d : ℕ) → plus s (a * d) ≡ plus s a * d
plus_mul false a d = refl
plus_mul true a d = sym (zero-mul d)

pub less_mul : (s : Bool) (a d : ℕ) → less s (a * d) ≡ less s a * d
less_mul false a d = sym (zero-mul d)
less_mul true a d = refl

chain : (p n d p' n' d' p'' n'' d'' : ℕ) → 0 < d' → p * d' + n' * d ≤ p' * d + n * d' → p' * d'' + n'' * d' ≤ p'' * d' + n' * d''
    → p * d'' + n'' * d ≤ p'' * d + n * d''
chain p n d p' n' d' p'' n'' d'' D h k =
    let h2 : p * d' * d'' + n' * d * d'' ≤ p' * d * d'' + n * d' * d'' = simp add-mul at (mul-le-mul_right d'' h) in
    let k2 : p' * d'' * d + n'' * d' * d ≤ p'' * d' * d + n' * d'' * d = simp add-mul at (mul-le-mul_right d k) in
    let r : p * d'' * d' + n'' * d * d' ≤ p'' * d * d' + n * d'' * d' =
    omega (arith, mul_right_comm p d' d'', mul_right_comm n' d d'', mul_right_comm p' d d'', mul_right_comm n d' d'', mul_right_comm n'' d' d, mul_right_comm p'' d' d) in
    le_of_mul-le-mul_right (simp add-mul r) D

down_pos : (e : ℤ) → 0 < down e
down_pos (pos k) = lib.Dec.lit< tt
down_pos (negsuc k) = pow_pos _

-- `side` of two finite values over their common denominator, with the signs taken out of the products
sides : (s : Bool) (a d : ℕ) (t : Bool) (b d' : ℕ) → side s (a * d') t (b * d) ≡ plus s a * d' + less t b * d
sides s a d t b d' = simp (plus_mul s a d', less_mul t b d)

pub fin_le : (s : Bool) (m : ℕ) (e : ℤ) (t : Bool) (n : ℕ) (d : ℤ) → T (le (fin s m e) (fin t n d))
    → plus s (m * up e) * down d + less t (n * up d) * down e ≤ plus t (n * up d) * down e + less s (m * up e) * down d
unfolding le
fin_le s m e t n d h =
    omega (arith, le_of s (m * up e * down d) t (n * up d * down e) h, sides s (m * up e) (down e) t (n * up d) (down d), sides t (n * up d) (down d) s (m * up e) (down e))

le_fin : (s : Bool) (m : ℕ) (e : ℤ) (t : Bool) (n : ℕ) (d : ℤ)
    → plus s (m * up e) * down d + less t (n * up d) * down e ≤ plus t (n * up d) * down e + less s (m * up e) * down d → T (le (fin s m e) (fin t n d))
unfolding le
le_fin s m e t n d h =
    to_le s (m * up e * down d) t (n * up d * down e)
    (omega (arith, sides s (m * up e) (down e) t (n * up d) (down d), sides t (n * up d) (down d) s (m * up e) (down e)))

pub le_trans : (x y z : Float) → T (le x y) → T (le y z) → T (le x z)
unfolding le
le_trans nan y z h k = absurd h
le_trans (inf s) nan z h k = absurd k
le_trans (inf true) (inf t) nan h k = k
le_trans (inf true) (inf t) (inf true) h k = tt
le_trans (inf true) (inf t) (inf false) h k = tt
le_trans (inf true) (inf t) (fin r o c) h k = tt
le_trans (inf false) (inf true) z h k = absurd h
le_trans (inf false) (inf false) z h k = k
le_trans (inf s) (fin t n d) nan h k = k
le_trans (inf true) (fin t n d) (inf true) h k = tt
le_trans (inf true) (fin t n d) (inf false) h k = tt
le_trans (inf false) (fin t n d) (inf r) h k = absurd h
le_trans (inf s) (fin t n d) (fin r o c) h k = h
le_trans (fin s m e) nan z h k = absurd h
le_trans (fin s m e) (inf true) z h k = absurd h
le_trans (fin s m e) (inf false) nan h k = k
le_trans (fin s m e) (inf false) (inf true) h k = k
le_trans (fin s m e) (inf false) (inf false) h k = tt
le_trans (fin s m e) (inf false) (fin r o c) h k = absurd k
le_trans (fin s m e) (fin t n d) nan h k = k
le_trans (fin s m e) (fin t n d) (inf r) h k = k
le_trans (fin s m e) (fin t n d) (fin r o c) h k =
    le_fin s m e r o c
    (chain (plus s (m * up e)) (less s (m * up e)) (down e) (plus t (n * up d)) (less t (n * up d)) (down d) (plus r (o * up c)) (less r (o * up c)) (down c) (down_pos d)
    (fin_le s m e t n d h) (fin_le t n d r o c k))

pub lt_not_le : (x y : Float) → T (lt x y) → T (le y x) → ⊥
unfolding lt le
lt_not_le nan y h k = h
lt_not_le (inf s) nan h k = h
lt_not_le (inf true) (inf true) h k = h
lt_not_le (inf true) (inf false) h k = k
lt_not_le (inf false) (inf t) h k = h
lt_not_le (inf true) (fin t n d) h k = k
lt_not_le (inf false) (fin t n d) h k = h
lt_not_le (fin s m e) nan h k = h
lt_not_le (fin s m e) (inf true) h k = h
lt_not_le (fin s m e) (inf false) h k = k
lt_not_le (fin s m e) (fin t n d) h k =
    omega (arith, lt_of s (m * up e * down d) t (n * up d * down e) h, le_of t (n * up d * down e) s (m * up e * down d) k)

-- a value that something is at most is at most itself
pub le_self : (x y : Float) → T (le x y) → T (le y y)
unfolding le
le_self nan nan h = h
le_self (inf s) nan h = h
le_self (fin s m e) nan h = h
le_self x (inf true) h = tt
le_self x (inf false) h = tt
le_self x (fin t n d) h = le_fin t n d t n d (omega arith)

-- ---- of two numbers one is at most the other
nlt_of : (s : Bool) (a : ℕ) (t : Bool) (b : ℕ) → T (not (below s a t b)) → side t b s a ≤ side s a t b
nlt_of false a false b h = omega (arith, lib.Dec.nltb→le a b h)
nlt_of false a true b h = omega arith
nlt_of true a false b h = omega (arith, lib.Dec.nltb→le 0 (a + b) h)
nlt_of true a true b h = omega (arith, lib.Dec.nltb→le b a h)

pub not_lt_le : (x y : Float) → T (not (is_nan x)) → T (not (is_nan y)) → T (not (lt x y)) → T (le y x)
unfolding is_nan lt le
not_lt_le nan y p q h = absurd p
not_lt_le (inf s) nan p q h = absurd q
not_lt_le (inf true) (inf true) p q h = tt
not_lt_le (inf true) (inf false) p q h = absurd h
not_lt_le (inf false) (inf true) p q h = tt
not_lt_le (inf false) (inf false) p q h = tt
not_lt_le (inf true) (fin t n d) p q h = absurd h
not_lt_le (inf false) (fin t n d) p q h = tt
not_lt_le (fin s m e) nan p q h = absurd q
not_lt_le (fin s m e) (inf true) p q h = tt
not_lt_le (fin s m e) (inf false) p q h = absurd h
not_lt_le (fin s m e) (fin t n d) p q h = to_le t (n * up d * down e) s (m * up e * down d) (nlt_of s (m * up e * down d) t (n * up d * down e) h)

-- `lt` is the negation of `le` the other way round
pub lt_is_not_le : (x y : Float) → T (not (is_nan x)) → T (not (is_nan y)) → lt x y ≡ not (le y x)
lt_is_not_le x y p q = go (lt x y) (le y x) (lt_not_le x y) (not_lt_le x y p q)
  where
    go : (a b : Bool) → (T a → T b → ⊥) → (T (not a) → T b) → a ≡ not b
    go true true f g = absurd (f tt tt)
    go true false f g = refl
    go false true f g = refl
    go false false f g = absurd (g tt)

-- what is less is at most
pub lt_le : (x y : Float) → T (lt x y) → T (le x y)
unfolding le
lt_le x y h = or_left (lt x y) (lib.Ieee.eq x y) h

-- ---- the ends of the order, and that a NaN is in no relation
pub lowest : (x : Float) → is_nan x ≡ false → T (le (inf true) x)
unfolding le is_nan
lowest nan p = absurd (true≢false p)
lowest (inf true) p = tt
lowest (inf false) p = tt
lowest (fin s m e) p = tt

pub highest : (x : Float) → is_nan x ≡ false → T (le x (inf false))
unfolding le is_nan
highest nan p = absurd (true≢false p)
highest (inf true) p = tt
highest (inf false) p = tt
highest (fin s m e) p = tt

pub not_nan : (x y : Float) → T (le x y) → (is_nan x ≡ false) × (is_nan y ≡ false)
unfolding le is_nan
not_nan nan y h = absurd h
not_nan (inf s) nan h = absurd h
not_nan (fin s m e) nan h = absurd h
not_nan (inf s) (inf t) h = (refl, refl)
not_nan (inf s) (fin t n d) h = (refl, refl)
not_nan (fin s m e) (inf t) h = (refl, refl)
not_nan (fin s m e) (fin t n d) h = (refl, refl)
