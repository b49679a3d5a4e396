-- Rounding keeps the order of signed fractions, so a sum and a difference keep the order of their operands.
-- Assumes nothing.
use Rattle.std.proofs.Common.{◌≡◌, ℕ, zero, suc, ◌+◌, ◌-◌, ◌*◌, ◌/◌, ◌^◌, ◌<◌, ◌≤◌, Bool, true, false, cond, not, T, ltb, ℤ, sym, refl, ap, ◌∙◌, subst, true≢false, zero-le, mul-le-mul_right, mul_assoc, mul_comm, add-mul, mul-pos, zero-mul, mul_right_comm, arith, ltb-false, ltb-true}
use native.Mathlib.Nat.{eq_of_mul-eq-mul_right}
use lib.Ieee.{Float, nan, inf, fin, Format, prec, emax, low, up, down, size, odd, units, round, sum, add, sub, neg, le}
use lib.Ieee.Fits.{down_pos, round_is}
use lib.Ieee.Nearest.{closest}
use lib.Ieee.Order.{round_mono}
use lib.Ieee.Exact.{HasValue, round_exact}
use lib.Ieee.Scale.{finite}
use Rattle.floats.proofs.Order.{plus, less, side, le_of, to_le, plus_mul, less_mul, fin_le}

-- ---- a value with the sign s, no NaN
abbrev Signed : Bool → Float → Type 0
Signed s nan = ⊥
Signed s (inf t) = t ≡ s
Signed s (fin t m e) = t ≡ s

odd_signed : (d : ℕ) (s : Bool) (q k l : ℕ) → Signed s (odd d s q k l)
unfolding odd
odd_signed d s zero k l = refl
odd_signed d s (suc q) k l = refl

units_signed : (f : Format) (s : Bool) (q k : ℕ) → Signed s (units f s q k)
unfolding units
units_signed f s q k = go (ltb (q * 2 ^ k) (2 ^ (low f + suc (emax f))))
  where
    go : (b : Bool) → Signed s (cond b (odd (suc (prec f)) s q k (low f)) (inf s))
    go true = odd_signed (suc (prec f)) s q k (low f)
    go false = refl

round_signed : (f : Format) (s : Bool) (a c : ℕ) → Signed s (round f s a c)
round_signed f s a c =
    let n = a * 2 ^ low f in
    let k = size (n / c) - prec f in
    subst (Signed s) (sym (round_is f s a c)) (units_signed f s (closest n (c * 2 ^ k)) k)

-- a negative value is at most a positive one
across : (x y : Float) → Signed true x → Signed false y → T (le x y)
unfolding le
across nan y p q = absurd p
across (inf false) y p q = absurd (true≢false (sym p))
across (inf true) nan p q = absurd q
across (inf true) (inf true) p q = tt
across (inf true) (inf false) p q = tt
across (inf true) (fin t n d) p q = tt
across (fin false m e) y p q = absurd (true≢false (sym p))
across (fin true m e) nan p q = absurd q
across (fin true m e) (inf true) p q = absurd (true≢false q)
across (fin true m e) (inf false) p q = tt
across (fin true m e) (fin true n d) p q = absurd (true≢false q)
across (fin true m e) (fin false n d) p q = to_le true (m * up e * down d) false (n * up d * down e) (omega arith)

-- ---- the sign goes through rounding, and turns the order around
odd_neg : (d q k l : ℕ) → odd d true q k l ≡ neg (odd d false q k l)
unfolding odd neg
odd_neg d zero k l = refl
odd_neg d (suc q) k l = refl

units_neg : (f : Format) (q k : ℕ) → units f true q k ≡ neg (units f false q k)
unfolding units neg
units_neg f q k = go (ltb (q * 2 ^ k) (2 ^ (low f + suc (emax f))))
  where
    go : (b : Bool) → cond b (odd (suc (prec f)) true q k (low f)) (inf true) ≡ neg (cond b (odd (suc (prec f)) false q k (low f)) (inf false))
    go true = odd_neg (suc (prec f)) q k (low f)
    go false = refl

round_neg : (f : Format) (a c : ℕ) → round f true a c ≡ neg (round f false a c)
round_neg f a c =
    let n = a * 2 ^ low f in
    let k = size (n / c) - prec f in
    round_is f true a c ∙ units_neg f (closest n (c * 2 ^ k)) k ∙ ap neg (sym (round_is f false a c))

turned : (s : Bool) (a : ℕ) (t : Bool) (b : ℕ) → side s a t b ≤ side t b s a → side (not t) b (not s) a ≤ side (not s) a (not t) b
turned false a false b h = omega arith
turned false a true b h = omega arith
turned true a false b h = omega arith
turned true a true b h = omega arith

pub neg_le : (x y : Float) → T (le x y) → T (le (neg y) (neg x))
unfolding le neg
neg_le nan y h = absurd h
neg_le (inf s) nan h = absurd h
neg_le (inf true) (inf true) h = tt
neg_le (inf true) (inf false) h = tt
neg_le (inf false) (inf true) h = absurd h
neg_le (inf false) (inf false) h = tt
neg_le (inf true) (fin t n d) h = tt
neg_le (inf false) (fin t n d) h = absurd h
neg_le (fin s m e) nan h = absurd h
neg_le (fin s m e) (inf true) h = absurd h
neg_le (fin s m e) (inf false) h = tt
neg_le (fin s m e) (fin t n d) h =
    to_le (not t) (n * up d * down e) (not s) (m * up e * down d) (turned s (m * up e * down d) t (n * up d * down e) (le_of s (m * up e * down d) t (n * up d * down e) h))

-- ---- rounding keeps the order
zeros : (x y : Float) (c d : ℕ) → 0 < c → 0 < d → HasValue x false 0 c → HasValue y true 0 d → T (le x y)
unfolding le
zeros nan y c d C D v w = absurd v
zeros (inf s) y c d C D v w = absurd v
zeros (fin s m e) nan c d C D v w = absurd w
zeros (fin s m e) (inf t) c d C D v w = absurd w
zeros (fin s m e) (fin t n k) c d C D v w =
    to_le s (m * up e * down k) t (n * up k * down e) (rw (gone (m * up e) c (down e) C v.1, gone (n * up k) d (down k) D w.1, zero-mul (down k), zero-mul (down e)) (flat s t))
  where
    gone : (x c y : ℕ) → 0 < c → x * c ≡ 0 * y → x ≡ 0
    gone x c y p e = eq_of_mul-eq-mul_right c p x 0 (e ∙ zero-mul y ∙ sym (zero-mul c))

    flat : (s t : Bool) → side s 0 t 0 ≤ side t 0 s 0
    flat false false = zero-le
    flat false true = zero-le
    flat true false = zero-le
    flat true true = zero-le

zero_value : (f : Format) (s : Bool) (a c d : ℕ) → 0 < c → 0 < d → a * d ≤ 0 → HasValue (round f s a c) s 0 c
zero_value f s a c d C D h = rw (none a d D h) (round_exact f s 0 c 0 0 C (lib.Pow.pow_pos (prec f)) (lib.Pow.pow_pos (low f + suc (emax f))) (simp zero-mul))
  where
    none : (a d : ℕ) → 0 < d → a * d ≤ 0 → a ≡ 0
    none a d p h = eq_of_mul-eq-mul_right d p a 0 (omega (arith, zero-mul d))

pub signed_mono : (f : Format) (s : Bool) (a c : ℕ) (t : Bool) (b d : ℕ) → 0 < c → 0 < d → plus s a * d + less t b * c ≤ plus t b * c + less s a * d
    → T (le (round f s a c) (round f t b d))
signed_mono f false a c false b d C D h = round_mono f a c b d C D (omega (arith, zero-mul c, zero-mul d))
signed_mono f true a c true b d C D h =
    rw (round_neg f a c, round_neg f b d) (neg_le (round f false b d) (round f false a c) (round_mono f b d a c D C (omega (arith, zero-mul c, zero-mul d))))
signed_mono f true a c false b d C D h = across (round f true a c) (round f false b d) (round_signed f true a c) (round_signed f false b d)
signed_mono f false a c true b d C D h =
    let k : a * d ≤ 0 = omega (arith, zero-mul c, zero-mul d) in
    let l : b * c ≤ 0 = omega (arith, zero-mul c, zero-mul d) in
    zeros (round f false a c) (round f true b d) c d C D (zero_value f false a c d C D k) (zero_value f true b d c D C l)

-- ---- a sum is one rounding of the exact sum
pub record Summed (f : Format) (s : Bool) (a : ℕ) (t : Bool) (b c : ℕ) : Type 0 where
  pub r : Bool
  pub n : ℕ
  pub is : sum f s a t b c ≡ round f r n c
  pub exact : plus r n + less s a + less t b ≡ less r n + plus s a + plus t b

summed : (f : Format) (s : Bool) (a : ℕ) (t : Bool) (b c : ℕ) → Summed f s a t b c
unfolding sum
summed f false a false b c = record { r = false; n = a + b; is = refl; exact = omega arith }
summed f true a true b c = record { r = true; n = a + b; is = refl; exact = omega arith }
summed f false a true b c = go (ltb a b) refl
  where
    go : (x : Bool) → ltb a b ≡ x → Summed f false a true b c
    go true e = let l : a < b = ltb-true a b e in record { r = true; n = b - a; is = rw e; exact = omega arith }
    go false e = let l : b ≤ a = ltb-false a b e in record { r = false; n = a - b; is = rw e; exact = omega arith }
summed f true a false b c = go (ltb a b) refl (ltb b a) refl
  where
    go : (x : Bool) → ltb a b ≡ x → (y : Bool) → ltb b a ≡ y → Summed f true a false b c
    go true e y g = let l : a < b = ltb-true a b e in record { r = false; n = b - a; is = rw e; exact = omega arith }
    go false e true g = let l : b < a = ltb-true b a g in record { r = true; n = a - b; is = rw (e, g); exact = omega arith }
    go false e false g = let l : b ≤ a = ltb-false a b e in let k : a ≤ b = ltb-false b a g in record { r = false; n = a - b; is = rw (e, g); exact = omega arith }

-- p - l is the sum of (P - N)/D and (Q - R)/E over D E, and p' - l' that of (P' - N')/D' and the same: the order of the first parts is that of the sums
shared : (x d e w : ℕ) → x * d * (e * w) ≡ x * e * (d * w)
shared x d e w = sym (mul_assoc (x * d) e w) ∙ ap (λ (y : ℕ). y * w) (mul_right_comm x d e) ∙ mul_assoc (x * e) d w

combine : (p l p' l' P N P' N' Q R D D' E : ℕ) → p + N * E + R * D ≡ l + P * E + Q * D → p' + N' * E + R * D' ≡ l' + P' * E + Q * D'
    → P * D' + N' * D ≤ P' * D + N * D' → p * (D' * E) + l' * (D * E) ≤ p' * (D * E) + l * (D' * E)
combine p l p' l' P N P' N' Q R D D' E u v h =
    let a : p * (D' * E) + N * E * (D' * E) + R * D * (D' * E) ≡ l * (D' * E) + P * E * (D' * E) + Q * D * (D' * E) = simp add-mul at (ap (λ (x : ℕ). x * (D' * E)) u) in
    let b : p' * (D * E) + N' * E * (D * E) + R * D' * (D * E) ≡ l' * (D * E) + P' * E * (D * E) + Q * D' * (D * E) = simp add-mul at (ap (λ (x : ℕ). x * (D * E)) v) in
    let k : P * D' * (E * E) + N' * D * (E * E) ≤ P' * D * (E * E) + N * D' * (E * E) = simp add-mul at (mul-le-mul_right (E * E) h) in
    omega (arith, shared P E D' E, shared N E D' E, shared P' E D E, shared N' E D E, shared R D D' E, shared Q D D' E)

from_parts : (f : Format) (r : Bool) (k c : ℕ) (r' : Bool) (k' c' : ℕ) (P N P' N' Q R D D' E : ℕ) → 0 < D → 0 < D' → 0 < E → c ≡ D * E → c' ≡ D' * E
    → plus r k + N * E + R * D ≡ less r k + P * E + Q * D → plus r' k' + N' * E + R * D' ≡ less r' k' + P' * E + Q * D'
    → P * D' + N' * D ≤ P' * D + N * D' → T (le (round f r k c) (round f r' k' c'))
from_parts f r k c r' k' c' P N P' N' Q R D D' E o o' i w w' u v h =
    rw (w, w')
    (signed_mono f r k (D * E) r' k' (D' * E) (mul-pos o i) (mul-pos o' i) (combine (plus r k) (less r k) (plus r' k') (less r' k') P N P' N' Q R D D' E u v h))

parts : (r : Bool) (k : ℕ) (s : Bool) (a c : ℕ) (t : Bool) (b d : ℕ) → plus r k + less s (a * c) + less t (b * d) ≡ less r k + plus s (a * c) + plus t (b * d)
    → plus r k + less s a * c + less t b * d ≡ less r k + plus s a * c + plus t b * d
parts r k s a c t b d h = simp (plus_mul, less_mul) at h

-- x + y grows with each of x and y
module _ (f : Format) (s : Bool) (m : ℕ) (e : ℤ) (s' : Bool) (m' : ℕ) (e' : ℤ) (t : Bool) (n : ℕ) (d : ℤ) (h : T (le (fin s m e) (fin s' m' e'))) where
  left : T (le (add f (fin s m e) (fin t n d)) (add f (fin s' m' e') (fin t n d)))
  unfolding add
  left =
      let g = summed f s (m * up e * down d) t (n * up d * down e) (down e * down d) in
      let g' = summed f s' (m' * up e' * down d) t (n * up d * down e') (down e' * down d) in
      rw (g.is, g'.is)
      (from_parts f g.r g.n (down e * down d) g'.r g'.n (down e' * down d) (plus s (m * up e)) (less s (m * up e)) (plus s' (m' * up e')) (less s' (m' * up e'))
      (plus t (n * up d)) (less t (n * up d)) (down e) (down e') (down d) (down_pos e) (down_pos e') (down_pos d) refl refl
      (parts g.r g.n s (m * up e) (down d) t (n * up d) (down e) g.exact) (parts g'.r g'.n s' (m' * up e') (down d) t (n * up d) (down e') g'.exact)
      (fin_le s m e s' m' e' h))

  right : T (le (add f (fin t n d) (fin s m e)) (add f (fin t n d) (fin s' m' e')))
  unfolding add
  right =
      let g = summed f t (n * up d * down e) s (m * up e * down d) (down d * down e) in
      let g' = summed f t (n * up d * down e') s' (m' * up e' * down d) (down d * down e') in
      let u = parts g.r g.n t (n * up d) (down e) s (m * up e) (down d) g.exact in
      let v = parts g'.r g'.n t (n * up d) (down e') s' (m' * up e') (down d) g'.exact in
      rw (g.is, g'.is)
      (from_parts f g.r g.n (down d * down e) g'.r g'.n (down d * down e') (plus s (m * up e)) (less s (m * up e)) (plus s' (m' * up e')) (less s' (m' * up e'))
      (plus t (n * up d)) (less t (n * up d)) (down e) (down e') (down d) (down_pos e) (down_pos e') (down_pos d) (mul_comm (down d) (down e)) (mul_comm (down d) (down e'))
      (omega (arith, u)) (omega (arith, v)) (fin_le s m e s' m' e' h))

-- ---- differences of finite values
pub sub_rising : (f : Format) (x x' y : Float) → T (finite x) → T (finite x') → T (finite y) → T (le x x') → T (le (sub f x y) (sub f x' y))
unfolding sub neg
sub_rising f nan x' y p q r h = absurd p
sub_rising f (inf s) x' y p q r h = absurd p
sub_rising f (fin s m e) nan y p q r h = absurd q
sub_rising f (fin s m e) (inf s') y p q r h = absurd q
sub_rising f (fin s m e) (fin s' m' e') nan p q r h = absurd r
sub_rising f (fin s m e) (fin s' m' e') (inf t) p q r h = absurd r
sub_rising f (fin s m e) (fin s' m' e') (fin t n d) p q r h = left f s m e s' m' e' (not t) n d h

pub sub_falling : (f : Format) (x y y' : Float) → T (finite x) → T (finite y) → T (finite y') → T (le y y') → T (le (sub f x y') (sub f x y))
unfolding sub neg
sub_falling f nan y y' p q r h = absurd p
sub_falling f (inf s) y y' p q r h = absurd p
sub_falling f (fin s m e) nan y' p q r h = absurd q
sub_falling f (fin s m e) (inf t) y' p q r h = absurd q
sub_falling f (fin s m e) (fin t n d) nan p q r h = absurd r
sub_falling f (fin s m e) (fin t n d) (inf t') p q r h = absurd r
sub_falling f (fin s m e) (fin t n d) (fin t' n' d') p q r h = right f (not t') n' d' (not t) n d s m e (neg_le (fin t n d) (fin t' n' d') h)
