-- Reading a number, a byte a turn.
-- Assumes nothing.
use mathlib.Core.Path.{◌≡◌, refl, sym, ap, ◌∙◌}
use mathlib.Core.List.{List}
use mathlib.Core.Bool.{cond}
use Prim.Native.Nat.{ℕ, zero, suc, ◌+◌, ◌-◌, ◌*◌, ◌^◌, ◌≤◌, ◌<◌}
use native.Mathlib.Nat.{suc-ne-zero, not-suc-le-zero, le_trans, le_of_eq, mul-le-mul_left, mul-add, add_assoc, mul_assoc, mul-one, zero-add, one-mul}
use native.Mathlib.Numerals.{add-one, one-add}
use native.Mathlib.Omega.{arith}
use borrow.Author.Tests.{lt-ltb, le-ltb}
use lib.Dec.{ltb}
use lib.Pow.{pow-add, pow_mono}
use lib.ListN.{length, get_or, drop, drop_of_length-le}
use lib.Seq.{drop-cons}
use Rattle.std.specs.Prelude.{Result, Ok, Err}
use mathlib.Core.Logic.{◌⊎◌, inl, inr}
use Rattle.records.specs.Numbers.{Found, found, fault, after, number_in}
use Rattle.records.specs.Parts.{field_read}
use Rattle.records.specs.declared.Fault.{Fault}
use Rattle.records.specs.declared.Fault.TheVariants.{Cut, Malformed}
use Rattle.records.specs.declared.Number.{Number}

-- what a number's reader answers
abbrev pub read_as : ℕ → ℕ → Result Number Fault
read_as v q = Ok (record { value = v; next = q })

abbrev pub no : Fault → Result Number Fault
no f = Err f

-- what is found, after i bytes that have shown a so far, with w the weight of the next
unfoldable pub wrapped : ℕ → ℕ → ℕ → Found → Found
wrapped i a w (fault f) = fault f
wrapped zero a w (found v n) = found (a + w * v) n
wrapped (suc i) a w (found zero n) = fault Malformed
wrapped (suc i) a w (found (suc v) n) = found (a + w * suc v) (suc i + n)

pub wrapped_none : (f : Found) → f ≡ wrapped 0 0 1 f
unfolding wrapped
wrapped_none (fault f) = refl
wrapped_none (found v n) = ap (λ (x : ℕ). found x n) (sym (zero-add (1 * v) ∙ one-mul v))

value : (a w b v : ℕ) → a + w * (b + 128 * v) ≡ a + w * b + w * 128 * v
value a w b v = simp (mul-add, mul_assoc, add_assoc)

swap : (i n : ℕ) → suc i + suc n ≡ suc (suc i) + n
swap i n = omega arith

worth : (i a w x n : ℕ) → 0 < x → wrapped (suc i) a w (found x n) ≡ found (a + w * x) (suc i + n)
unfolding wrapped
worth i a w zero n h = absurd (not-suc-le-zero h)
worth i a w (suc x) n h = refl

-- a byte with more after it
pub wrapped_more : (i a w b : ℕ) (f : Found) → wrapped i a w (after b f) ≡ wrapped (suc i) (a + w * (b - 128)) (w * 128) f
unfolding wrapped after
wrapped_more zero a w b (fault f) = refl
wrapped_more (suc i) a w b (fault f) = refl
wrapped_more zero a w b (found zero n) = refl
wrapped_more (suc i) a w b (found zero n) = refl
wrapped_more zero a w b (found (suc v) n) = cc (value a w (b - 128) (suc v), one-add n)
wrapped_more (suc i) a w b (found (suc v) n) = worth i a w (b - 128 + 128 * suc v) (suc n) (omega arith) ∙ cc (value a w (b - 128) (suc v), swap i n)

module _ (s : List ℕ) (p : ℕ) where
  pub at-end : (k : ℕ) → length s ≤ p → number_in k (drop p s) ≡ fault Cut
  unfolding number_in
  at-end k h = rw (drop_of_length-le s h)

  pub at_last : (i : ℕ) → i < 9 → p < length s → get_or s p 0 < 128 → number_in (9 - i) (drop p s) ≡ found (get_or s p 0) 1
  unfolding number_in
  at_last i h l b = let e : 9 - i ≡ suc (8 - i) = omega arith in rw (e, drop-cons s p 0 l, lt-ltb (get_or s p 0) 128 b)

  pub at_more : (i : ℕ) → i < 9 → p < length s → 128 ≤ get_or s p 0 → number_in (9 - i) (drop p s) ≡ after (get_or s p 0) (number_in (9 - (i + 1)) (drop (p + 1) s))
  unfolding number_in
  at_more i h l b = let e : 9 - i ≡ suc (9 - (i + 1)) = omega arith in rw (e, drop-cons s p 0 l, le-ltb (get_or s p 0) 128 b, add-one p)

  pub at-tenth : p < length s → number_in 0 (drop p s) ≡ cond (ltb (get_or s p 0) 2) (found (get_or s p 0) 1) (fault Malformed)
  unfolding number_in
  at-tenth l = rw (drop-cons s p 0 l)

-- ---- sizes
pub power : (i : ℕ) → i < 9 → 2 ^ (7 * i) * 128 ≤ 9223372036854775808
power i h = le_trans (le_of_eq (sym (pow-add 2 (7 * i) 7))) (pow_mono {i = 7 * i + 7} {j = 63} (omega arith))

pub grows : (v w b : ℕ) → v < w → b < 128 → v + w * b < w * 128
grows v w b h l =
    let e : w * (b + 1) ≤ w * 128 = mul-le-mul_left w (omega arith) in
    let g : w * (b + 1) ≡ w * b + w = mul-add w b 1 ∙ ap (λ (x : ℕ). w * b + x) (mul-one w) in
    omega arith

pub next_power : (i : ℕ) → 2 ^ (7 * i) * 128 ≡ 2 ^ (7 * (i + 1))
next_power i = sym (pow-add 2 (7 * i) 7) ∙ ap (λ (x : ℕ). 2 ^ x) (seven i)
  where
    seven : (i : ℕ) → 7 * i + 7 ≡ 7 * (i + 1)
    seven i = omega arith

-- ---- what the loop knows, and each way out of it
pub record Known (s : List ℕ) (at value weight i p : ℕ) : Type 0 where
  pub turns : i ≤ 9
  pub place : p ≡ at + i
  pub power-is : weight ≡ 2 ^ (7 * i)
  pub small : value < weight
  pub same : number_in 9 (drop at s) ≡ wrapped i value weight (number_in (9 - i) (drop p s))

module _ {s : List ℕ} {at value weight i p : ℕ} (k : Known s at value weight i p) where
  pub cut : length s ≤ p → no Cut ≡ field_read at (number_in 9 (drop at s))
  unfolding wrapped
  cut h = ap (field_read at) (sym (k.same ∙ ap (wrapped i value weight) (at-end s p (9 - i) h)))

  last : i < 9 → p < length s → get_or s p 0 < 128 → number_in 9 (drop at s) ≡ wrapped i value weight (found (get_or s p 0) 1)
  last h l b = k.same ∙ ap (wrapped i value weight) (at_last s p i h l b)

  pub empty : i < 9 → p < length s → get_or s p 0 ≡ 0 → 0 < i → no Malformed ≡ field_read at (number_in 9 (drop at s))
  unfolding wrapped
  empty h l b g = ap (field_read at) (sym (last h l (omega arith) ∙ ap (λ (x : ℕ). wrapped i value weight (found x 1)) b ∙ none i g))
    where
      none : (i : ℕ) → 0 < i → wrapped i value weight (found 0 1) ≡ fault Malformed
      none zero g = absurd (not-suc-le-zero g)
      none (suc i) g = refl

  pub whole : i < 9 → p < length s → get_or s p 0 < 128 → ((i ≡ 0) ⊎ (0 < get_or s p 0)) → read_as (value + weight * get_or s p 0) (p + 1) ≡ field_read at (number_in 9 (drop at s))
  unfolding wrapped
  whole h l b o = cc (number-next, ap (field_read at) (last h l b ∙ worth-any i (get_or s p 0) o))
    where
      number-next : p + 1 ≡ at + (i + 1)
      number-next = omega (arith, k.place)

      worth-any : (i x : ℕ) → ((i ≡ 0) ⊎ (0 < x)) → wrapped i value weight (found x 1) ≡ found (value + weight * x) (i + 1)
      worth-any zero x o = refl
      worth-any (suc i) x (inl e) = absurd (suc-ne-zero i e)
      worth-any (suc i) x (inr g) = worth i value weight x 1 g

  pub fits_last : i < 9 → (b : ℕ) → b < 128 → value + weight * b < 9223372036854775808
  fits_last h b l = omega (arith, grows value weight b k.small l, rw (← k.power-is) at (power i h))

  pub weighs : i < 9 → weight * 128 ≤ 9223372036854775808
  weighs h = rw k.power-is (power i h)

  pub is-nine : 9 ≤ i → i ≡ 9
  is-nine h = omega (arith, k.turns)

  pub onward : i < 9 → p < length s → 128 ≤ get_or s p 0 → get_or s p 0 < 256 → Known s at (value + weight * (get_or s p 0 - 128)) (weight * 128) (i + 1) (p + 1)
  onward h l b b' = record {
    turns = omega arith;
    place = omega (arith, k.place);
    power-is = ap (λ (x : ℕ). x * 128) k.power-is ∙ next_power i;
    small = grows value weight (get_or s p 0 - 128) k.small (omega arith);
    same = rw (add-one i) (rw (add-one i) at (k.same ∙ ap (wrapped i value weight) (at_more s p i h l b) ∙ wrapped_more i value weight (get_or s p 0) (number_in (9 - (i + 1)) (drop (p + 1) s))));
  }

  tenth : i ≡ 9 → p < length s → number_in 9 (drop at s) ≡ wrapped 9 value weight (cond (ltb (get_or s p 0) 2) (found (get_or s p 0) 1) (fault Malformed))
  tenth e l = rw e at k.same ∙ ap (wrapped 9 value weight) (at-tenth s p l)

  pub tenth-one : i ≡ 9 → p < length s → get_or s p 0 ≡ 1 → read_as (value + weight) (p + 1) ≡ field_read at (number_in 9 (drop at s))
  unfolding wrapped
  tenth-one e l b = let t : number_in 9 (drop at s) ≡ found (value + weight * 1) 10 = tenth e l ∙ rw b in cc (mul-one weight, next, ap (field_read at) t)
    where
      next : p + 1 ≡ at + 10
      next = omega (arith, k.place)

  pub tenth-bad : i ≡ 9 → p < length s → (get_or s p 0 ≡ 1 → ⊥) → no Malformed ≡ field_read at (number_in 9 (drop at s))
  unfolding wrapped
  tenth-bad e l b = ap (field_read at) (sym (tenth e l ∙ other (get_or s p 0) b))
    where
      other : (x : ℕ) → (x ≡ 1 → ⊥) → wrapped 9 value weight (cond (ltb x 2) (found x 1) (fault Malformed)) ≡ fault Malformed
      other zero n = refl
      other (suc zero) n = absurd (n refl)
      other (suc (suc x)) n = rw (le-ltb (suc (suc x)) 2 (omega arith))
