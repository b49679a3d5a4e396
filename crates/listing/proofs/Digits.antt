-- Digits, the last written first, and the zeros in front of them.
-- Assumes nothing.
use mathlib.Core.Path.{◌≡◌, refl, sym, ap, ◌∙◌, subst}
use mathlib.Core.List.{List, [], ◌∷◌}
use mathlib.Core.Bool.{Bool, true, false, cond}
use Prim.Native.Nat.{ℕ, zero, suc, ◌+◌, ◌-◌, ◌/◌, ◌%◌, ◌≤◌, ◌<◌}
use native.Mathlib.Nat.{le_refl}
use native.Mathlib.Numerals.{add-one, sub-one}
use native.Mathlib.Omega.{arith}
use borrow.Author.Tests.{eq-eqb, eqb-true}
use lib.Dec.{eqb}
use lib.ListN.{length, get_or, set, take, drop, length-append, length-set, length-drop}
use lib.Seq.{sets, drop-cons, take_all}
use Rattle.listing.specs.Text.{glyph, digits, trimmed, decimal, hex}
use Rattle.listing.specs.Lines.{field, bits_field, Placed}
use Rattle.listing.proofs.Writing.{sets_last, placed, placed-byte}

pub digits_long : (b k n : ℕ) → length (digits b k n) ≡ k
unfolding digits
digits_long b zero n = refl
digits_long b (suc k) n = length-append (digits b k (n / b)) (glyph (n % b) ∷ []) ∙ add-one _ ∙ ap suc (digits_long b k (n / b))

-- the digits behind the first i are written over d₀, which has become d; rest has those to come
pub record Spelt (d₀ : List ℕ) (at b k n : ℕ) (d : List ℕ) (i rest : ℕ) : Type 0 where
  pub most : i ≤ k
  pub wide : length d ≡ length d₀
  pub same : sets d at (digits b i rest) ≡ sets d₀ at (digits b k n)

pub spelt_more : {d₀ : List ℕ} {at b k n : ℕ} {d : List ℕ} {i rest : ℕ} (g : ℕ) → Spelt d₀ at b k n d i rest → 0 < i → g ≡ glyph (rest % b) → Spelt d₀ at b k n (set d (at + (i - 1)) g) (i - 1) (rest / b)
unfolding digits
spelt_more {d₀} {at} {b} {k} {n} {d} {i} {rest} g w h e = go i h w
  where
    go : (i : ℕ) → 0 < i → Spelt d₀ at b k n d i rest → Spelt d₀ at b k n (set d (at + (i - 1)) g) (i - 1) (rest / b)
    go zero l v = absurd (no l)
      where
        no : 0 < 0 → ⊥
        no m = omega arith
    go (suc j) l v = subst (λ (x : ℕ). Spelt d₀ at b k n (set d (at + x) g) x (rest / b)) (sym (sub-one (suc j))) (record {
      most = omega (arith, v.most);
      wide = length-set d (at + j) g ∙ v.wide;
      same =
          ap (λ (x : ℕ). sets (set d (at + x) g) at (digits b j (rest / b))) (sym (digits_long b j (rest / b)))
          ∙ ap (λ (x : ℕ). sets (set d (at + length (digits b j (rest / b))) x) at (digits b j (rest / b))) e
          ∙ sets_last d at (digits b j (rest / b)) (glyph (rest % b))
          ∙ v.same;
    })

pub spelt_done : {d₀ : List ℕ} {at b k n : ℕ} {d : List ℕ} {i rest : ℕ} → Spelt d₀ at b k n d i rest → i ≤ 0 → d ≡ sets d₀ at (digits b k n)
unfolding digits
spelt_done {d₀} {at} {b} {k} {n} {d} {i} {rest} w h = go i h w
  where
    go : (i : ℕ) → i ≤ 0 → Spelt d₀ at b k n d i rest → d ≡ sets d₀ at (digits b k n)
    go zero l v = v.same
    go (suc j) l v = absurd (no l)
      where
        no : suc j ≤ 0 → ⊥
        no m = omega arith

-- ---- zeros in front
trim_zero : (d e : ℕ) (ds : List ℕ) → d ≡ 48 → trimmed (d ∷ e ∷ ds) ≡ trimmed (e ∷ ds)
unfolding trimmed
trim_zero d e ds h = ap (λ (t : Bool). cond t (trimmed (e ∷ ds)) (d ∷ e ∷ ds)) (eq-eqb d 48 h)

trim_other : (d e : ℕ) (ds : List ℕ) → (d ≡ 48 → ⊥) → trimmed (d ∷ e ∷ ds) ≡ d ∷ e ∷ ds
unfolding trimmed
trim_other d e ds h = go (eqb d 48) (eqb-true d 48)
  where
    go : (t : Bool) → (t ≡ true → d ≡ 48) → cond t (trimmed (e ∷ ds)) (d ∷ e ∷ ds) ≡ d ∷ e ∷ ds
    go true f = absurd (h (f refl))
    go false f = refl

trim_short : (l : List ℕ) → length l ≤ 1 → trimmed l ≡ l
unfolding trimmed
trim_short [] h = refl
trim_short (d ∷ []) h = refl
trim_short (d ∷ e ∷ ds) h = absurd (no h)
  where
    no : suc (suc (length ds)) ≤ 1 → ⊥
    no l = omega arith

-- the first i bytes are zeros to be dropped
pub record Dropped (l : List ℕ) (i : ℕ) : Type 0 where
  pub most : i ≤ length l
  pub same : trimmed (drop i l) ≡ trimmed l

two : (l : List ℕ) (i : ℕ) → i + 1 < length l → drop i l ≡ get_or l i 0 ∷ get_or l (suc i) 0 ∷ drop (suc (suc i)) l
two l i h = drop-cons l i 0 (omega arith) ∙ ap (λ (r : List ℕ). get_or l i 0 ∷ r) (drop-cons l (suc i) 0 (omega arith))

pub dropped_more : {l : List ℕ} {i : ℕ} → Dropped l i → i + 1 < length l → get_or l i 0 ≡ 48 → Dropped l (i + 1)
dropped_more {l} {i} w h e = record {
  most = omega arith;
  same =
      ap (λ (k : ℕ). trimmed (drop k l)) (add-one i)
      ∙ ap trimmed (drop-cons l (suc i) 0 (omega arith))
      ∙ sym (trim_zero (get_or l i 0) (get_or l (suc i) 0) (drop (suc (suc i)) l) e)
      ∙ ap trimmed (sym (two l i h))
      ∙ w.same;
}

pub dropped_digit : {l : List ℕ} {i : ℕ} → Dropped l i → i + 1 < length l → (get_or l i 0 ≡ 48 → ⊥) → drop i l ≡ trimmed l
dropped_digit {l} {i} w h f = two l i h ∙ sym (trim_other (get_or l i 0) (get_or l (suc i) 0) (drop (suc (suc i)) l) f) ∙ ap trimmed (sym (two l i h)) ∙ w.same

pub dropped_last : {l : List ℕ} {i : ℕ} → Dropped l i → length l ≤ i + 1 → drop i l ≡ trimmed l
dropped_last {l} {i} w h = sym (trim_short (drop i l) (omega (arith, length-drop i l))) ∙ w.same

trimmed_few : (l : List ℕ) → length (trimmed l) ≤ length l
unfolding trimmed
trimmed_few [] = le_refl 0
trimmed_few (d ∷ []) = le_refl 1
trimmed_few (d ∷ e ∷ ds) = go (eqb d 48) (trimmed_few (e ∷ ds))
  where
    go : (t : Bool) → length (trimmed (e ∷ ds)) ≤ suc (length ds) → length (cond t (trimmed (e ∷ ds)) (d ∷ e ∷ ds)) ≤ suc (suc (length ds))
    go true h = omega arith
    go false h = le_refl (suc (suc (length ds)))

-- ---- fields
pub field_done : {d₀ : List ℕ} {at : ℕ} {d : List ℕ} {p : ℕ} {text : List ℕ} (n b r k : ℕ) → text ≡ digits 10 20 n → drop r text ≡ trimmed text → length text - r ≤ k → p ≡ at + length (take k (drop r text)) → d ≡ sets d₀ at (take k (drop r text)) → Placed d₀ at (field n b) 21 (set d p b) (p + 1)
field_done {d₀} {at} {d} {p} {text} n b r k e t l a s = placed-byte whole b
  where
    is : take k (drop r text) ≡ decimal n
    is = let h : length (drop r text) ≤ k = omega (arith, length-drop r text) in take_all k (drop r text) h ∙ t ∙ ap trimmed e

    whole : Placed d₀ at (decimal n) 20 d p
    whole = placed (decimal n) 20 (omega (arith, trimmed_few (digits 10 20 n), digits_long 10 20 n)) (a ∙ ap (λ (l : List ℕ). at + length l) is) (s ∙ ap (λ (l : List ℕ). sets d₀ at l) is)

pub bits_done : {d₀ : List ℕ} {at : ℕ} {d : List ℕ} (bits : ℕ) → d ≡ sets d₀ at (hex bits) → Placed d₀ at (bits_field bits) 9 (set d (at + 8) 10) (at + 8 + 1)
bits_done {d₀} {at} {d} bits s = placed-byte whole 10
  where
    whole : Placed d₀ at (hex bits) 8 d (at + 8)
    whole = placed (hex bits) 8 (omega (arith, digits_long 16 8 bits)) (ap (λ (k : ℕ). at + k) (sym (digits_long 16 8 bits))) s
