-- Fields that were read whole: the first of them and the others, where they end, and the limits that they keep.
-- Assumes nothing.
use mathlib.Core.Path.{◌≡◌, refl, sym, ap, ◌∙◌}
use mathlib.Core.List.{List, [], ◌∷◌}
use mathlib.Core.Bool.{Bool, true, false, cond}
use Prim.Native.Nat.{ℕ, zero, suc, ◌+◌, ◌≤◌}
use native.Mathlib.Omega.{arith}
use borrow.Author.Tests.{leb-true}
use lib.Dec.{ltb, leb}
use lib.ListN.{length, get_or, drop, length-drop}
use lib.Seq.{drop-drop}
use Rattle.records.specs.Numbers.{Found, found, fault, after, number_in}
use Rattle.records.specs.Fields.{Field, number, flag, count, float, float_in, at_most, field_in, Fields, whole, stopped, onto, onward, fields_in}
use Rattle.records.specs.declared.Fault.{Fault}
use Rattle.records.specs.declared.Fault.TheVariants.{Flag, Count, Malformed}

-- ---- a field
-- a limit lets pass what was found within it
pub passed : (most : ℕ) (g : Fault) (f : Found) (v n : ℕ) → at_most most g f ≡ found v n → (f ≡ found v n) × (v ≤ most)
passed most g (fault h) v n e = cc
passed most g (found x m) v n e = go (leb x most) refl e
  where
    go : (t : Bool) → leb x most ≡ t → cond t (found x m) (fault g) ≡ found v n → (found x m ≡ found v n) × (v ≤ most)
    go false q e = cc
    go true q e = let y : x ≡ v = cc in (e, omega (arith, leb-true x most q))

number_inside : (k : ℕ) (bs : List ℕ) (v n : ℕ) → number_in k bs ≡ found v n → n ≤ length bs
unfolding number_in after
number_inside k [] v n e = cc
number_inside zero (b ∷ bs) v n e = go (ltb b 2) e
  where
    go : (t : Bool) → cond t (found b 1) (fault Malformed) ≡ found v n → n ≤ suc (length bs)
    go true e = let y : 1 ≡ n = cc in omega arith
    go false e = cc
number_inside (suc k) (b ∷ bs) v n e = go (ltb b 128) e (number_inside k bs)
  where
    more : (f : Found) → ((v n : ℕ) → f ≡ found v n → n ≤ length bs) → after b f ≡ found v n → n ≤ suc (length bs)
    more (fault g) ih e = cc
    more (found zero m) ih e = cc
    more (found (suc x) m) ih e = let y : suc m ≡ n = cc in omega (arith, ih (suc x) m refl)

    go : (t : Bool) → cond t (found b 1) (after b (number_in k bs)) ≡ found v n → ((v n : ℕ) → number_in k bs ≡ found v n → n ≤ length bs) → n ≤ suc (length bs)
    go true e ih = let y : 1 ≡ n = cc in omega arith
    go false e ih = more (number_in k bs) ih e

pub field_inside : (f : Field) (bs : List ℕ) (v n : ℕ) → field_in f bs ≡ found v n → n ≤ length bs
unfolding field_in float_in
field_inside number bs v n e = number_inside 9 bs v n e
field_inside flag bs v n e = number_inside 9 bs v n (passed 1 Flag (number_in 9 bs) v n e).0
field_inside count bs v n e = number_inside 9 bs v n (passed 256 Count (number_in 9 bs) v n e).0
field_inside float (a ∷ b ∷ c ∷ d ∷ bs) v n e = let y : 4 ≡ n = cc in omega arith
field_inside float [] v n e = cc
field_inside float (a ∷ []) v n e = cc
field_inside float (a ∷ b ∷ []) v n e = cc
field_inside float (a ∷ b ∷ c ∷ []) v n e = cc

-- ---- fields in a row
pub record Step (f : Field) (fs : List Field) (at : ℕ) (bs vs : List ℕ) (q : ℕ) (rest : List ℕ) : Type 0 where
  pub v : ℕ
  pub n : ℕ
  pub others : List ℕ
  pub first : field_in f bs ≡ found v n
  pub then : fields_in fs (at + n) (drop n bs) ≡ whole others q rest
  pub values : vs ≡ v ∷ others

pub step : (f : Field) (fs : List Field) (at : ℕ) (bs vs : List ℕ) (q : ℕ) (rest : List ℕ) → fields_in (f ∷ fs) at bs ≡ whole vs q rest → Step f fs at bs vs q rest
unfolding fields_in
step f fs at bs vs q rest e = go (field_in f bs) refl e
  where
    inner : (v n : ℕ) → field_in f bs ≡ found v n → (r : Fields) → fields_in fs (at + n) (drop n bs) ≡ r → onto v r ≡ whole vs q rest → Step f fs at bs vs q rest
    inner v n a (stopped g o) b e = cc
    inner v n a (whole us p r) b e = record { v = v; n = n; others = us; first = a; then = cc; values = cc }

    go : (x : Found) → field_in f bs ≡ x → onward x at (λ n. fields_in fs (at + n) (drop n bs)) ≡ whole vs q rest → Step f fs at bs vs q rest
    go (fault g) a e = cc
    go (found v n) a e = inner v n a (fields_in fs (at + n) (drop n bs)) refl e

-- fields read from a place of a list end at a place of it, with the bytes from there on left
pub fields_end : (fs : List Field) (s : List ℕ) (at : ℕ) (vs : List ℕ) (q : ℕ) (rest : List ℕ) → at ≤ length s → fields_in fs at (drop at s) ≡ whole vs q rest → (rest ≡ drop q s) × (q ≤ length s)
unfolding fields_in
fields_end [] s at vs q rest l e = let y : at ≡ q = cc in (let z : drop at s ≡ rest = cc in sym z ∙ ap (λ (k : ℕ). drop k s) y, omega arith)
fields_end (f ∷ fs) s at vs q rest l e =
    let w = step f fs at (drop at s) vs q rest e in
    let i : at + w.n ≤ length s = omega (arith, field_inside f (drop at s) w.v w.n w.first, length-drop at s) in
    fields_end fs s (at + w.n) w.others q rest i (ap (fields_in fs (at + w.n)) (sym (drop-drop w.n at s)) ∙ w.then)

-- a count is at most 256
pub fields_count : (fs : List Field) (at : ℕ) (bs vs : List ℕ) (q : ℕ) (rest : List ℕ) (i : ℕ) → fields_in fs at bs ≡ whole vs q rest → get_or fs i number ≡ count → get_or vs i 0 ≤ 256
unfolding field_in
fields_count [] at bs vs q rest i e g = absurd (not-count g)
  where
    not-count : number ≡ count → ⊥
    not-count g = cc
fields_count (f ∷ fs) at bs vs q rest zero e g =
    let w = step f fs at bs vs q rest e in
    let a : at_most 256 Count (number_in 9 bs) ≡ found w.v w.n = ap (λ (x : Field). field_in x bs) (sym g) ∙ w.first in
    omega (arith, (passed 256 Count (number_in 9 bs) w.v w.n a).1, ap (λ (l : List ℕ). get_or l 0 0) w.values)
fields_count (f ∷ fs) at bs vs q rest (suc i) e g =
    let w = step f fs at bs vs q rest e in
    omega (arith, fields_count fs (at + w.n) (drop w.n bs) w.others q rest i w.then g, ap (λ (l : List ℕ). get_or l (suc i) 0) w.values)
