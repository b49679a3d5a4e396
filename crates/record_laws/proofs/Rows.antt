-- Fields in a row: each law of a field, over a list of fields.
-- Assumes nothing.
use mathlib.Core.Path.{◌≡◌, refl, sym, ap, ◌∙◌}
use mathlib.Core.List.{List, [], ◌∷◌, ◌++◌, append_assoc}
use Prim.Native.Nat.{ℕ, ◌+◌, ◌≤◌, ◌<◌}
use native.Mathlib.Nat.{add-zero, add_assoc}
use native.Mathlib.Omega.{arith}
use lib.ListN.{length, drop, length-append, length-drop}
use lib.Seq.{drop-append_seam, drop-append-le}
use Rattle.records.specs.Numbers.{Found, found, fault}
use Rattle.records.specs.Fields.{Field, field_in, Fields, whole, stopped, onto, onward, fields_in}
use Rattle.records.specs.declared.Fault.TheVariants.{Cut}
use Rattle.records.proofs.Steps.{field_inside, step}
use Rattle.record_laws.proofs.Numbers.{Bytes}
use Rattle.record_laws.proofs.Fields.{field_bytes, Fits, most, drop_below, field_back, field_made, field_stable, field_long, field_cut}

unfoldable pub row_bytes : List Field → List ℕ → List ℕ
row_bytes [] vs = []
row_bytes (f ∷ fs) [] = []
row_bytes (f ∷ fs) (v ∷ vs) = field_bytes f v ++ row_bytes fs vs

-- as many values as fields, and each fits its field
unfoldable pub FitRow : List Field → List ℕ → Type 0
FitRow [] [] = Unit {0}
FitRow [] (v ∷ vs) = ⊥
FitRow (f ∷ fs) [] = ⊥
FitRow (f ∷ fs) (v ∷ vs) = Fits f v × FitRow fs vs

unfoldable pub most_row : List Field → ℕ
most_row [] = 0
most_row (f ∷ fs) = most f + most_row fs

-- reading what was written
pub row_back : (fs : List Field) (at : ℕ) (vs rest : List ℕ) → FitRow fs vs → fields_in fs at (row_bytes fs vs ++ rest) ≡ whole vs (at + length (row_bytes fs vs)) rest
unfolding fields_in row_bytes FitRow
row_back [] at [] rest h = ap (λ (k : ℕ). whole [] k rest) (sym (add-zero at))
row_back [] at (v ∷ vs) rest h = absurd h
row_back (f ∷ fs) at [] rest h = absurd h
row_back (f ∷ fs) at (v ∷ vs) rest h =
    let b = field_bytes f v in
    let a : b ++ row_bytes fs vs ++ rest ≡ b ++ (row_bytes fs vs ++ rest) = append_assoc b (row_bytes fs vs) rest in
    let e : field_in f (b ++ (row_bytes fs vs ++ rest)) ≡ found v (length b) = field_back f v (row_bytes fs vs ++ rest) h.0 in
    let d : drop (length b) (b ++ (row_bytes fs vs ++ rest)) ≡ row_bytes fs vs ++ rest = drop-append_seam b (row_bytes fs vs ++ rest) in
    let i = row_back fs (at + length b) vs rest h.1 in
    let n : at + length b + length (row_bytes fs vs) ≡ at + length (b ++ row_bytes fs vs) = omega (arith, length-append b (row_bytes fs vs)) in
    rw (a, e, d, i, n)

-- writing what was read
pub record RowMade (fs : List Field) (at : ℕ) (bs vs : List ℕ) (q : ℕ) (rest : List ℕ) : Type 0 where
  pub fits : FitRow fs vs
  pub ends : q ≡ at + length (row_bytes fs vs)
  pub same : bs ≡ row_bytes fs vs ++ rest

pub row_made : (fs : List Field) (at : ℕ) (bs vs : List ℕ) (q : ℕ) (rest : List ℕ) → Bytes bs → fields_in fs at bs ≡ whole vs q rest → RowMade fs at bs vs q rest
unfolding fields_in row_bytes FitRow
row_made [] at bs [] q rest y e = let a : at ≡ q = cc in record { fits = tt; ends = omega arith; same = cc }
row_made [] at bs (v ∷ vs) q rest y e = let z : ◌≡◌ {A = List ℕ} [] (v ∷ vs) = cc in cc
row_made (f ∷ fs) at bs vs q rest y e =
    let w = step f fs at bs vs q rest e in
    let m = field_made f bs w.v w.n y w.first in
    let r = row_made fs (at + w.n) (drop w.n bs) w.others q rest (drop_below 256 w.n bs y) w.then in
    let b = field_bytes f w.v in
    rw w.values (record {
      fits = (m.fits, r.fits);
      ends = omega (arith, r.ends, m.wide, length-append b (row_bytes fs w.others));
      same = m.same ∙ ap (λ (l : List ℕ). b ++ l) r.same ∙ sym (append_assoc b (row_bytes fs w.others) rest);
    })

-- more bytes behind
abbrev pub behind : List ℕ → Fields → Fields
behind cs (whole vs q rest) = whole vs q (rest ++ cs)
behind cs (stopped f o) = stopped f o

abbrev pub Settled : Fields → Type 0
Settled r = (o : ℕ) → r ≡ stopped Cut o → ⊥

onto_behind : (v : ℕ) (cs : List ℕ) (r : Fields) → onto v (behind cs r) ≡ behind cs (onto v r)
onto_behind v cs (whole vs q rest) = refl
onto_behind v cs (stopped f o) = refl

pub row_stable : (fs : List Field) (at : ℕ) (bs cs : List ℕ) → Settled (fields_in fs at bs) → fields_in fs at (bs ++ cs) ≡ behind cs (fields_in fs at bs)
unfolding fields_in
row_stable [] at bs cs h = refl
row_stable (f ∷ fs) at bs cs h =
    let s = field_stable f bs cs (λ e. h at (ap (λ (x : Found). onward x at (λ n. fields_in fs (at + n) (drop n bs))) e)) in
    ap (λ (x : Found). onward x at (λ n. fields_in fs (at + n) (drop n (bs ++ cs)))) s ∙ go (field_in f bs) refl h (λ n. row_stable fs (at + n) (drop n bs) cs)
  where
    go : (x : Found) → field_in f bs ≡ x → Settled (onward x at (λ n. fields_in fs (at + n) (drop n bs))) → ((n : ℕ) → Settled (fields_in fs (at + n) (drop n bs)) → fields_in fs (at + n) (drop n bs ++ cs) ≡ behind cs (fields_in fs (at + n) (drop n bs))) → onward x at (λ n. fields_in fs (at + n) (drop n (bs ++ cs))) ≡ behind cs (onward x at (λ n. fields_in fs (at + n) (drop n bs)))
    go (fault g) e h ih = refl
    go (found v n) e h ih =
        let d : drop n (bs ++ cs) ≡ drop n bs ++ cs = drop-append-le n bs cs (field_inside f bs v n e) in
        let i = ih n (λ o g. h o (ap (onto v) g)) in
        ap (λ (l : List ℕ). onto v (fields_in fs (at + n) l)) d ∙ ap (onto v) i ∙ onto_behind v cs (fields_in fs (at + n) (drop n bs))

-- the same bytes further on
abbrev pub moved : ℕ → Fields → Fields
moved k (whole vs q rest) = whole vs (k + q) rest
moved k (stopped f o) = stopped f (k + o)

onto_moved : (v k : ℕ) (r : Fields) → onto v (moved k r) ≡ moved k (onto v r)
onto_moved v k (whole vs q rest) = refl
onto_moved v k (stopped f o) = refl

pub row_moved : (fs : List Field) (k at : ℕ) (bs : List ℕ) → fields_in fs (k + at) bs ≡ moved k (fields_in fs at bs)
unfolding fields_in
row_moved [] k at bs = refl
row_moved (f ∷ fs) k at bs = go (field_in f bs) (λ n. row_moved fs k (at + n) (drop n bs))
  where
    go : (x : Found) → ((n : ℕ) → fields_in fs (k + (at + n)) (drop n bs) ≡ moved k (fields_in fs (at + n) (drop n bs))) → onward x (k + at) (λ n. fields_in fs (k + at + n) (drop n bs)) ≡ moved k (onward x at (λ n. fields_in fs (at + n) (drop n bs)))
    go (fault g) ih = refl
    go (found v n) ih =
        ap (λ (p : ℕ). onto v (fields_in fs p (drop n bs))) (add_assoc k at n)
        ∙ ap (onto v) (ih n)
        ∙ onto_moved v k (fields_in fs (at + n) (drop n bs))

-- how long
pub row_long : (fs : List Field) (vs : List ℕ) → FitRow fs vs → length (row_bytes fs vs) ≤ most_row fs
unfolding row_bytes FitRow most_row
row_long [] vs h = omega arith
row_long (f ∷ fs) [] h = absurd h
row_long (f ∷ fs) (v ∷ vs) h = omega (arith, length-append (field_bytes f v) (row_bytes fs vs), field_long f v h.0, row_long fs vs h.1)

-- a row that is cut short is not much longer
pub row_cut : (fs : List Field) (at : ℕ) (bs : List ℕ) (o : ℕ) → Bytes bs → fields_in fs at bs ≡ stopped Cut o → length bs < most_row fs + 10
unfolding fields_in most_row
row_cut [] at bs o y e = cc
row_cut (f ∷ fs) at bs o y e = go (field_in f bs) refl e (λ n. row_cut fs (at + n) (drop n bs) o (drop_below 256 n bs y))
  where
    inner : (v n : ℕ) → field_in f bs ≡ found v n → (r : Fields) → fields_in fs (at + n) (drop n bs) ≡ r → onto v r ≡ stopped Cut o → ((n : ℕ) → fields_in fs (at + n) (drop n bs) ≡ stopped Cut o → length (drop n bs) < most_row fs + 10) → length bs < most f + most_row fs + 10
    inner v n a (whole vs q rest) b e ih = cc
    inner v n a (stopped g x) b e ih =
        let m = field_made f bs v n y a in
        omega (arith, ih n (b ∙ e), length-drop n bs, m.wide, field_long f v m.fits)

    go : (x : Found) → field_in f bs ≡ x → onward x at (λ n. fields_in fs (at + n) (drop n bs)) ≡ stopped Cut o → ((n : ℕ) → fields_in fs (at + n) (drop n bs) ≡ stopped Cut o → length (drop n bs) < most_row fs + 10) → length bs < most f + most_row fs + 10
    go (fault g) a e ih = let c : g ≡ Cut = cc in omega (arith, field_cut f bs (a ∙ ap fault c))
    go (found v n) a e ih = inner v n a (fields_in fs (at + n) (drop n bs)) refl e ih
