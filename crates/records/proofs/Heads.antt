-- Reading the six numbers of a record, one a turn.
-- Assumes nothing.
use mathlib.Core.Path.{◌≡◌, refl, sym, ap, ◌∙◌}
use mathlib.Core.List.{List, [], ◌∷◌, ◌++◌}
use Prim.Native.Nat.{ℕ, zero, suc, ◌+◌, ◌≤◌, ◌<◌}
use native.Mathlib.Numerals.{add-one}
use native.Mathlib.Omega.{arith}
use borrow.Author.Tests.{le-leb, lt-leb}
use lib.ListN.{length, get_or, set, take, drop, length-set}
use lib.Seq.{drop-cons, drop-drop, take-suc-set, take_all}
use Rattle.records.specs.Numbers.{Found, found, fault, number_in}
use Rattle.records.specs.Fields.{Field, number, at_most, field_in, Fields, whole, stopped, onto, onward, fields_in}
use Rattle.records.specs.Records.{numbers, header_of}
use Rattle.records.specs.Parts.{kind_of, field_read, head_read}
use Rattle.records.proofs.ReadingNumbers.{read_as, no}
use Rattle.records.specs.declared.Field.{Field as Kind}
use Rattle.records.specs.declared.Field.TheVariants.{Number as A_number, Flag as A_flag, Count as A_count}
use Rattle.records.specs.declared.Header.{Header}
use Rattle.records.specs.declared.Number.{Number}
use Rattle.records.specs.declared.ReadError.{ReadError}
use Rattle.records.specs.declared.ReadError.TheVariants.{Refused}
use Rattle.records.specs.declared.Record.{Record}
use Rattle.std.specs.Prelude.{Result, Ok, Err}
use Rattle.records.specs.declared.Fault.{Fault}
use Rattle.records.specs.declared.Fault.TheVariants.{Flag, Count}

-- what the reader of a head answers
abbrev pub head_as : Header → ℕ → Result Record ReadError
head_as h q = Ok (record { header = h; next = q })

abbrev pub no_head : Fault → ℕ → Result Record ReadError
no_head f o = Err (Refused f o)

-- ---- what a field's answer says was found
pub record Got (p : ℕ) (f : Found) (v q : ℕ) : Type 0 where
  pub n : ℕ
  pub was : f ≡ found v n
  pub next : q ≡ p + n

pub got : (p : ℕ) (f : Found) (v q : ℕ) → read_as v q ≡ field_read p f → Got p f v q
got p (found x n) v q e =
    let w : ◌≡◌ {A = Number} (record { value = v; next = q }) (record { value = x; next = p + n }) = cc in
    record { n = n; was = ap (λ (r : Number). found r.value n) (sym w); next = ap (λ (r : Number). r.next) w }
got p (fault g) v q e = cc

pub got_no : (p : ℕ) (f : Found) (g : Fault) → no g ≡ field_read p f → f ≡ fault g
got_no p (found x n) g e = cc
got_no p (fault h) g e = cc

-- ---- a field at a place, by its kind
module _ (at : ℕ) (bs : List ℕ) where
  pub no_number : (f : Kind) {g : Fault} → no g ≡ field_read at (number_in 9 bs) → no g ≡ field_read at (field_in (kind_of f) bs)
  unfolding field_in
  no_number A_number e = e
  no_number A_flag {g} e = rw (got_no at (number_in 9 bs) g e)
  no_number A_count {g} e = rw (got_no at (number_in 9 bs) g e)

  module _ {v q : ℕ} (e : read_as v q ≡ field_read at (number_in 9 bs)) where
    within : (most : ℕ) (g : Fault) → v ≤ most → read_as v q ≡ field_read at (at_most most g (number_in 9 bs))
    within most g l = let w = got at (number_in 9 bs) v q e in sym (rw (w.was, le-leb v most l) (ap (read_as v) (sym w.next)))

    over : (most : ℕ) (g : Fault) → most < v → no g ≡ field_read at (at_most most g (number_in 9 bs))
    over most g l = let w = got at (number_in 9 bs) v q e in sym (rw (w.was, lt-leb v most l))

    pub any-number : {f : Kind} → f ≡ A_number → read_as v q ≡ field_read at (field_in (kind_of f) bs)
    unfolding field_in
    any-number k = rw k e

    pub flag-within : {f : Kind} → f ≡ A_flag → v ≤ 1 → read_as v q ≡ field_read at (field_in (kind_of f) bs)
    unfolding field_in
    flag-within k l = rw k (within 1 Flag l)

    pub flag-over : {f : Kind} → f ≡ A_flag → 1 < v → no Flag ≡ field_read at (field_in (kind_of f) bs)
    unfolding field_in
    flag-over k l = rw k (over 1 Flag l)

    pub count-within : {f : Kind} → f ≡ A_count → v ≤ 256 → read_as v q ≡ field_read at (field_in (kind_of f) bs)
    unfolding field_in
    count-within k l = rw k (within 256 Count l)

    pub count-over : {f : Kind} → f ≡ A_count → 256 < v → no Count ≡ field_read at (field_in (kind_of f) bs)
    unfolding field_in
    count-over k l = rw k (over 256 Count l)

-- ---- a turn of the loop
abbrev pub kinds : List Kind
kinds = A_number ∷ A_number ∷ A_number ∷ A_flag ∷ A_count ∷ A_count ∷ []

kind_at : (i : ℕ) (d : Kind) → i < 6 → kind_of (get_or kinds i d) ≡ get_or numbers i number
kind_at zero d h = refl
kind_at (suc zero) d h = refl
kind_at (suc (suc zero)) d h = refl
kind_at (suc (suc (suc zero))) d h = refl
kind_at (suc (suc (suc (suc zero)))) d h = refl
kind_at (suc (suc (suc (suc (suc zero))))) d h = refl
kind_at (suc (suc (suc (suc (suc (suc i)))))) d h = let z : ⊥ = omega arith in absurd z

unfoldable pub onto_all : List ℕ → Fields → Fields
onto_all [] r = r
onto_all (v ∷ vs) r = onto v (onto_all vs r)

all_more : (us : List ℕ) (v : ℕ) (r : Fields) → onto_all (us ++ (v ∷ [])) r ≡ onto_all us (onto v r)
unfolding onto_all
all_more [] v r = refl
all_more (u ∷ us) v r = ap (onto u) (all_more us v r)

all_stopped : (us : List ℕ) (f : Fault) (o : ℕ) → onto_all us (stopped f o) ≡ stopped f o
unfolding onto_all
all_stopped [] f o = refl
all_stopped (u ∷ us) f o = ap (onto u) (all_stopped us f o)

all_whole : (us : List ℕ) (q : ℕ) (r : List ℕ) → onto_all us (whole [] q r) ≡ whole us q r
unfolding onto_all
all_whole [] q r = refl
all_whole (u ∷ us) q r = ap (onto u) (all_whole us q r)

-- i numbers are read into v, and the next stands at p
pub record Known (s : List ℕ) (at : ℕ) (v : List ℕ) (p i : ℕ) : Type 0 where
  pub turns : i ≤ 6
  pub wide : length v ≡ 6
  pub same : fields_in numbers at (drop at s) ≡ onto_all (take i v) (fields_in (drop i numbers) p (drop p s))

pub known_none : (s : List ℕ) (at : ℕ) (v : List ℕ) → length v ≡ 6 → Known s at v at 0
unfolding onto_all
known_none s at v l = record { turns = omega arith; wide = l; same = refl }

module _ {s : List ℕ} {at : ℕ} {v : List ℕ} {p i : ℕ} (k : Known s at v p i) where
  next_field : i < 6 → fields_in (drop i numbers) p (drop p s) ≡ onward (field_in (get_or numbers i number) (drop p s)) p (λ n. fields_in (drop (suc i) numbers) (p + n) (drop n (drop p s)))
  unfolding fields_in
  next_field h = ap (λ (fs : List Field). fields_in fs p (drop p s)) (drop-cons numbers i number h)

  pub known_more : (x q : ℕ) (d : Kind) → i < 6 → read_as x q ≡ field_read p (field_in (kind_of (get_or kinds i d)) (drop p s)) → Known s at (set v i x) q (i + 1)
  known_more x q d h o =
      let e : read_as x q ≡ field_read p (field_in (get_or numbers i number) (drop p s)) = o ∙ ap (λ (f : Field). field_read p (field_in f (drop p s))) (kind_at i d h) in
      let w = got p (field_in (get_or numbers i number) (drop p s)) x q e in
      let n = w.n in
      let a : fields_in (drop i numbers) p (drop p s) ≡ onto x (fields_in (drop (suc i) numbers) (p + n) (drop n (drop p s))) = next_field h ∙ ap (λ (f : Found). onward f p (λ m. fields_in (drop (suc i) numbers) (p + m) (drop m (drop p s)))) w.was in
      let b : fields_in (drop (suc i) numbers) (p + n) (drop n (drop p s)) ≡ fields_in (drop (suc i) numbers) q (drop q s) = ap (fields_in (drop (suc i) numbers) (p + n)) (drop-drop n p s) ∙ ap (λ (m : ℕ). fields_in (drop (suc i) numbers) m (drop m s)) (sym w.next) in
      let c : take (suc i) (set v i x) ≡ take i v ++ (x ∷ []) = take-suc-set v i x (omega (arith, k.wide)) in
      record {
        turns = omega arith;
        wide = length-set v i x ∙ k.wide;
        same =
            k.same
            ∙ ap (onto_all (take i v)) (a ∙ ap (onto x) b)
            ∙ sym (rw (add-one i, c) (all_more (take i v) x (fields_in (drop (suc i) numbers) q (drop q s))));
      }

  pub known-stopped : (g : Fault) (d : Kind) → i < 6 → no g ≡ field_read p (field_in (kind_of (get_or kinds i d)) (drop p s)) → no_head g p ≡ head_read (fields_in numbers at (drop at s))
  known-stopped g d h o =
      let e : no g ≡ field_read p (field_in (get_or numbers i number) (drop p s)) = o ∙ ap (λ (f : Field). field_read p (field_in f (drop p s))) (kind_at i d h) in
      let a : fields_in (drop i numbers) p (drop p s) ≡ stopped g p = next_field h ∙ ap (λ (f : Found). onward f p (λ m. fields_in (drop (suc i) numbers) (p + m) (drop m (drop p s)))) (got_no p (field_in (get_or numbers i number) (drop p s)) g e) in
      sym (ap head_read (k.same ∙ ap (onto_all (take i v)) a ∙ all_stopped (take i v) g p))

  pub known-all : 6 ≤ i → head_as (header_of v) p ≡ head_read (fields_in numbers at (drop at s))
  unfolding fields_in
  known-all h =
      let e : i ≡ 6 = omega (arith, k.turns) in
      let t : take 6 v ≡ v = take_all 6 v (omega (arith, k.wide)) in
      sym (ap head_read (rw (e, t) at k.same ∙ all_whole v p (drop p s)))
