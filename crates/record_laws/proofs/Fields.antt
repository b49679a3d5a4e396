-- Fields, one by one and in a row: each law once for a field, and once over a list of fields.
-- Assumes nothing.
use mathlib.Core.Path.{◌≡◌, refl, sym, ap, ◌∙◌}
use mathlib.Core.List.{List, [], ◌∷◌, ◌++◌}
use mathlib.Core.Bool.{Bool, true, false, cond}
use Prim.Native.Nat.{ℕ, zero, suc, ◌+◌, ◌*◌, ◌/◌, ◌%◌, ◌^◌, ◌≤◌, ◌<◌}
use native.Mathlib.Omega.{arith}
use borrow.Author.Tests.{le-leb, ltb-true, ltb-false}
use lib.Dec.{ltb, leb, lit<}
use lib.ListN.{drop, get_or, length, take, take-append-drop}
use lib.Seq.{length-take-le, get_or-drop}
use Rattle.records.specs.Numbers.{Found, found, fault, number_in, number_bytes}
use Rattle.records.specs.Fields.{Field, number, flag, count, float, float_in, at_most, field_in}
use Rattle.records.specs.Records.{float_bytes}
use Rattle.records.specs.declared.Fault.{Fault}
use Rattle.records.specs.declared.Fault.TheVariants.{Cut, Flag, Count}
use Rattle.records.proofs.Groups.{room, bytes_last, bytes_more}
use Rattle.records.proofs.WritingNumbers.{long}
use Rattle.records.proofs.Steps.{passed}
use Rattle.record_laws.proofs.Numbers.{Bytes, read_written, written_read, number_stable, number_cut, no_fault}

-- ---- a field
-- its bytes, what it can hold, and its most bytes
abbrev pub field_bytes : Field → ℕ → List ℕ
field_bytes number v = number_bytes v
field_bytes flag v = number_bytes v
field_bytes count v = number_bytes v
field_bytes float v = float_bytes v

abbrev pub Fits : Field → ℕ → Type 0
Fits number v = v < 2 ^ 64
Fits flag v = v ≤ 1
Fits count v = v ≤ 256
Fits float v = v < 4294967296

abbrev pub most : Field → ℕ
most number = 10
most flag = 1
most count = 2
most float = 4

-- what each value of a list is below, each value of a part of it is
pub drop_below : (m n : ℕ) (bs : List ℕ) → ((i : ℕ) → get_or bs i 0 < m) → (i : ℕ) → get_or (drop n bs) i 0 < m
drop_below m n bs y i = rw (get_or-drop n bs i 0) (y (n + i))

pub take_below : (m n : ℕ) (bs : List ℕ) → 0 < m → ((i : ℕ) → get_or bs i 0 < m) → (i : ℕ) → get_or (take n bs) i 0 < m
take_below m zero bs p y i = p
take_below m (suc n) [] p y i = p
take_below m (suc n) (b ∷ bs) p y zero = y 0
take_below m (suc n) (b ∷ bs) p y (suc i) = take_below m n bs p (λ i. y (suc i)) i

-- ---- reading what was written
limited : (m : ℕ) (g : Fault) (v n : ℕ) → v ≤ m → at_most m g (found v n) ≡ found v n
limited m g v n l = rw (le-leb v m l)

number_back : (v : ℕ) (rest : List ℕ) → v < 2 ^ 64 → number_in 9 (number_bytes v ++ rest) ≡ found v (length (number_bytes v))
unfolding room
number_back v rest l = read_written 9 v rest l

recombine : (v : ℕ) → v < 4294967296 → v % 256 + 256 * (v / 256 % 256) + 65536 * (v / 65536 % 256) + 16777216 * (v / 16777216) ≡ v
recombine v h = omega arith

pub field_back : (f : Field) (v : ℕ) (rest : List ℕ) → Fits f v → field_in f (field_bytes f v ++ rest) ≡ found v (length (field_bytes f v))
unfolding field_in float_in
field_back number v rest l = number_back v rest l
field_back flag v rest l = ap (at_most 1 Flag) (number_back v rest (omega arith)) ∙ limited 1 Flag v (length (number_bytes v)) l
field_back count v rest l = ap (at_most 256 Count) (number_back v rest (omega arith)) ∙ limited 256 Count v (length (number_bytes v)) l
field_back float v rest l = ap (λ (x : ℕ). found x 4) (recombine v l)

-- ---- writing what was read
pub record Made (f : Field) (bs : List ℕ) (v n : ℕ) : Type 0 where
  pub fits : Fits f v
  pub wide : n ≡ length (field_bytes f v)
  pub same : bs ≡ field_bytes f v ++ drop n bs

number_made : (bs : List ℕ) (v n : ℕ) → Bytes bs → number_in 9 bs ≡ found v n → Made number bs v n
unfolding room
number_made bs v n y e =
    let w = written_read 9 bs v n y e in
    record {
      fits = w.fits;
      wide = sym (length-take-le n bs w.inside) ∙ ap length w.same;
      same = sym (take-append-drop n bs) ∙ ap (λ (l : List ℕ). l ++ drop n bs) w.same;
    }

parts : (x y z w : ℕ) → x < 256 → y < 256 → z < 256 → w < 256 → ((x + 256 * y + 65536 * z + 16777216 * w) % 256 ≡ x) × ((x + 256 * y + 65536 * z + 16777216 * w) / 256 % 256 ≡ y) × ((x + 256 * y + 65536 * z + 16777216 * w) / 65536 % 256 ≡ z) × ((x + 256 * y + 65536 * z + 16777216 * w) / 16777216 ≡ w) × (x + 256 * y + 65536 * z + 16777216 * w < 4294967296)
parts x y z w a b c d = (omega arith, omega arith, omega arith, omega arith, omega arith)

float_made : (a b c d : ℕ) (bs : List ℕ) → Bytes (a ∷ b ∷ c ∷ d ∷ bs) → Made float (a ∷ b ∷ c ∷ d ∷ bs) (a + 256 * b + 65536 * c + 16777216 * d) 4
float_made a b c d bs y =
    let p = parts a b c d (y 0) (y 1) (y 2) (y 3) in
    record { fits = p.4; wide = refl; same = cc (p.0, p.1, p.2, p.3) }

pub field_made : (f : Field) (bs : List ℕ) (v n : ℕ) → Bytes bs → field_in f bs ≡ found v n → Made f bs v n
unfolding field_in float_in
field_made number bs v n y e = number_made bs v n y e
field_made flag bs v n y e =
    let p = passed 1 Flag (number_in 9 bs) v n e in
    let w = number_made bs v n y p.0 in
    record { fits = p.1; wide = w.wide; same = w.same }
field_made count bs v n y e =
    let p = passed 256 Count (number_in 9 bs) v n e in
    let w = number_made bs v n y p.0 in
    record { fits = p.1; wide = w.wide; same = w.same }
field_made float (a ∷ b ∷ c ∷ d ∷ bs) v n y e =
    let p : a + 256 * b + 65536 * c + 16777216 * d ≡ v = cc in
    let q : 4 ≡ n = cc in
    rw (p, q) at (float_made a b c d bs y)
field_made float [] v n y e = absurd (no_fault Cut v n e)
field_made float (a ∷ []) v n y e = absurd (no_fault Cut v n e)
field_made float (a ∷ b ∷ []) v n y e = absurd (no_fault Cut v n e)
field_made float (a ∷ b ∷ c ∷ []) v n y e = absurd (no_fault Cut v n e)

-- ---- more bytes behind
limit_cut : (m : ℕ) (g : Fault) (f : Found) → f ≡ fault Cut → at_most m g f ≡ fault Cut
limit_cut m g f e = rw e

pub field_stable : (f : Field) (bs cs : List ℕ) → (field_in f bs ≡ fault Cut → ⊥) → field_in f (bs ++ cs) ≡ field_in f bs
unfolding field_in float_in
field_stable number bs cs h = number_stable 9 bs cs h
field_stable flag bs cs h = ap (at_most 1 Flag) (number_stable 9 bs cs (λ e. h (limit_cut 1 Flag (number_in 9 bs) e)))
field_stable count bs cs h = ap (at_most 256 Count) (number_stable 9 bs cs (λ e. h (limit_cut 256 Count (number_in 9 bs) e)))
field_stable float (a ∷ b ∷ c ∷ d ∷ bs) cs h = refl
field_stable float [] cs h = absurd (h refl)
field_stable float (a ∷ []) cs h = absurd (h refl)
field_stable float (a ∷ b ∷ []) cs h = absurd (h refl)
field_stable float (a ∷ b ∷ c ∷ []) cs h = absurd (h refl)

-- ---- how long
two : (v : ℕ) → v ≤ 256 → length (number_bytes v) ≤ 2
two v h = go (ltb v 128) refl
  where
    go : (t : Bool) → ltb v 128 ≡ t → length (number_bytes v) ≤ 2
    go true e = omega (arith, ap length (bytes_last 9 v (ltb-true v 128 e)))
    go false e = omega (arith, ap length (bytes_more 8 v (ltb-false v 128 e)), ap length (bytes_last 8 (v / 128) (omega arith)))

pub field_long : (f : Field) (v : ℕ) → Fits f v → length (field_bytes f v) ≤ most f
field_long number v l = (long 9 v).0
field_long flag v l = omega (arith, ap length (bytes_last 9 v (omega arith)))
field_long count v l = two v l
field_long float v l = omega arith

number_limit_cut : (m : ℕ) (g : Fault) (f : Found) → (g ≡ Cut → ⊥) → at_most m g f ≡ fault Cut → f ≡ fault Cut
number_limit_cut m g (fault h) n e = e
number_limit_cut m g (found v w) n e = go (leb v m) e
  where
    go : (t : Bool) → cond t (found v w) (fault g) ≡ fault Cut → found v w ≡ fault Cut
    go true e = e
    go false e = absurd (n (cc))

pub field_cut : (f : Field) (bs : List ℕ) → field_in f bs ≡ fault Cut → length bs < 10
unfolding field_in float_in
field_cut number bs e = omega (arith, number_cut 9 bs e)
field_cut flag bs e = omega (arith, number_cut 9 bs (number_limit_cut 1 Flag (number_in 9 bs) (λ x. cc) e))
field_cut count bs e = omega (arith, number_cut 9 bs (number_limit_cut 256 Count (number_in 9 bs) (λ x. cc) e))
field_cut float (a ∷ b ∷ c ∷ d ∷ bs) e = cc
field_cut float [] e = lit< tt
field_cut float (a ∷ []) e = lit< tt
field_cut float (a ∷ b ∷ []) e = lit< tt
field_cut float (a ∷ b ∷ c ∷ []) e = lit< tt
