-- The fields of a record, "field by field (each float is a field), the first fault (in one field 9, 10, then 5 or 11)".
use Rattle.std.specs.Prelude.{ℕ, ◌+◌, ◌*◌, List, [], ◌∷◌, cond, leb, drop}
use Rattle.records.specs.Numbers.{Found, found, fault, number_in}
use Rattle.records.specs.declared.Fault.{Fault}
use Rattle.records.specs.declared.Fault.TheVariants.{Cut, Flag, Count}

pub data Field : Type 0 where
  number : Field
  flag : Field
  count : Field
  float : Field

-- "little-endian f32 bits"
unfoldable pub float_in : List ℕ → Found
float_in (a ∷ b ∷ c ∷ d ∷ bs) = found (a + 256 * b + 65536 * c + 16777216 * d) 4
float_in [] = fault Cut
float_in (a ∷ []) = fault Cut
float_in (a ∷ b ∷ []) = fault Cut
float_in (a ∷ b ∷ c ∷ []) = fault Cut

-- a value above the most is at fault
abbrev pub at_most : ℕ → Fault → Found → Found
at_most most f (found v n) = cond (leb v most) (found v n) (fault f)
at_most most f (fault g) = fault g

-- what a field finds at the front of a list of bytes: "exposable flag above 1", "a count above 256"
unfoldable pub field_in : Field → List ℕ → Found
field_in number bs = number_in 9 bs
field_in flag bs = at_most 1 Flag (number_in 9 bs)
field_in count bs = at_most 256 Count (number_in 9 bs)
field_in float bs = float_in bs

-- what fields in a row find: their values, the place after them and the bytes left; or the first fault, with the offset of its field
pub data Fields : Type 0 where
  whole : (values : List ℕ) (next : ℕ) (rest : List ℕ) → Fields
  stopped : Fault → (offset : ℕ) → Fields

abbrev pub onto : ℕ → Fields → Fields
onto v (whole vs next rest) = whole (v ∷ vs) next rest
onto v (stopped f o) = stopped f o

abbrev pub onward : Found → ℕ → (ℕ → Fields) → Fields
onward (found v n) at k = onto v (k n)
onward (fault f) at k = stopped f at

-- the fields at the front of the bytes, the first of which stands at the place `at` of the input
unfoldable pub fields_in : List Field → ℕ → List ℕ → Fields
fields_in [] at bs = whole [] at bs
fields_in (f ∷ fs) at bs = onward (field_in f bs) at (λ n. fields_in fs (at + n) (drop n bs))
