-- "A record: session, source, time, flag, subcarriers, pairs; then little-endian f32 bits: quality, amplitudes, phases, pairs (i, q)."
use Rattle.std.specs.Prelude.{ℕ, ◌+◌, ◌*◌, ◌/◌, ◌%◌, List, [], ◌∷◌, ◌++◌, Bool, true, false, eqb, get_or, take, drop, replicate}
use Rattle.records.specs.Numbers.{number_bytes}
use Rattle.records.specs.Fields.{Field, number, flag, count, float, Fields, whole, stopped, fields_in}
use Rattle.records.specs.declared.Fault.{Fault}
use Rattle.records.specs.declared.Header.{Header}

-- session, source, time, flag, subcarriers, pairs
abbrev pub numbers : List Field
numbers = number ∷ number ∷ number ∷ flag ∷ count ∷ count ∷ []

-- the header that six numbers make, and the same with its quality
abbrev pub header_of : List ℕ → Header
header_of vs = record {
  session = get_or vs 0 0;
  source = get_or vs 1 0;
  time = get_or vs 2 0;
  exposable = eqb (get_or vs 3 0) 1;
  subcarriers = get_or vs 4 0;
  pairs = get_or vs 5 0;
  quality = 0;
}

abbrev pub with_quality : Header → ℕ → Header
with_quality h q = record {
  session = h.session;
  source = h.source;
  time = h.time;
  exposable = h.exposable;
  subcarriers = h.subcarriers;
  pairs = h.pairs;
  quality = q;
}

-- quality, amplitudes, phases, pairs (i, q)
abbrev pub float_count : Header → ℕ
float_count h = 1 + h.subcarriers + h.subcarriers + 2 * h.pairs

-- what reading finds: a record with its three lists and the place after it; no record; or a fault, with the offset of its field
pub data Reading : Type 0 where
  taken : (header : Header) (amplitudes phases pairs : List ℕ) (next : ℕ) → Reading
  none : Reading
  refused : Fault → (offset : ℕ) → Reading

-- the record that a header and the floats after it make
abbrev pub with_floats : Header → Fields → Reading
with_floats h (whole ws next rest) =
    taken (with_quality h (get_or ws 0 0)) (take h.subcarriers (drop 1 ws)) (take h.subcarriers (drop (1 + h.subcarriers) ws))
    (drop (1 + h.subcarriers + h.subcarriers) ws) next
with_floats h (stopped f o) = refused f o

-- the numbers, then the floats
abbrev pub floats_after : Header → ℕ → List ℕ → Reading
floats_after h at bs = with_floats h (fields_in (replicate (float_count h) float) at bs)

abbrev pub with_numbers : Fields → Reading
with_numbers (whole vs next rest) = floats_after (header_of vs) next rest
with_numbers (stopped f o) = refused f o

-- the record at the front of the bytes, the first of which stands at the place `at`; "no bytes left is reply 0 with no record"
unfoldable pub record_in : ℕ → List ℕ → Reading
record_in at [] = none
record_in at (b ∷ bs) = with_numbers (fields_in numbers at (b ∷ bs))

-- "Offsets count from the input's first byte."
abbrev pub record_at : List ℕ → ℕ → Reading
record_at input at = record_in at (drop at input)

-- ---- writing
-- the bytes of values in a row
unfoldable pub each : {A : Type 0} → (A → List ℕ) → List A → List ℕ
each bytes [] = []
each bytes (v ∷ vs) = bytes v ++ each bytes vs

abbrev pub float_bytes : ℕ → List ℕ
float_bytes v = v % 256 ∷ v / 256 % 256 ∷ v / 65536 % 256 ∷ v / 16777216 ∷ []

abbrev pub flag_number : Bool → ℕ
flag_number true = 1
flag_number false = 0

abbrev pub numbers_of : Header → List ℕ
numbers_of h = h.session ∷ h.source ∷ h.time ∷ flag_number h.exposable ∷ h.subcarriers ∷ h.pairs ∷ []

-- the bytes of a record
unfoldable pub record_bytes : Header → List ℕ → List ℕ → List ℕ → List ℕ
record_bytes h amplitudes phases pairs =
    each number_bytes (numbers_of h) ++ float_bytes h.quality ++ each float_bytes amplitudes ++ each float_bytes phases ++ each float_bytes pairs
