-- What the parts of the reader answer: the definitions above in the answers of the code.
use Rattle.std.specs.Prelude.{◌≡◌, ℕ, zero, suc, ◌+◌, ◌*◌, List, [], ◌∷◌, get_or, Result, Ok, Err}
use Rattle.records.specs.Numbers.{Found, found, fault}
use Rattle.records.specs.Fields.{Field, number, flag, count, Fields, whole, stopped}
use Rattle.records.specs.Records.{header_of}
use Rattle.records.specs.declared.Fault.{Fault}
use Rattle.records.specs.declared.Field.{Field as Kind}
use Rattle.records.specs.declared.Field.TheVariants.{Number as A_number, Flag as A_flag, Count as A_count}
use Rattle.records.specs.declared.Number.{Number}
use Rattle.records.specs.declared.ReadError.{ReadError}
use Rattle.records.specs.declared.ReadError.TheVariants.{Refused}
use Rattle.records.specs.declared.ReadLists.{ReadLists}
use Rattle.records.specs.declared.Record.{Record}

-- the field that a number of the head is
abbrev pub kind_of : Kind → Field
kind_of A_number = number
kind_of A_flag = flag
kind_of A_count = count

-- a field read at a place
abbrev pub field_read : ℕ → Found → Result Number Fault
field_read at (found v n) = Ok (record { value = v; next = at + n })
field_read at (fault f) = Err f

-- the six numbers, with the quality still 0
abbrev pub head_read : Fields → Result Record ReadError
head_read (whole vs next rest) = Ok (record { header = header_of vs; next = next })
head_read (stopped f o) = Err (Refused f o)

-- the float at the place p, and n of them
abbrev pub float_at : List ℕ → ℕ → ℕ
float_at s p = get_or s p 0 + 256 * get_or s (p + 1) 0 + 65536 * get_or s (p + 2) 0 + 16777216 * get_or s (p + 3) 0

unfoldable pub floats_at : List ℕ → ℕ → ℕ → List ℕ
floats_at s p zero = []
floats_at s p (suc n) = float_at s p ∷ floats_at s (p + 4) n

-- the same three lists are lent still
pub record SameLists (old new : ReadLists) : Type 0 where
  pub amplitudes : new.amplitudes.ghost_name ≡ old.amplitudes.ghost_name
  pub phases : new.phases.ghost_name ≡ old.phases.ghost_name
  pub pairs : new.pairs.ghost_name ≡ old.pairs.ghost_name
