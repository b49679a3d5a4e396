-- The answers of the reader and the writer in the numbers of document 01, and what each leaves in the lent lists.
use Rattle.std.specs.Prelude.{ℕ, ◌+◌, ◌*◌, List, Bool, true, false, ◌&&◌, leb, eqb, length, Option, Some, None, Result, Ok, Err}
use Rattle.std.proofs.lemmas.List.Edits.{sets}
use Rattle.records.specs.Records.{Reading, taken, none, refused, record_at, record_bytes}
use Rattle.records.specs.declared.Fault.{Fault}
use Rattle.records.specs.declared.Fault.TheVariants.{Cut, Malformed, Flag, Count}
use Rattle.records.specs.declared.Header.{Header}
use Rattle.records.specs.declared.ReadError.{ReadError}
use Rattle.records.specs.declared.ReadError.TheVariants.{Stores, Refused}
use Rattle.records.specs.declared.Record.{Record}
use Rattle.records.specs.declared.WriteError.{WriteError}
use Rattle.records.specs.declared.WriteError.TheVariants.{Counts, Short}

-- what an answer returns beside its number: nothing; an offset, or the place after what was written; or a record's header and the place after it
pub data Value : Type 0 where
  nothing : Value
  place : ℕ → Value
  header : Header → ℕ → Value

pub record Answer : Type 0 where
  pub number : ℕ
  pub value : Value

abbrev pub answer : ℕ → Value → Answer
answer n v = record { number = n; value = v }

-- 9 "record cut short", 10 "number with a tenth byte above 1, or not in its shortest form", 5 "a count above 256", 11 "exposable flag above 1"
abbrev pub fault_number : Fault → ℕ
fault_number Cut = 9
fault_number Malformed = 10
fault_number Count = 5
fault_number Flag = 11

abbrev pub paper : Result (Option Record) ReadError → Answer
paper (Ok (Some r)) = answer 0 (header r.header r.next)
paper (Ok None) = answer 0 nothing
paper (Err Stores) = answer 13 nothing
paper (Err (Refused f o)) = answer (fault_number f) (place o)

abbrev pub paper_wrote : Result ℕ WriteError → Answer
paper_wrote (Ok next) = answer 0 (place next)
paper_wrote (Err Counts) = answer 5 nothing
paper_wrote (Err Short) = answer 12 nothing

-- a refusal unless the test holds
abbrev pub unless : {A : Type 0} → Bool → A → A → A
unless true refusal rest = rest
unless false refusal rest = refusal

-- all that comes out of the reader: the answer and the three lent lists
pub record Read : Type 0 where
  pub reply : Answer
  pub amplitudes : List ℕ
  pub phases : List ℕ
  pub pairs : List ℕ

abbrev pub read : Answer → List ℕ → List ℕ → List ℕ → Read
read r xs ps qs = record { reply = r; amplitudes = xs; phases = ps; pairs = qs }

-- "Places past what is read or written stay", and a refusal writes nothing
abbrev pub stored : Reading → List ℕ → List ℕ → List ℕ → Read
stored (taken h xs ps qs next) us vs ws = read (answer 0 (header h next)) (sets us 0 xs) (sets vs 0 ps) (sets ws 0 qs)
stored none us vs ws = read (answer 0 nothing) us vs ws
stored (refused f o) us vs ws = read (answer (fault_number f) (place o)) us vs ws

-- "reader: 256 amplitudes, 256 phases, 512 pair numbers"
abbrev pub stores_long : ℕ → ℕ → ℕ → Bool
stores_long a p q = leb 256 a && leb 256 p && leb 512 q

-- "Reader: 13, then field by field the first fault"
unfoldable pub read_of : List ℕ → ℕ → List ℕ → List ℕ → List ℕ → Read
read_of input at us vs ws =
    unless (stores_long (length us) (length vs) (length ws)) (read (answer 13 nothing) us vs ws)
    (stored (record_at input at) us vs ws)

-- all that comes out of the writer: the answer and the output
pub record Write : Type 0 where
  pub reply : Answer
  pub out : List ℕ

abbrev pub write : Answer → List ℕ → Write
write r out = record { reply = r; out = out }

-- "a count above 256, or a list of another length than its count"
abbrev pub counted : Header → ℕ → ℕ → ℕ → Bool
counted h a p q = leb h.subcarriers 256 && leb h.pairs 256 && eqb a h.subcarriers && eqb p h.subcarriers && eqb q (2 * h.pairs)

-- "Writer: 5, 12"
unfoldable pub write_of : List ℕ → ℕ → Header → List ℕ → List ℕ → List ℕ → Write
write_of out at h xs ps qs =
    unless (counted h (length xs) (length ps) (length qs)) (write (answer 5 nothing) out)
    (unless (leb (at + length (record_bytes h xs ps qs)) (length out)) (write (answer 12 nothing) out)
    (write (answer 0 (place (at + length (record_bytes h xs ps qs)))) (sets out at (record_bytes h xs ps qs))))
