-- Document 01's record: session 1, source 1, time 300, flag 1, one subcarrier, no pairs, quality 0.25, amplitude 4, phase 0.
-- Assumes nothing.
use mathlib.Core.Path.{◌≡◌, refl}
use mathlib.Core.List.{List, [], ◌∷◌, ◌++◌}
use mathlib.Core.Bool.{true}
use Prim.Native.Nat.{ℕ}
use lib.ListN.{replicate}
use Rattle.records.specs.Numbers.{number_in, after, bytes_in}
use Rattle.records.specs.Fields.{float_in, field_in, fields_in}
use Rattle.records.specs.Records.{taken, record_in, record_at, each, record_bytes}
use Rattle.records.specs.Answers.{answer, header, place, read, write, read_of, write_of}
use Rattle.records.specs.declared.Header.{Header}

-- 01 01 AC 02 01 01 00 00 00 80 3E 00 00 80 40 00 00 00 00
abbrev pub bytes : List ℕ
bytes = 1 ∷ 1 ∷ 172 ∷ 2 ∷ 1 ∷ 1 ∷ 0 ∷ 0 ∷ 0 ∷ 128 ∷ 62 ∷ 0 ∷ 0 ∷ 128 ∷ 64 ∷ 0 ∷ 0 ∷ 0 ∷ 0 ∷ []

-- 0.25 is 3E800000, 4 is 40800000
abbrev pub head : Header
head = record { session = 1; source = 1; time = 300; exposable = true; subcarriers = 1; pairs = 0; quality = 1048576000 }

pub example_read : record_at bytes 0 ≡ taken head (1082130432 ∷ []) (0 ∷ []) [] 19
unfolding record_in fields_in field_in float_in number_in after
example_read = refl

pub example_written : record_bytes head (1082130432 ∷ []) (0 ∷ []) [] ≡ bytes
unfolding record_bytes each bytes_in
example_written = refl

-- the reader's whole answer, with lists that hold 7 everywhere before, and the writer's, over 20 bytes of 7
pub example_reader : read_of bytes 0 (replicate 256 7) (replicate 256 7) (replicate 512 7) ≡ read (answer 0 (header head 19)) (1082130432 ∷ replicate 255 7) (0 ∷ replicate 255 7) (replicate 512 7)
unfolding read_of record_in fields_in field_in float_in number_in after
example_reader = refl

pub example_writer : write_of (replicate 20 7) 0 head (1082130432 ∷ []) (0 ∷ []) [] ≡ write (answer 0 (place 19)) (bytes ++ (7 ∷ []))
unfolding write_of record_bytes each bytes_in
example_writer = refl
