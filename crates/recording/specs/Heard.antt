-- A record as the pipeline takes it: its lists as floats. Definitions only.
use Rattle.std.specs.Prelude.{ℕ, ◌*◌, min, List, ◌++◌, length, drop, replicate, from_bits, slice_index, Float}
use Rattle.std.specs.Float.{binary32}
use Rattle.lists.specs.Tab.{tab}
use Rattle.records.specs.Answers.{Value, nothing, place, header, Answer, Read, read_of}

-- the float of bit pattern k
abbrev pub float_at : List ℕ → ℕ → Float
float_at bits k = from_bits binary32 (slice_index bits k)

-- the first k floats over the front of a list
abbrev pub floats_first : ℕ → List ℕ → List Float → List Float
floats_first k bits l = tab (float_at bits) k ++ drop k l

-- n floats over the front of a list, or as many as there are patterns and places
abbrev pub floats_over : ℕ → List ℕ → List Float → List Float
floats_over n bits l = floats_first (min n (min (length bits) (length l))) bits l

-- all that comes out: the reader's answer, and the three lists
pub record Heard : Type 0 where
  pub reply : Answer
  pub amplitudes : List Float
  pub phases : List Float
  pub pairs : List Float

abbrev pub heard : Answer → List Float → List Float → List Float → Heard
heard r a p q = record { reply = r; amplitudes = a; phases = p; pairs = q }

-- a record's floats are laid over the lists; without a record the lists stay
abbrev pub heard_with : Value → Read → List Float → List Float → List Float → Heard
heard_with (header h next) r a p q =
    heard r.reply (floats_over h.subcarriers r.amplitudes a) (floats_over h.subcarriers r.phases p)
    (floats_over (2 * min h.pairs 256) r.pairs q)
heard_with (place k) r a p q = heard r.reply a p q
heard_with nothing r a p q = heard r.reply a p q

-- the record that the reader finds at a place, by lists of its own
unfoldable pub heard_of : List ℕ → ℕ → List Float → List Float → List Float → Heard
heard_of bytes at a p q =
    let r = read_of bytes at (replicate 256 0) (replicate 256 0) (replicate 512 0) in
    heard_with r.reply.value r a p q
