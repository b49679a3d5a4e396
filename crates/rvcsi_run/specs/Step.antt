-- What one record makes of a run and of the five stores. Definitions only.
use Rattle.std.specs.Prelude.{ℕ, ◌+◌, ◌%◌, ◌^◌, min, Bool, List, length, take, replicate, from_bits, Float}
use Rattle.std.specs.Float.{binary32}
use Rattle.records.specs.Answers.{Value, nothing, place, header}
use Rattle.recording.specs.Heard.{Heard, heard_of}
use Rattle.pipeline.specs.Process.{Outcome, process_of}
use Rattle.rvcsi_run.specs.Frames.{frame_of, first_of, pairs_of}
use Rattle.rvcsi_run.specs.Course.{moved_to, stopped_by, counted_by}
use Rattle.rvcsi_run.specs.declared.Course.{Course}
use Rattle.rvcsi_run.specs.declared.State.TheVariants.{Ended, Stopped}

-- all that comes out
pub record Step : Type 0 where
  pub course : Course
  pub amplitudes : List Float
  pub phases : List Float
  pub baseline : List Float
  pub means : List Float
  pub variances : List Float

abbrev pub stepped : Course → List Float → List Float → List Float → List Float → List Float → Step
stepped c A P B M W = record { course = c; amplitudes = A; phases = P; baseline = B; means = M; variances = W }

-- the bytes of the buffer that are at hand
abbrev pub at_hand : Course → List ℕ → List ℕ
at_hand run buffer = take (min run.cursor.have (length buffer)) buffer

-- `size` zeros, before a record is read
abbrev pub zeros : ℕ → List Float
zeros size = replicate size (from_bits binary32 0)

-- a frame that the pipeline answered
abbrev pub answered : Bool → Course → Outcome → Step
answered written run o =
    stepped (counted_by run o.reply o.ids o.pipeline written) o.amplitudes o.phases o.baseline o.means o.variances

-- a record's frame goes through the pipeline; "a reader refusal ends reading", with its number and its offset; so does the input's end
abbrev pub step_with : Value → Bool → Course → Heard → List Float → List Float → List Float → List Float → List Float → Step
step_with (header h next) written run d A P B M W =
    answered written (moved_to run next)
    (process_of run.ids run.pipeline (frame_of h) (first_of h.subcarriers d.amplitudes) (first_of h.subcarriers d.phases)
    (pairs_of h.pairs d.pairs) A P B M W)
step_with (place k) written run d A P B M W = stepped (stopped_by run (Stopped d.reply.number ((run.cursor.base + k) % 2 ^ 64))) A P B M W
step_with nothing written run d A P B M W = stepped (stopped_by run Ended) A P B M W

unfoldable pub step_of : Bool → List ℕ → Course → List Float → List Float → List Float → List Float → List Float → Step
step_of written bytes run A P B M W =
    let d = heard_of bytes run.cursor.at (zeros 256) (zeros 256) (zeros 512) in
    step_with d.reply.value written run d A P B M W
