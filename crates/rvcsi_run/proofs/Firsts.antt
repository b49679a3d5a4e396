-- The pipeline of a recording, by what the reader finds.
use Rattle.std.proofs.Common.{◌≡◌, ℕ, List, replicate, ◌∙◌, Option, Result, Err}
use Rattle.records.specs.Answers.{paper, read, read_of}
use Rattle.records.specs.declared.ReadError.{ReadError}
use Rattle.records.specs.declared.ReadError.TheVariants.{Stores, Refused}
use Rattle.records.specs.declared.Record.{Record}
use Rattle.pipeline.specs.Making.{defaults_of}
use Rattle.pipeline.specs.declared.EventPipeline.{EventPipeline}
use Rattle.rvcsi_run.specs.First.{pipeline_with, pipeline_for}

pub first_is : (bytes : List ℕ) {r x : Result (Option Record) ReadError} {xs ps qs : List ℕ} {made : EventPipeline}
    → read (paper r) xs ps qs ≡ read_of bytes 0 (replicate 256 0) (replicate 256 0) (replicate 512 0)
    → r ≡ x
    → made ≡ pipeline_with (paper x).value
    → made ≡ pipeline_for bytes
unfolding pipeline_for
first_is bytes found e made = made ∙ rw (← found) (rw e)

-- a recording without a first record
pub none_first : (e : ReadError) {made : EventPipeline} → made ≡ defaults_of 0 0 → made ≡ pipeline_with (paper (Err e)).value
none_first Stores h = h
none_first (Refused f o) h = h
