-- The pipeline of a recording. Definitions only.
use Rattle.std.specs.Prelude.{ℕ, List, replicate}
use Rattle.records.specs.Answers.{Value, nothing, place, header, read_of}
use Rattle.pipeline.specs.Making.{defaults_of}
use Rattle.pipeline.specs.declared.EventPipeline.{EventPipeline}

-- "The program uses the defaults and the first record's session and source"; with no record, 0 and 0
abbrev pub pipeline_with : Value → EventPipeline
pipeline_with (header h next) = defaults_of h.session h.source
pipeline_with (place k) = defaults_of 0 0
pipeline_with nothing = defaults_of 0 0

unfoldable pub pipeline_for : List ℕ → EventPipeline
pipeline_for bytes = pipeline_with (read_of bytes 0 (replicate 256 0) (replicate 256 0) (replicate 512 0)).reply.value
