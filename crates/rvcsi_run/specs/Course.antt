-- What a run carries from record to record. Definitions only.
use Rattle.std.specs.Prelude.{ℕ, Bool, true, false, cond}
use Rattle.rvcsi_core.specs.declared.ids.Ids.{Ids}
use Rattle.buffer_rules.specs.Paper.{Answer}
use Rattle.pipeline.specs.declared.EventPipeline.{EventPipeline}
use Rattle.listing.specs.Counting.{count_frame}
use Rattle.rvcsi_run.specs.Frames.{closes}
use Rattle.rvcsi_run.specs.declared.Course.{Course}
use Rattle.rvcsi_run.specs.declared.State.{State}
use Rattle.rvcsi_run.specs.declared.State.TheVariants.{Reading, Ended, Stopped, Unwritten}

-- is the next record read?
abbrev pub goes_on : State → Bool
goes_on Reading = true
goes_on Ended = false
goes_on (Stopped number place) = false
goes_on Unwritten = false

-- the next record begins at another place
abbrev pub moved_to : Course → ℕ → Course
moved_to run p = record {
  cursor = record { base = run.cursor.base; at = p; have = run.cursor.have; ended = run.cursor.ended; failed = run.cursor.failed };
  ids = run.ids;
  pipeline = run.pipeline;
  counts = run.counts;
  state = run.state;
}

-- "a reader refusal ends reading"; so does the input's end
abbrev pub stopped_by : Course → State → Course
stopped_by run state = record {
  cursor = run.cursor;
  ids = run.ids;
  pipeline = run.pipeline;
  counts = run.counts;
  state = state;
}

-- a frame is counted by its answer; reading goes on where the events could be written
abbrev pub counted_by : Course → Answer → Ids → EventPipeline → Bool → Course
counted_by run a ids pipeline written = record {
  cursor = run.cursor;
  ids = ids;
  pipeline = pipeline;
  counts = count_frame run.counts a.number (closes a);
  state = cond written Reading Unwritten;
}
