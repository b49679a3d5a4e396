-- 01's record at several times, handed to a pipeline with the defaults by `process_frame`. Definitions only.
use Rattle.std.specs.Prelude.{ℕ, ◌*◌, List, [], ◌∷◌, map, take, replicate, Float}
use Rattle.std.specs.Float.{binary32}
use Rattle.std.specs.Float.Ieee.{of_bits}
use Rattle.rvcsi_core.specs.Counters.{fresh_ids}
use Rattle.rvcsi_core.specs.declared.frame.CsiFrame.{CsiFrame}
use Rattle.rvcsi_core.specs.declared.event.CsiEvent.{CsiEvent}
use Rattle.buffer_rules.specs.Paper.{nothing, answer}
use Rattle.detectors.specs.Answers.{kind_of}
use Rattle.slots.specs.declared.Batch.{Batch}
use Rattle.pipeline.specs.Making.{defaults_of}
use Rattle.pipeline.specs.Process.{Outcome, refused_of, process_of}
use Rattle.worked.specs.Rows.{Fact, listed}
use Rattle.worked.specs.Runs.{Reply, goes, numbered}

-- "Session 1, source 1, .. flag 1, one subcarrier, no pairs, quality 0.25", at a time in seconds
abbrev pub record_at : ℕ → CsiFrame
record_at t =
    record {
      session_id = 1;
      source_id = 1;
      timestamp_ns = t * 1000000000;
      exposable = 1;
      subcarrier_count = 1;
      pair_count = 0;
      quality_score = of_bits binary32 0x3e80_0000;
    }

-- a line "event,window,kind,time,confidence" for each event of a batch
abbrev pub lines : Batch → List Fact
lines b =
    map (λ (e : CsiEvent). listed e.event_id e.window_id (kind_of e.kind) e.timestamp_ns e.confidence) (take b.count b.events)

abbrev pub processed : Outcome → Reply Outcome
processed o = numbered o.reply.number o (lines o.batch)

-- the record at the time t: "amplitude 4, phase 0"
unfoldable pub record_on : Outcome → ℕ → Reply Outcome
record_on o t =
    processed
    (process_of o.ids o.pipeline (record_at t) (of_bits binary32 0x4080_0000 ∷ []) (of_bits binary32 0 ∷ []) []
    o.amplitudes o.phases o.baseline o.means o.variances)

-- a pipeline just made, and stores that hold x everywhere
abbrev pub pipeline_new : Float → Reply Outcome
pipeline_new x =
    goes
    (refused_of (answer 0 nothing) fresh_ids (defaults_of 1 1) (replicate 4096 x) (replicate 4096 x) (replicate 256 x) (replicate 256 x) (replicate 256 x)) []
