-- Any calls of process_frame and flush, newest first, where the caller hands back the counters, the pipeline and every list as it got them.
use Rattle.std.specs.Prelude.{ℕ, ◌+◌, List, [], ◌∷◌, take, Float}
use Rattle.rvcsi_core.specs.declared.frame.CsiFrame.{CsiFrame}
use Rattle.rvcsi_core.specs.declared.ids.Ids.{Ids}
use Rattle.buffer_rules.specs.Paper.{Returns, nothing, place, window}
use Rattle.window_buffer.proofs.Calls.{closed_frames, closed_windows}
use Rattle.window_buffer.proofs.Total.{one, none}
use Rattle.slots.specs.Runs.{Turn}
use Rattle.pipeline.specs.Process.{Outcome, process_of, flush_of}
use Rattle.pipeline.specs.declared.EventPipeline.{EventPipeline}

-- all that goes into a call beside the frame
pub record World : Type 0 where
  pub ids : Ids
  pub pipeline : EventPipeline
  pub amplitudes : List Float
  pub phases : List Float
  pub baseline : List Float
  pub means : List Float
  pub variances : List Float

-- a frame with its amplitudes, phases and pairs, or a flush
pub data Call : Type 0 where
  framed : CsiFrame → List Float → List Float → List Float → Call
  flushed : Call

abbrev pub called : Call → World → Outcome
called (framed f a p q) v = process_of v.ids v.pipeline f a p q v.amplitudes v.phases v.baseline v.means v.variances
called flushed v = flush_of v.ids v.pipeline v.amplitudes v.phases v.baseline v.means v.variances

-- what the caller hands back
abbrev pub left : Outcome → World
left o =
    record {
      ids = o.ids;
      pipeline = o.pipeline;
      amplitudes = o.amplitudes;
      phases = o.phases;
      baseline = o.baseline;
      means = o.means;
      variances = o.variances;
    }

unfoldable pub after : List Call → World → World
after [] v = v
after (c ∷ cs) v = left (called c (after cs v))

-- ---- what calls gave

-- a window that a reply returns joins those before it, with the first n means
abbrev pub turned : Returns → List Float → List Turn → List Turn
turned nothing means past = past
turned (place k) means past = past
turned (window w n) means past = record { window = w; means = take n means } ∷ past

-- the windows that closed, newest first
unfoldable pub turns : List Call → World → List Turn
turns [] v = []
turns (c ∷ cs) v = turned (called c (after cs v)).reply.returns (called c (after cs v)).means (turns cs v)

-- the sum of what a count says of each call's outcome
unfoldable pub total : (Call → Outcome → ℕ) → List Call → World → ℕ
total n [] v = 0
total n (c ∷ cs) v = total n cs v + n c (called c (after cs v))

-- frames answered 0
abbrev pub frames_taken : Call → Outcome → ℕ
frames_taken (framed f a p q) o = one o.reply
frames_taken flushed o = none o.reply

-- the frame counts of closed windows
abbrev pub frames_closed : Call → Outcome → ℕ
frames_closed c o = closed_frames o.reply.returns

abbrev pub windows_closed : Call → Outcome → ℕ
windows_closed c o = closed_windows o.reply.returns

abbrev pub events_returned : Call → Outcome → ℕ
events_returned c o = o.batch.count
