-- What a frame and a flush make of all that goes in: the reply, the counters, the state, the events and every lent list.
use Rattle.std.specs.Prelude.{Err, List, [], length, take, Float}
use Rattle.rvcsi_core.specs.declared.frame.CsiFrame.{CsiFrame}
use Rattle.rvcsi_core.specs.declared.window.CsiWindow.{CsiWindow}
use Rattle.rvcsi_core.specs.declared.ids.Ids.{Ids}
use Rattle.buffer_rules.specs.Paper.{Returns, nothing, place, window, Answer, Ruling, fine, refused}
use Rattle.buffer_rules.specs.declared.WindowBuffer.{WindowBuffer}
use Rattle.buffer_rules.specs.declared.Refusal.{Refusal}
use Rattle.window_buffer.specs.Push.{paper, room_of, take_of, drain_of}
use Rattle.window_buffer.specs.Push as Push
use Rattle.window_buffer.specs.declared.Pushed.{Pushed}
use Rattle.slots.specs.Batches.{batch_of}
use Rattle.slots.specs.Judging.{judge_of}
use Rattle.slots.specs.Judging as Judging
use Rattle.slots.specs.declared.Batch.{Batch}
use Rattle.pipeline.specs.Recents.{remember_of}
use Rattle.pipeline.specs.Whole.{frame_ruling, flush_ruling}
use Rattle.pipeline.specs.declared.EventPipeline.{EventPipeline}
use Rattle.pipeline.specs.declared.Processed.{Processed}

-- ---- after the buffer

-- what the rest of the pipeline makes of the buffer's answer
pub record Carried : Type 0 where
  pub reply : Answer
  pub ids : Ids
  pub pipeline : EventPipeline
  pub batch : Batch
  pub baseline : List Float

abbrev pub carried : Processed → List Float → Carried
carried r l = record { reply = paper r.reply; ids = r.ids; pipeline = r.pipeline; batch = r.batch; baseline = l }

-- the code's reply where no window closed
abbrev pub stays : Pushed → EventPipeline → Processed
stays o p = record { reply = o.reply; ids = o.ids; pipeline = record { buffer = o.buffer; detectors = p.detectors; recent = p.recent }; batch = batch_of [] }

-- what a refusal hands on: the counters and the buffer as they came
abbrev pub turned_away : Refusal → Ids → EventPipeline → Pushed
turned_away why i p = record { reply = Err why; ids = i; buffer = p.buffer }

-- no window: the buffer is as it came, and no event is returned
abbrev pub still : Answer → Ids → WindowBuffer → EventPipeline → List Float → Carried
still a i b p base =
    record {
      reply = a;
      ids = i;
      pipeline = record { buffer = b; detectors = p.detectors; recent = p.recent };
      batch = batch_of [];
      baseline = base;
    }

-- a window that the detectors judged joins the recent ones
abbrev pub judged : Answer → WindowBuffer → CsiWindow → EventPipeline → Judging.Outcome → Carried
judged a b w p j =
    record {
      reply = a;
      ids = j.ids;
      pipeline = record { buffer = b; detectors = j.set; recent = remember_of p.recent w };
      batch = j.batch;
      baseline = j.store;
    }

-- a window with n places written in each result list is judged by the first n means
abbrev pub onward_with : Returns → Answer → Ids → WindowBuffer → EventPipeline → List Float → List Float → Carried
onward_with nothing a i b p means base = still a i b p base
onward_with (place k) a i b p means base = still a i b p base
onward_with (window w n) a i b p means base = judged a b w p (judge_of i p.detectors w (take n means) base)

abbrev pub onward : Answer → Ids → WindowBuffer → EventPipeline → List Float → List Float → Carried
onward a i b p means base = onward_with a.returns a i b p means base

-- ---- the whole

-- all that comes out
pub record Outcome : Type 0 where
  pub reply : Answer
  pub ids : Ids
  pub pipeline : EventPipeline
  pub batch : Batch
  pub amplitudes : List Float
  pub phases : List Float
  pub baseline : List Float
  pub means : List Float
  pub variances : List Float

abbrev pub outcome : Processed → List Float → List Float → List Float → List Float → List Float → Outcome
outcome r A P B M W =
    record {
      reply = paper r.reply;
      ids = r.ids;
      pipeline = r.pipeline;
      batch = r.batch;
      amplitudes = A;
      phases = P;
      baseline = B;
      means = M;
      variances = W;
    }

abbrev pub joins : Carried → Push.Outcome → Outcome
joins c o =
    record {
      reply = c.reply;
      ids = c.ids;
      pipeline = c.pipeline;
      batch = c.batch;
      amplitudes = o.amplitudes;
      phases = o.phases;
      baseline = c.baseline;
      means = o.means;
      variances = o.variances;
    }

-- the pipeline after its buffer
abbrev pub carry : EventPipeline → List Float → Push.Outcome → Outcome
carry p B o = joins (onward o.reply o.ids o.buffer p o.means B) o

-- a refusal leaves everything
abbrev pub refused_of : Answer → Ids → EventPipeline → List Float → List Float → List Float → List Float → List Float → Outcome
refused_of why i p A P B M W =
    record {
      reply = why;
      ids = i;
      pipeline = p;
      batch = batch_of [];
      amplitudes = A;
      phases = P;
      baseline = B;
      means = M;
      variances = W;
    }

abbrev pub ruled : Ruling → Outcome → (Answer → Outcome) → Outcome
ruled fine taken other = taken
ruled (refused why) taken other = other why

unfoldable pub process_of : Ids → EventPipeline → CsiFrame → List Float → List Float → List Float → List Float → List Float → List Float → List Float → List Float → Outcome
process_of i pl f a p q A P B M W =
    ruled (frame_ruling (room_of A P M W) (length B) i pl f a p q) (carry pl B (take_of i pl.buffer f a p q A P M W))
    (λ why. refused_of why i pl A P B M W)

unfoldable pub flush_of : Ids → EventPipeline → List Float → List Float → List Float → List Float → List Float → Outcome
flush_of i pl A P B M W =
    ruled (flush_ruling (room_of A P M W) (length B) i pl) (carry pl B (drain_of i pl.buffer A P M W))
    (λ why. refused_of why i pl A P B M W)
