-- Each call follows one of the buffer. Assumes nothing.
use Rattle.window_buffer.specs.Push as Push
use Rattle.pipeline.specs.Whole.{event_room}
use Rattle.pipeline.proofs.Carrying.{Follows, frame_follows, flush_follows}
use Rattle.pipeline_laws.specs.Calls.{World, Call, framed, flushed, called}

abbrev pub buffered : Call → World → Push.Outcome
buffered (framed f a p q) v = Push.push_of v.ids (event_room v.ids) v.pipeline.buffer f a p q v.amplitudes v.phases v.means v.variances
buffered flushed v = Push.flush_of v.ids (event_room v.ids) v.pipeline.buffer v.amplitudes v.phases v.means v.variances

pub follows : (c : Call) (v : World) → Follows v.ids v.pipeline v.amplitudes v.phases v.baseline v.means v.variances (buffered c v) (called c v)
follows (framed f a p q) v = frame_follows v.ids v.pipeline f a p q v.amplitudes v.phases v.baseline v.means v.variances
follows flushed v = flush_follows v.ids v.pipeline v.amplitudes v.phases v.baseline v.means v.variances
