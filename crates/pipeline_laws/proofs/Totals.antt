-- The counter rule and the frame total, over any calls. Assumes nothing.
use Prim.Native.Nat.{ℕ, ◌+◌}
use mathlib.Core.Path.{◌≡◌, refl, subst}
use mathlib.Core.Bool.{Bool, true, false}
use mathlib.Core.List.{List, [], ◌∷◌}
use native.Mathlib.Omega.{arith}
use lib.Dec.{leb}
use lib.ListN.{length, take}
use lib.Ieee.{Float}
use Rattle.rvcsi_core.specs.declared.ids.Ids.{Ids}
use Rattle.buffer_rules.specs.Paper.{Returns, nothing, place, window, Answer, answer, Ruling, fine, refused}
use Rattle.buffer_rules.specs.Rulings.{unless}
use Rattle.buffer_rules.specs.declared.WindowBuffer.{WindowBuffer}
use Rattle.window_buffer.specs.Push.{room_of}
use Rattle.window_buffer.specs.Push as Push
use Rattle.window_buffer.proofs.Calls.{closed_frames, closed_windows}
use Rattle.window_buffer.proofs.Total.{Balanced, one, none, push_counts, flush_counts}
use Rattle.slots.specs.Slots.{set_ok}
use Rattle.slots.proofs.Owed.{judge_counts}
use Rattle.pipeline.specs.Recents.{cap}
use Rattle.pipeline.specs.Whole.{lent_ok, whole_ruling}
use Rattle.pipeline.specs.Process.{Carried, onward_with, Outcome, carry, refused_of}
use Rattle.pipeline.specs.declared.EventPipeline.{EventPipeline}
use Rattle.pipeline.proofs.Carrying.{Follows}
use Rattle.pipeline_laws.specs.Calls.{World, Call, framed, flushed, called, after, total, frames_taken, frames_closed, windows_closed, events_returned}
use Rattle.pipeline_laws.proofs.Following.{buffered, follows}

-- ---- what holds of 13, of 14, and of what follows the buffer, holds of the call
by_whole : (P : Ruling → Type 0) (l d k : Bool) → P (refused (answer 13 nothing)) → P (refused (answer 14 nothing)) → P fine → P (unless l 13 (unless d 14 (unless k 14 fine)))
by_whole P false d k a b c = a
by_whole P true false k a b c = b
by_whole P true true false a b c = b
by_whole P true true true a b c = c

pub by_call : (P : Outcome → Type 0) {i : Ids} {pl : EventPipeline} {A F B M W : List Float} {o : Push.Outcome} {out : Outcome} → Follows i pl A F B M W o out
    → P (refused_of (answer 13 nothing) i pl A F B M W) → P (refused_of (answer 14 nothing) i pl A F B M W) → P (carry pl B o) → P out
unfolding whole_ruling
by_call P {i} {pl} {A} {F} {B} {M} {W} {o} {out} g a b c =
    by_whole (λ x. x ≡ whole_ruling (room_of A F M W) (length B) pl.detectors pl.recent.count → P out) (lent_ok (room_of A F M W) (length B)) (set_ok pl.detectors) (leb pl.recent.count cap)
    (λ e. subst P (g.refuses (answer 13 nothing) e) a) (λ e. subst P (g.refuses (answer 14 nothing) e) b) (λ e. subst P (g.goes_on e) c) refl

-- ---- one call

-- what a call counts, with k frames answered 0
pub record Counted (v : World) (k : Answer → ℕ) (o : Outcome) : Type 0 where
  pub frames : v.pipeline.buffer.pending + k o.reply ≡ closed_frames o.reply.returns + o.pipeline.buffer.pending
  pub windows : o.ids.window ≡ v.ids.window + closed_windows o.reply.returns
  pub events : o.ids.event ≡ v.ids.event + o.batch.count

-- what follows the buffer counts the events, and nothing else
pub record Onward (a : Answer) (i : Ids) (b : WindowBuffer) (c : Carried) : Type 0 where
  pub reply : c.reply ≡ a
  pub buffer : c.pipeline.buffer ≡ b
  pub windows : c.ids.window ≡ i.window
  pub events : c.ids.event ≡ i.event + c.batch.count

pub onward_counts : (r : Returns) (a : Answer) (i : Ids) (b : WindowBuffer) (p : EventPipeline) (means base : List Float) → Onward a i b (onward_with r a i b p means base)
onward_counts nothing a i b p means base = record { reply = refl; buffer = refl; windows = refl; events = omega arith }
onward_counts (place n) a i b p means base = record { reply = refl; buffer = refl; windows = refl; events = omega arith }
onward_counts (window w n) a i b p means base =
    let j = judge_counts i p.detectors w (take n means) base in
    record { reply = refl; buffer = refl; windows = j.0; events = j.1 }

joined : (v : World) (k : Answer → ℕ) (o : Push.Outcome) (c : Carried) → Balanced v.ids v.pipeline.buffer k o → Onward o.reply o.ids o.buffer c
    → Counted v k (record { reply = c.reply; ids = c.ids; pipeline = c.pipeline; batch = c.batch; amplitudes = o.amplitudes; phases = o.phases; baseline = c.baseline; means = o.means; variances = o.variances })
joined v k o c b n =
    record {
      frames = rw (n.reply, n.buffer) b.frames;
      windows = rw (n.windows, n.reply) b.windows;
      events = rw (n.events, b.events);
    }

refused_counts : (v : World) (k : Answer → ℕ) (m : ℕ) → k (answer m nothing) ≡ 0
    → Counted v k (refused_of (answer m nothing) v.ids v.pipeline v.amplitudes v.phases v.baseline v.means v.variances)
refused_counts v k m e = record { frames = omega (arith, e); windows = omega arith; events = omega arith }

call_counts : (c : Call) (v : World) (k : Answer → ℕ) → Balanced v.ids v.pipeline.buffer k (buffered c v) → k (answer 13 nothing) ≡ 0 → k (answer 14 nothing) ≡ 0 → Counted v k (called c v)
call_counts c v k b e f =
    let o = buffered c v in
    by_call (Counted v k) (follows c v) (refused_counts v k 13 e) (refused_counts v k 14 f)
    (joined v k o (onward_with o.reply.returns o.reply o.ids o.buffer v.pipeline o.means v.baseline) b (onward_counts o.reply.returns o.reply o.ids o.buffer v.pipeline o.means v.baseline))

-- each call counts its frames, windows and events
pub record Step (c : Call) (v : World) : Type 0 where
  pub frames : v.pipeline.buffer.pending + frames_taken c (called c v) ≡ frames_closed c (called c v) + (called c v).pipeline.buffer.pending
  pub windows : (called c v).ids.window ≡ v.ids.window + windows_closed c (called c v)
  pub events : (called c v).ids.event ≡ v.ids.event + events_returned c (called c v)

pub step : (c : Call) (v : World) → Step c v
step (framed f a p q) v =
    let n = call_counts (framed f a p q) v one (push_counts v.ids _ v.pipeline.buffer f a p q v.amplitudes v.phases v.means v.variances) refl refl in
    record { frames = n.frames; windows = n.windows; events = n.events }
step flushed v =
    let n = call_counts flushed v none (flush_counts v.ids _ v.pipeline.buffer v.amplitudes v.phases v.means v.variances) refl refl in
    record { frames = n.frames; windows = n.windows; events = n.events }

-- ---- over any calls
module _ (v : World) where
  -- "frames answered 0 number the frame counts of all closed windows plus those pending"
  pub frame-total : (cs : List Call) → v.pipeline.buffer.pending + total frames_taken cs v ≡ total frames_closed cs v + (after cs v).pipeline.buffer.pending
  unfolding after total
  frame-total [] = omega arith
  frame-total (c ∷ cs) = omega (arith, frame-total cs, (step c (after cs v)).frames)

  -- "The window counter rises by one per closed window"
  pub window-counter : (cs : List Call) → (after cs v).ids.window ≡ v.ids.window + total windows_closed cs v
  unfolding after total
  window-counter [] = omega arith
  window-counter (c ∷ cs) = omega (arith, window-counter cs, (step c (after cs v)).windows)

  -- "the event counter by the events returned"
  pub event-counter : (cs : List Call) → (after cs v).ids.event ≡ v.ids.event + total events_returned cs v
  unfolding after total
  event-counter [] = omega arith
  event-counter (c ∷ cs) = omega (arith, event-counter cs, (step c (after cs v)).events)
