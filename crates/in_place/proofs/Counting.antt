-- What a lent call makes of the counters: what the call by value makes of them. Assumes nothing.
use Prim.Native.Nat.{ℕ, ◌+◌, ◌<◌}
use mathlib.Core.Path.{◌≡◌, refl, sym, ap, ◌∙◌, subst}
use mathlib.Core.Bool.{Bool, true, false, cond}
use mathlib.Core.List.{List}
use native.Mathlib.Omega.{arith}
use lib.Dec.{eqb}
use lib.ListN.{length}
use lib.Ieee.{Float}
use Rattle.std.specs.Prelude.{Option, Some, None}
use Rattle.rvcsi_core.specs.Counters.{last, minted, next_window, next_event}
use Rattle.rvcsi_core.specs.declared.ids.Ids.{Ids}
use Rattle.rvcsi_core.specs.declared.ids.Minted.{Minted}
use Rattle.rvcsi_core.proofs.Numbered.{window_given, event_given, window_full, event_full}
use Rattle.in_place.proofs.Agree.{taken_agree}
use Rattle.buffer_rules.specs.Paper.{Returns, nothing, place, window, Answer, Ruling, fine, refused}
use Rattle.buffer_rules.specs.declared.WindowBuffer.{WindowBuffer}
use Rattle.window_buffer.specs.Push.{paper, room_of, take_of, drain_of}
use Rattle.window_buffer.specs.Push as Push
use Rattle.window_buffer.proofs.Calls.{closed_windows}
use Rattle.window_buffer.proofs.Owed.{take_0, drain_0}
use Rattle.pipeline.specs.Whole.{frame_ruling, flush_ruling}
use Rattle.pipeline.specs.Process.{Outcome, onward_with, carry, refused_of, ruled, process_of, flush_of}
use Rattle.pipeline.specs.declared.EventPipeline.{EventPipeline}
use Rattle.pipeline_laws.specs.Calls.{World, Call, framed, flushed, called, left}
use Rattle.pipeline_laws.proofs.Totals.{step}
use Rattle.in_place.specs.Lent.{lent}
use Rattle.in_place.specs.declared.Answered.{Answered}

-- ---- the next number

-- below 2^64 - 1 the number at hand is given, and that counter alone rises by one
pub window_advances : (t : Option ℕ) (i j : Ids) → minted t j ≡ next_window i → i.window < last → (t ≡ Some i.window) × (j ≡ record { window = i.window + 1; event = i.event })
window_advances t i j e h = taken_agree _ t _ j _ e (window_given i h)

pub event_advances : (t : Option ℕ) (i j : Ids) → minted t j ≡ next_event i → i.event < last → (t ≡ Some i.event) × (j ≡ record { window = i.window; event = i.event + 1 })
event_advances t i j e h = taken_agree _ t _ j _ e (event_given i h)

-- at 2^64 - 1 none is given, and the counters stay
pub window_stays : (t : Option ℕ) (i j : Ids) → minted t j ≡ next_window i → i.window ≡ last → (t ≡ None) × (j ≡ i)
window_stays t i j e h = taken_agree _ t _ j _ e (window_full i h)

pub event_stays : (t : Option ℕ) (i j : Ids) → minted t j ≡ next_event i → i.event ≡ last → (t ≡ None) × (j ≡ i)
event_stays t i j e h = taken_agree _ t _ j _ e (event_full i h)

-- a number that was given is the counter's, and the next one is one higher: none is taken twice
number_is : (b : Bool) (n c : ℕ) (i j up : Ids) → minted (Some n) j ≡ cond b (minted None i) (minted (Some c) up) → (n ≡ c) × (j ≡ up)
number_is true n c i j up e =
    let t : Some n ≡ None = ap (λ (m : Minted). m.taken) e in
    absurd (let z : ◌≡◌ {A = ℕ} 0 1 = cc in omega arith)
number_is false n c i j up e =
    (let t : Some n ≡ Some c = ap (λ (m : Minted). m.taken) e in cc, ap (λ (m : Minted). m.ids) e)

pub windows_in_a_row : (i j k : Ids) (n m : ℕ) → minted (Some n) j ≡ next_window i → minted (Some m) k ≡ next_window j → m ≡ n + 1
unfolding next_window
windows_in_a_row i j k n m e f =
    let first = number_is (eqb i.window last) n _ i j _ e in
    let second = number_is (eqb j.window last) m _ j k _ f in
    second.0 ∙ ap (λ (x : Ids). x.window) first.1 ∙ ap (λ (x : ℕ). x + 1) (sym first.0)

pub events_in_a_row : (i j k : Ids) (n m : ℕ) → minted (Some n) j ≡ next_event i → minted (Some m) k ≡ next_event j → m ≡ n + 1
unfolding next_event
events_in_a_row i j k n m e f =
    let first = number_is (eqb i.event last) n _ i j _ e in
    let second = number_is (eqb j.event last) m _ j k _ f in
    second.0 ∙ ap (λ (x : Ids). x.event) first.1 ∙ ap (λ (x : ℕ). x + 1) (sym first.0)

-- ---- a frame or a flush

-- "The window counter rises by one per closed window, the event counter by the events returned."
pub record Advanced (v : World) (i : Ids) (r : Answered) : Type 0 where
  pub windows : i.window ≡ v.ids.window + closed_windows (paper r.reply).returns
  pub events : i.event ≡ v.ids.event + r.batch.count

pub advanced : (c : Call) (v : World) (i : Ids) (r : Answered) (A P B M W : List Float) → lent i r A P B M W ≡ called c v → Advanced v i r
advanced c v i r A P B M W e =
    let s = subst (λ (o : Outcome). (o.ids.window ≡ v.ids.window + closed_windows o.reply.returns) × (o.ids.event ≡ v.ids.event + o.batch.count)) (sym e) ((step c v).windows, (step c v).events) in
    record { windows = s.0; events = s.1 }

-- ---- a refusal leaves the counters, the pipeline and every list

-- what follows the buffer keeps its reply
onward_reply : (r : Returns) (a : Answer) (i : Ids) (b : WindowBuffer) (p : EventPipeline) (means base : List Float) → (onward_with r a i b p means base).reply ≡ a
onward_reply nothing a i b p means base = refl
onward_reply (place n) a i b p means base = refl
onward_reply (window w n) a i b p means base = refl

-- a call by value, by its ruling and what the buffer makes of it
abbrev ruled_on : Ruling → World → Push.Outcome → Outcome
ruled_on x v o = ruled x (carry v.pipeline v.baseline o) (λ why. refused_of why v.ids v.pipeline v.amplitudes v.phases v.baseline v.means v.variances)

leaves : (x : Ruling) (v : World) (o : Push.Outcome) → o.reply.number ≡ 0 → ((ruled_on x v o).reply.number ≡ 0 → ⊥) → left (ruled_on x v o) ≡ v
leaves fine v o z n = absurd (n (ap (λ (a : Answer). a.number) (onward_reply o.reply.returns o.reply o.ids o.buffer v.pipeline o.means v.baseline) ∙ z))
leaves (refused why) v o z n = refl

call_leaves : (c : Call) (v : World) → ((called c v).reply.number ≡ 0 → ⊥) → left (called c v) ≡ v
unfolding process_of flush_of
call_leaves (framed f a p q) v =
    leaves (frame_ruling (room_of v.amplitudes v.phases v.means v.variances) (length v.baseline) v.ids v.pipeline f a p q) v (take_of v.ids v.pipeline.buffer f a p q v.amplitudes v.phases v.means v.variances)
    (take_0 v.ids v.pipeline.buffer f a p q v.amplitudes v.phases v.means v.variances)
call_leaves flushed v =
    leaves (flush_ruling (room_of v.amplitudes v.phases v.means v.variances) (length v.baseline) v.ids v.pipeline) v (drain_of v.ids v.pipeline.buffer v.amplitudes v.phases v.means v.variances)
    (drain_0 v.ids v.pipeline.buffer v.amplitudes v.phases v.means v.variances)

pub refusal_leaves : (c : Call) (v : World) (i : Ids) (r : Answered) (A P B M W : List Float) → lent i r A P B M W ≡ called c v → ((paper r.reply).number ≡ 0 → ⊥) → left (lent i r A P B M W) ≡ v
refusal_leaves c v i r A P B M W e n = ap left e ∙ call_leaves c v (λ z. n (ap (λ (o : Outcome). o.reply.number) e ∙ z))

pub refusal_keeps : (c : Call) (v : World) (i : Ids) (r : Answered) (A P B M W : List Float) → lent i r A P B M W ≡ called c v → ((paper r.reply).number ≡ 0 → ⊥) → i ≡ v.ids
refusal_keeps c v i r A P B M W e n = ap (λ (w : World). w.ids) (refusal_leaves c v i r A P B M W e n)
