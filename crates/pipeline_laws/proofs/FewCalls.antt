-- 8 takes many calls: each gives at most one window and six events. Assumes nothing.
use Prim.Native.Nat.{◌+◌, ◌*◌, ◌≤◌}
use mathlib.Core.Path.{◌≡◌, ap}
use mathlib.Core.Bool.{true}
use mathlib.Core.List.{List, [], ◌∷◌}
use native.Mathlib.Omega.{arith}
use Rattle.std.proofs.lemmas.Bool.{le-leb, ne_eqb}
use lib.ListN.{length, take}
use lib.Ieee.{Float}
use Rattle.rvcsi_core.specs.Counters.{last, fresh_ids}
use Rattle.rvcsi_core.specs.declared.ids.Ids.{Ids}
use Rattle.buffer_rules.specs.Paper.{Returns, nothing, place, window, Answer}
use Rattle.buffer_rules.specs.Frames.{room_ok}
use Rattle.buffer_rules.specs.declared.WindowBuffer.{WindowBuffer}
use Rattle.window_buffer.proofs.Calls.{closed_windows}
use Rattle.slots.specs.Limits as Limits
use Rattle.slots.specs.Judging as Judging
use Rattle.slots.proofs.Owed.{by-reply}
use Rattle.pipeline.specs.Whole.{event_room}
use Rattle.pipeline.specs.Process.{onward_with, Outcome}
use Rattle.pipeline.specs.declared.EventPipeline.{EventPipeline}
use Rattle.pipeline_laws.specs.Calls.{World, Call, called, after}
use Rattle.pipeline_laws.specs.Pairs.{NoEight}
use Rattle.pipeline_laws.proofs.Following.{buffered, follows}
use Rattle.pipeline_laws.proofs.Totals.{by_call, step}
use Rattle.pipeline_laws.proofs.Owed.{Sound, after_sound, never_8}

-- "a batch of at most six"
onward_six : (r : Returns) (a : Answer) (i : Ids) (b : WindowBuffer) (p : EventPipeline) (means base : List Float) → (onward_with r a i b p means base).batch.count ≤ 6
onward_six nothing a i b p means base = omega arith
onward_six (place n) a i b p means base = omega arith
onward_six (window w n) a i b p means base =
    by-reply (λ (o : Judging.Outcome). o.batch.count ≤ 6) i p.detectors w (take n means) base (λ r. omega arith) (λ k. omega arith)

call_six : (c : Call) (v : World) → (called c v).batch.count ≤ 6
call_six c v =
    let o = buffered c v in
    by_call (λ (x : Outcome). x.batch.count ≤ 6) (follows c v) (omega arith) (omega arith)
    (onward_six o.reply.returns o.reply o.ids o.buffer v.pipeline o.means v.baseline)

one_window : (r : Returns) → closed_windows r ≤ 1
one_window nothing = omega arith
one_window (place k) = omega arith
one_window (window w n) = omega arith

rises : (cs : List Call) (v : World) → ((after cs v).ids.window ≤ v.ids.window + length cs) × ((after cs v).ids.event ≤ v.ids.event + 6 * length cs)
unfolding after
rises [] v = (omega arith, omega arith)
rises (c ∷ cs) v =
    let h = rises cs v in
    let s = step c (after cs v) in
    (omega (arith, h.0, s.windows, one_window (called c (after cs v)).reply.returns), omega (arith, h.1, s.events, call_six c (after cs v)))

room : (i : Ids) → i.window ≤ Limits.last → i.event ≤ Limits.last → room_ok i (event_room i) ≡ true
unfolding room_ok
room i w e = rw (ne_eqb i.window last (λ h. omega arith), le-leb i.event Limits.last e)

-- from fresh 8 does not come within (2^64-7)/6 calls, which are over 3 * 10^18
pub few_calls : (v : World) → Sound v → v.ids ≡ fresh_ids → (cs : List Call) → 6 * length cs ≤ Limits.last → NoEight cs v
few_calls v s z [] h = tt
few_calls v s z (c ∷ cs) h =
    let r = rises cs v in
    let w : v.ids.window ≡ 0 = ap (λ (i : Ids). i.window) z in
    let e : v.ids.event ≡ 0 = ap (λ (i : Ids). i.event) z in
    (never_8 c (after cs v) (after_sound cs v s) (room (after cs v).ids (omega (arith, r.0, w, h)) (omega (arith, r.1, e, h))), few_calls v s z cs (omega arith))
