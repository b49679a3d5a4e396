-- Reply 0 is owed, over any calls from fresh: 14 never comes, a frame that nothing refuses is taken, a window that closes is judged, and every event
-- is valid. Assumes nothing.
use Rattle.std.specs.Prelude.{None}
use Prim.Native.Nat.{ℕ, ◌≤◌, ◌<◌}
use mathlib.Core.Path.{◌≡◌, refl, sym, ap, subst, ◌∙◌}
use mathlib.Core.Bool.{Bool, true, false, not}
use mathlib.Core.List.{List, [], ◌∷◌}
use native.Mathlib.Omega.{arith}
use Rattle.std.proofs.lemmas.Bool.{le-leb, leb-true, ltb-true, not-true, eqb-false, cond_both}
use lib.Dec.{ltb, eqb}
use lib.ListN.{length, take, length-take}
use lib.Ieee.{Float}
use Rattle.rvcsi_core.specs.declared.frame.CsiFrame.{CsiFrame}
use Rattle.rvcsi_core.specs.declared.window.CsiWindow.{CsiWindow}
use Rattle.rvcsi_core.specs.declared.ids.Ids.{Ids}
use Rattle.rvcsi_core.specs.Frame.{exposable}
use Rattle.frame_stats.specs.Scan.{frame_scan}
use Rattle.buffer_rules.specs.Paper.{Returns, nothing, place, window, Answer, Ruling, fine}
use Rattle.buffer_rules.specs.Settings.{settings_ok}
use Rattle.buffer_rules.specs.Frames.{stores_ok, counts_ok, source_ok, same_count, time_ok, room_ok, numbers_ok}
use Rattle.buffer_rules.specs.Rulings as Rulings
use Rattle.buffer_rules.specs.declared.WindowBuffer.{WindowBuffer}
use Rattle.buffer_rules.specs.declared.WindowBufferConfig.{WindowBufferConfig}
use Rattle.buffer_rules.proofs.Facts.{state_yes}
use Rattle.buffer_rules.proofs.Numbers.{refusal_is, not14, frame-not14, flush-not14, not8, frame-not8, flush-not8}
use Rattle.window_buffer.specs.Push.{room_of}
use Rattle.window_buffer.specs.Push as Push
use Rattle.window_buffer.proofs.Calls as Buffer
use Rattle.window_buffer.proofs.Owed.{push_owed, take_0, drain_0}
use Rattle.window_buffer.proofs.Range as Range
use Rattle.window_buffer.proofs.Total.{push_counts, flush_counts}
use Rattle.slots.specs.Limits as Limits
use Rattle.slots.specs.Slots.{step_of}
use Rattle.slots.specs.Judging.{hear_to, done, judge_of}
use Rattle.slots.proofs.Owed.{Held, none_held, judge_held, judge_length, owed}
use Rattle.slots.proofs.Sound.{AllSingle, AllValid, fill_valid, judge-valid, judge-single}
use Rattle.pipeline.specs.Recents.{cap, none_kept, remember_of}
use Rattle.pipeline.specs.Whole.{lent_ok, event_room, whole_ruling}
use Rattle.pipeline.specs.Making.{new_of}
use Rattle.pipeline.specs.Process.{Carried, onward_with, Outcome, carry}
use Rattle.pipeline.specs.declared.EventPipeline.{EventPipeline}
use Rattle.pipeline.specs.declared.recent.Recent.{Recent}
use Rattle.pipeline_laws.specs.Calls.{World, Call, framed, flushed, called, left, after}
use Rattle.pipeline_laws.proofs.Following.{buffered, follows}
use Rattle.window_buffer.proofs.Cases.{by_ruling}
use Rattle.pipeline_laws.proofs.Lengths.{Long, push_long, flush_long}
use Rattle.pipeline_laws.proofs.Totals.{onward_counts}

-- in range, with stores that are long enough
pub record Sound (v : World) : Type 0 where
  pub buffer : Range.Sound v.pipeline.buffer
  pub detectors : Held v.pipeline.detectors
  pub recent : v.pipeline.recent.count ≤ cap
  pub amplitudes : 4096 ≤ length v.amplitudes
  pub phases : 4096 ≤ length v.phases
  pub baseline : Limits.room_of ≤ length v.baseline
  pub means : 256 ≤ length v.means
  pub variances : 256 ≤ length v.variances

-- ---- the whole has nothing against it
stores_yes : (A P M W : List Float) → 4096 ≤ length A → 4096 ≤ length P → 256 ≤ length M → 256 ≤ length W → stores_ok (room_of A P M W) ≡ true
unfolding stores_ok
stores_yes A P M W a p m w = rw (le-leb 4096 (length A) a, le-leb 4096 (length P) p, le-leb 256 (length M) m, le-leb 256 (length W) w)

whole_yes : (v : World) → Sound v → fine ≡ whole_ruling (room_of v.amplitudes v.phases v.means v.variances) (length v.baseline) v.pipeline.detectors v.pipeline.recent.count
unfolding whole_ruling lent_ok
whole_yes v s =
    rw (
      stores_yes v.amplitudes v.phases v.means v.variances s.amplitudes s.phases s.means s.variances,
      le-leb Limits.room_of (length v.baseline) s.baseline,
      s.detectors.ok,
      le-leb v.pipeline.recent.count cap s.recent,
    )

-- so each call carries the buffer's on
pub carries : (c : Call) (v : World) → Sound v → carry v.pipeline v.baseline (buffered c v) ≡ called c v
carries c v s = (follows c v).goes_on (whole_yes v s)

-- ---- what a call leaves is in range again
remember_few : (r : Recent) (w : CsiWindow) → r.count ≤ cap → (remember_of r w).count ≤ cap
unfolding remember_of
remember_few r w h =
    cond_both (ltb r.count cap) _ _ (λ (x : Recent). x.count ≤ cap) (λ e. let k : r.count < cap = ltb-true _ _ e in omega arith) (λ e. omega arith)

record OnwardSound (base : List Float) (c : Carried) : Type 0 where
  detectors : Held c.pipeline.detectors
  recent : c.pipeline.recent.count ≤ cap
  baseline : length c.baseline ≡ length base

onward_sound : (r : Returns) (a : Answer) (i : Ids) (b : WindowBuffer) (p : EventPipeline) (means base : List Float) → Held p.detectors → p.recent.count ≤ cap → OnwardSound base (onward_with r a i b p means base)
onward_sound nothing a i b p means base d k = record { detectors = d; recent = k; baseline = refl }
onward_sound (place n) a i b p means base d k = record { detectors = d; recent = k; baseline = refl }
onward_sound (window w n) a i b p means base d k =
    record {
      detectors = judge_held i p.detectors w (take n means) base d;
      recent = remember_few p.recent w k;
      baseline = judge_length i p.detectors w (take n means) base;
    }

-- the rest of the pipeline leaves what the buffer made
pub record Passed (o : Push.Outcome) (out : Outcome) : Type 0 where
  pub reply : out.reply ≡ o.reply
  pub window : out.ids.window ≡ o.ids.window
  pub buffer : out.pipeline.buffer ≡ o.buffer
  pub amplitudes : out.amplitudes ≡ o.amplitudes
  pub phases : out.phases ≡ o.phases
  pub means : out.means ≡ o.means
  pub variances : out.variances ≡ o.variances

pub passed : (c : Call) (v : World) → Sound v → Passed (buffered c v) (called c v)
passed c v s =
    let o = buffered c v in
    let n = onward_counts o.reply.returns o.reply o.ids o.buffer v.pipeline o.means v.baseline in
    subst (Passed o) (carries c v s)
    (record { reply = n.reply; window = n.windows; buffer = n.buffer; amplitudes = refl; phases = refl; means = refl; variances = refl })

buffer_sound : (c : Call) (v : World) → Range.Sound v.pipeline.buffer → Range.Sound (buffered c v).buffer
buffer_sound (framed f a p q) v s = Range.call_sound (Buffer.pushed v.ids (event_room v.ids) f a p q v.amplitudes v.phases v.means v.variances) v.pipeline.buffer s
buffer_sound flushed v s = Range.call_sound (Buffer.flushed v.ids (event_room v.ids) v.amplitudes v.phases v.means v.variances) v.pipeline.buffer s

buffer_long : (c : Call) (v : World) → Long (event_room v.ids) v.amplitudes v.phases v.means v.variances (buffered c v)
buffer_long (framed f a p q) v = push_long (event_room v.ids) v.ids v.pipeline.buffer f a p q v.amplitudes v.phases v.means v.variances
buffer_long flushed v = flush_long (event_room v.ids) v.ids v.pipeline.buffer v.amplitudes v.phases v.means v.variances

pub call_sound : (c : Call) (v : World) → Sound v → Sound (left (called c v))
call_sound c v s =
    let o = buffered c v in
    let n = onward_sound o.reply.returns o.reply o.ids o.buffer v.pipeline o.means v.baseline s.detectors s.recent in
    let m = onward_counts o.reply.returns o.reply o.ids o.buffer v.pipeline o.means v.baseline in
    let l = buffer_long c v in
    subst (λ (x : Outcome). Sound (left x)) (carries c v s)
    (record {
      buffer = subst Range.Sound (sym m.buffer) (buffer_sound c v s.buffer);
      detectors = n.detectors;
      recent = n.recent;
      amplitudes = omega (arith, l.amplitudes, s.amplitudes);
      phases = omega (arith, l.phases, s.phases);
      baseline = omega (arith, n.baseline, s.baseline);
      means = omega (arith, l.means, s.means);
      variances = omega (arith, l.variances, s.variances);
    })

pub after_sound : (cs : List Call) (v : World) → Sound v → Sound (after cs v)
unfolding after
after_sound [] v s = s
after_sound (c ∷ cs) v s = call_sound c (after cs v) (after_sound cs v s)

-- ---- a frame that nothing refuses is taken
pub frame_owed : (v : World) → Sound v → (f : CsiFrame) (a p q : List Float)
    → counts_ok f (length a) (length p) (length q) ≡ true → exposable f ≡ true → source_ok v.pipeline.buffer f ≡ true → same_count v.pipeline.buffer f ≡ true
    → frame_scan f.quality_score a p q ≡ None → time_ok v.pipeline.buffer f.timestamp_ns ≡ true → numbers_ok v.ids (event_room v.ids) v.pipeline.buffer f.timestamp_ns ≡ true
    → (called (framed f a p q) v).reply.number ≡ 0
frame_owed v s f a p q counts flag source count values time numbers =
    ap (λ (x : Answer). x.number) (passed (framed f a p q) v s).reply
    ∙ push_owed v.ids (event_room v.ids) v.pipeline.buffer f a p q v.amplitudes v.phases v.means v.variances
    (record {
      stores = stores_yes v.amplitudes v.phases v.means v.variances s.amplitudes s.phases s.means s.variances;
      state = state_yes v.pipeline.buffer s.buffer.range;
      counts = counts;
      flag = flag;
      source = source;
      count = count;
      values = values;
      time = time;
      numbers = numbers;
    })

-- ---- 14 never comes, and 8 only where there is no number

-- the buffer's ruling on a call
abbrev ruling : Call → World → Ruling
ruling (framed f a p q) v = Rulings.frame_ruling (room_of v.amplitudes v.phases v.means v.variances) v.ids (event_room v.ids) v.pipeline.buffer f a p q
ruling flushed v = Rulings.flush_ruling (room_of v.amplitudes v.phases v.means v.variances) v.ids (event_room v.ids) v.pipeline.buffer

abbrev other : ℕ → Answer → Bool
other m a = not (eqb a.number m)

ruled_other : (m : ℕ) → eqb 0 m ≡ false → (x : Ruling) (o : Push.Outcome) (i : Ids) (b : WindowBuffer) (A P M W : List Float) → refusal_is (other m) x ≡ true → o.reply.number ≡ 0
    → eqb (Push.ruled x o (λ why. Push.refused_of why i b A P M W)).reply.number m ≡ false
ruled_other m k x o i b A P M W h z = by_ruling (λ (r : Push.Outcome). eqb r.reply.number m ≡ false) (other m) x o _ h (λ f. rw z k) (λ why g. not-true (eqb why.number m) g)

buffer_other : (m : ℕ) → eqb 0 m ≡ false → (c : Call) (v : World) → refusal_is (other m) (ruling c v) ≡ true → eqb (buffered c v).reply.number m ≡ false
unfolding Push.push_of Push.flush_of
buffer_other m k (framed f a p q) v h =
    ruled_other m k (ruling (framed f a p q) v) (Push.take_of v.ids v.pipeline.buffer f a p q v.amplitudes v.phases v.means v.variances)
    v.ids v.pipeline.buffer v.amplitudes v.phases v.means v.variances h (take_0 v.ids v.pipeline.buffer f a p q v.amplitudes v.phases v.means v.variances)
buffer_other m k flushed v h =
    ruled_other m k (ruling flushed v) (Push.drain_of v.ids v.pipeline.buffer v.amplitudes v.phases v.means v.variances)
    v.ids v.pipeline.buffer v.amplitudes v.phases v.means v.variances h (drain_0 v.ids v.pipeline.buffer v.amplitudes v.phases v.means v.variances)

never : (m : ℕ) → eqb 0 m ≡ false → (c : Call) (v : World) → Sound v → refusal_is (other m) (ruling c v) ≡ true → (called c v).reply.number ≡ m → ⊥
never m k c v s h = eqb-false _ m (rw (passed c v s).reply (buffer_other m k c v h))

ruling_14 : (c : Call) (v : World) → Sound v → refusal_is not14 (ruling c v) ≡ true
ruling_14 (framed f a p q) v s = frame-not14 (room_of v.amplitudes v.phases v.means v.variances) v.ids (event_room v.ids) v.pipeline.buffer (state_yes v.pipeline.buffer s.buffer.range) f a p q
ruling_14 flushed v s = flush-not14 (room_of v.amplitudes v.phases v.means v.variances) v.ids (event_room v.ids) v.pipeline.buffer (state_yes v.pipeline.buffer s.buffer.range)

pub never_14 : (c : Call) (v : World) → Sound v → (called c v).reply.number ≡ 14 → ⊥
never_14 c v s = never 14 refl c v s (ruling_14 c v s)

ruling_8 : (c : Call) (v : World) → room_ok v.ids (event_room v.ids) ≡ true → refusal_is not8 (ruling c v) ≡ true
ruling_8 (framed f a p q) v n = frame-not8 (room_of v.amplitudes v.phases v.means v.variances) v.ids (event_room v.ids) v.pipeline.buffer n f a p q
ruling_8 flushed v n = flush-not8 (room_of v.amplitudes v.phases v.means v.variances) v.ids (event_room v.ids) v.pipeline.buffer n

pub never_8 : (c : Call) (v : World) → Sound v → room_ok v.ids (event_room v.ids) ≡ true → (called c v).reply.number ≡ 8 → ⊥
never_8 c v s n = never 8 refl c v s (ruling_8 c v n)

-- ---- a window that closes is judged, with reply 0: the detectors have nothing against it
buffer_events : (c : Call) (v : World) → (buffered c v).ids.event ≡ v.ids.event
buffer_events (framed f a p q) v = (push_counts v.ids (event_room v.ids) v.pipeline.buffer f a p q v.amplitudes v.phases v.means v.variances).events
buffer_events flushed v = (flush_counts v.ids (event_room v.ids) v.pipeline.buffer v.amplitudes v.phases v.means v.variances).events

pub close_judged : (c : Call) (v : World) → Sound v → (w : CsiWindow) (n : ℕ) → (buffered c v).reply.returns ≡ window w n
    → judge_of (buffered c v).ids v.pipeline.detectors w (take n (buffered c v).means) v.baseline
    ≡ done (buffered c v).ids v.pipeline.detectors.count w (hear_to (step_of w (take n (buffered c v).means)) v.pipeline.detectors.slots v.baseline v.pipeline.detectors.count)
close_judged c v s w n e =
    let r : (n ≤ 256) × (event_room v.ids ≡ true) = rw e at (buffer_long c v).returns in
    let k : v.ids.event ≤ Limits.last = leb-true _ _ r.1 in
    owed (buffered c v).ids v.pipeline.detectors w (take n (buffered c v).means) v.baseline s.baseline s.detectors.ok
    (omega (arith, r.0, length-take n (buffered c v).means)) (omega (arith, k, buffer_events c v))

-- ---- every event is valid
onward_valid : (r : Returns) (a : Answer) (i : Ids) (b : WindowBuffer) (p : EventPipeline) (means base : List Float) → Held p.detectors → AllSingle p.detectors
    → AllValid (onward_with r a i b p means base).batch.events × AllSingle (onward_with r a i b p means base).pipeline.detectors
onward_valid nothing a i b p means base h f = (fill_valid Limits.most [] tt, f)
onward_valid (place n) a i b p means base h f = (fill_valid Limits.most [] tt, f)
onward_valid (window w n) a i b p means base h f = (judge-valid i p.detectors w (take n means) base h f, judge-single i p.detectors w (take n means) base h f)

pub call_valid : (c : Call) (v : World) → Sound v → AllSingle v.pipeline.detectors → AllValid (called c v).batch.events × AllSingle (called c v).pipeline.detectors
call_valid c v s f =
    let o = buffered c v in
    subst (λ (x : Outcome). AllValid x.batch.events × AllSingle x.pipeline.detectors) (carries c v s)
    (onward_valid o.reply.returns o.reply o.ids o.buffer v.pipeline o.means v.baseline s.detectors f)

pub after_single : (cs : List Call) (v : World) → Sound v → AllSingle v.pipeline.detectors → AllSingle (after cs v).pipeline.detectors
unfolding after
after_single [] v s f = f
after_single (c ∷ cs) v s f = (call_valid c (after cs v) (after_sound cs v s) (after_single cs v s f)).1

-- ---- from fresh
pub new_sound : (i : Ids) (session source : ℕ) (c : WindowBufferConfig) (A P B M W : List Float) → settings_ok c ≡ true → 4096 ≤ length A → 4096 ≤ length P → Limits.room_of ≤ length B → 256 ≤ length M → 256 ≤ length W
    → Sound (record { ids = i; pipeline = (new_of session source c).pipeline; amplitudes = A; phases = P; baseline = B; means = M; variances = W })
unfolding new_of none_kept
new_sound i session source c A P B M W ok a p b m w =
    record {
      buffer = Range.fresh_sound session source c ok;
      detectors = none_held;
      recent = omega arith;
      amplitudes = a;
      phases = p;
      baseline = b;
      means = m;
      variances = w;
    }
