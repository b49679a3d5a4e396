-- Demand 3 for two whole pipelines. Assumes nothing.
use Prim.Native.Nat.{ℕ, ◌*◌, ◌≤◌}
use mathlib.Core.Path.{◌≡◌, sym, ap, ◌∙◌}
use mathlib.Core.Bool.{true}
use mathlib.Core.List.{List, map}
use lib.ListN.{length}
use Rattle.rvcsi_core.specs.declared.ids.Ids.{Ids}
use Rattle.detectors.specs.declared.presence.PresenceConfig.{PresenceConfig}
use Rattle.buffer_rules.specs.State.{fresh_of}
use Rattle.buffer_rules.specs.declared.WindowBufferConfig.{WindowBufferConfig}
use Rattle.slots.specs.Limits as Limits
use Rattle.slots.specs.Slots.{detector_at}
use Rattle.slots.specs.Runs.{Turn, heard_all, sees}
use Rattle.slots.specs.declared.Slot.{Slot}
use Rattle.slots.proofs.Keen.{sets_keep}
use Rattle.pipeline_laws.specs.Calls.{World, Call, after, turns}
use Rattle.pipeline_laws.specs.Pairs.{KeenerPipeline, NoEight, present_at}
use Rattle.pipeline_laws.proofs.Tilted.{tilted_cfg, tilted}
use Rattle.pipeline_laws.proofs.Beginning.{begun-sound, begun-settings, begun-threshold, begun-places, begun-accepted}
use Rattle.pipeline_laws.proofs.Hearing.{hears_all}
use Rattle.pipeline_laws.proofs.Together.{twice, twice_firsts, Alike, together}
use Rattle.pipeline_laws.proofs.FewCalls.{few_calls}

-- before the first call they are alike
module _ {session source : ℕ} {b b' : WindowBufferConfig} {c d : PresenceConfig} {i j : ℕ} {first second : World} (k : KeenerPipeline session source b b' c d i j first second) where
  same-but : b' ≡ tilted_cfg b'.presence_threshold b
  same-but = λ s. record { max_frames = k.buffers.max-frames s; max_duration_ns = k.buffers.max-duration s; presence_threshold = b'.presence_threshold }

  begin-alike : Alike b'.presence_threshold first second
  unfolding fresh_of
  begin-alike =
      record {
        windows = ap (λ (x : Ids). x.window) (k.second-begun.counters ∙ sym k.first-begun.counters);
        buffer = k.second-begun.buffer ∙ ap (fresh_of session source) same-but ∙ sym (ap (tilted b'.presence_threshold) k.first-begun.buffer);
        amplitudes = k.amplitudes;
        phases = k.phases;
        means = k.means;
        variances = k.variances;
      }

-- DEMAND 3 FOR TWO PIPELINES. Both fresh, the second the keener, given the same frames and flushes: whenever the first's presence detector says present,
-- so does the second's. Calls are newest first, so this speaks of the moment after every call.
-- No call of either may be answered 8. The two may have told unequally many events, so that one is out of event numbers before the other: a frame that
-- closes a window there is refused by the one and taken by the other, whose detector then hears a window that the one's does not.
pub keener_present : {session source : ℕ} {b b' : WindowBufferConfig} {c d : PresenceConfig} {i j : ℕ} {first second : World} → KeenerPipeline session source b b' c d i j first second
    → (calls : List Call) → NoEight calls first → NoEight calls second → present_at i (after calls first) ≡ true → present_at j (after calls second) ≡ true
keener_present {b} {b'} {c} {d} {i} {j} {first} {second} k calls n n' here =
    let t = b'.presence_threshold in
    let s = begun-sound k.first-begun in
    let s' = begun-sound k.second-begun in
    let past = turns calls first in
    let g = together t b (begun-threshold k.second-begun) (begun-threshold k.first-begun) k.buffers.threshold first second s s' (begun-settings k.first-begun) (begin-alike k) calls n n' in
    let D = first.pipeline.detectors in
    let D' = second.pipeline.detectors in
    ap (λ (l : List Slot). sees (detector_at l j))
    ((hears_all calls second s').slots-are ∙ ap (λ (l : List Turn). (heard_all D'.slots D'.count second.baseline l).slots) g.same-windows)
    ∙ sets_keep c d (begun-accepted k.first-begun c i k.first_holds) (begun-accepted k.second-begun d j k.second_holds) k.detectors D.slots D'.slots D.count D'.count
    first.baseline second.baseline i j k.first_holds.added k.second_holds.added (begun-places k.first-begun) (begun-places k.second-begun)
    k.first_holds.presence k.second_holds.presence (map (twice t) past) g.no_lower
    (ap (λ (l : List Slot). sees (detector_at l i))
    (ap (λ (l : List Turn). (heard_all D.slots D.count first.baseline l).slots) (twice_firsts t past) ∙ sym (hears_all calls first s).slots-are) ∙ here)

-- The same for up to (2^64-7)/6 calls, over 3 * 10^18: 8 does not come so soon
pub keener_present_early : {session source : ℕ} {b b' : WindowBufferConfig} {c d : PresenceConfig} {i j : ℕ} {first second : World} → KeenerPipeline session source b b' c d i j first second
    → (calls : List Call) → 6 * length calls ≤ Limits.last → present_at i (after calls first) ≡ true → present_at j (after calls second) ≡ true
keener_present_early {first} {second} k calls few =
    keener_present k calls (few_calls first (begun-sound k.first-begun) k.first-begun.counters calls few) (few_calls second (begun-sound k.second-begun) k.second-begun.counters calls few)
