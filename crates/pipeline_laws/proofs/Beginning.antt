-- A pipeline before its first call: what `new`, `add_detector` and `with_defaults` make is one, and what that shows. Assumes nothing.
use Prim.Native.Nat.{ℕ, ◌≤◌}
use mathlib.Core.Path.{◌≡◌, refl, sym, ap, subst, ◌∙◌}
use mathlib.Core.Bool.{Bool, true, false, ◌&&◌, cond}
use mathlib.Core.List.{List}
use native.Mathlib.Omega.{arith}
use Rattle.std.proofs.lemmas.Bool.{leb-true, and_parts}
use lib.Dec.{T, leb, ltb}
use lib.ListN.{length}
use lib.Ieee.{Float, of_bits, le}
use lib.Ieee.Scale.{finite}
use Rattle.rvcsi_core.specs.Counters.{fresh_ids}
use Rattle.detectors.specs.Presence.{presence_default, presence_accepted, presence_in}
use Rattle.detectors.specs.declared.presence.PresenceConfig.{PresenceConfig}
use Rattle.buffer_rules.specs.Settings.{settings_ok, threshold_ok, defaults}
use Rattle.buffer_rules.specs.State.{state_ok, fresh_of}
use Rattle.buffer_rules.specs.Frames.{stores_ok}
use Rattle.buffer_rules.specs.declared.WindowBuffer.{WindowBuffer}
use Rattle.buffer_rules.specs.declared.WindowBufferConfig.{WindowBufferConfig}
use Rattle.buffer_rules.proofs.Facts.{settings_fact, state_fact, state_yes, stores_fact}
use Rattle.window_buffer.specs.Push.{room_of}
use Rattle.window_buffer.proofs.Range as Range
use Rattle.window_buffer.proofs.Valid.{threshold_finite}
use Rattle.slots.specs.Limits as Limits
use Rattle.slots.specs.Slots.{detector_in, set_ok}
use Rattle.slots.specs.Adding.{add_of}
use Rattle.slots.specs.declared.Detector.{Detector}
use Rattle.slots.specs.declared.DetectorConfig.{DetectorConfig}
use Rattle.slots.specs.declared.DetectorConfig.TheVariants as given
use Rattle.slots.specs.declared.Detectors.{Detectors}
use Rattle.slots.proofs.Owed.{set_in, Held, none_held, add_held}
use Rattle.slots.proofs.Added.{add-stays, add_last}
use Rattle.pipeline.specs.Recents.{cap, none_kept}
use Rattle.pipeline.specs.Whole.{lent_ok, pipeline_ok}
use Rattle.pipeline.specs.Making.{new_of, default_detectors, defaults_of, with_detectors, add_detector_of}
use Rattle.pipeline.specs.declared.EventPipeline.{EventPipeline}
use Rattle.pipeline_laws.specs.Calls.{World}
use Rattle.pipeline_laws.specs.Pairs.{Begun, Holds}
use Rattle.pipeline_laws.proofs.Owed.{Sound}
use Rattle.pipeline_laws.proofs.Defaults.{defaults_held}

-- ---- what a beginning shows
module _ {session source : ℕ} {b : WindowBufferConfig} {v : World} (f : Begun session source b v) where
  pub begun-sound : Sound v
  unfolding lent_ok pipeline_ok fresh_of
  begun-sound =
      let l = and_parts (stores_ok (room_of v.amplitudes v.phases v.means v.variances)) (leb Limits.room_of (length v.baseline)) f.lent in
      let p = and_parts (set_ok v.pipeline.detectors) (leb v.pipeline.recent.count cap && state_ok v.pipeline.buffer) f.in_range in
      let q = and_parts (leb v.pipeline.recent.count cap) (state_ok v.pipeline.buffer) p.1 in
      let s = stores_fact (room_of v.amplitudes v.phases v.means v.variances) l.0 in
      record {
        buffer =
            record {
              range = state_fact v.pipeline.buffer q.1;
              qualities = ap (λ (x : WindowBuffer). length x.qualities) f.buffer;
              scales = ap (λ (x : WindowBuffer). length x.scales) f.buffer;
            };
        detectors = record { ok = p.0; long = f.slots };
        recent = leb-true _ _ q.0;
        amplitudes = s.amplitudes;
        phases = s.phases;
        baseline = leb-true _ _ l.1;
        means = s.means;
        variances = s.variances;
      }

  pub begun-settings : v.pipeline.buffer.cfg ≡ b
  unfolding fresh_of
  begun-settings = ap (λ (x : WindowBuffer). x.cfg) f.buffer

  pub begun-threshold : T (finite b.presence_threshold)
  begun-threshold =
      threshold_finite b.presence_threshold (settings_fact b (subst (λ (x : WindowBufferConfig). settings_ok x ≡ true) begun-settings begun-sound.buffer.range.settings)).threshold

  pub begun-places : v.pipeline.detectors.count ≤ length v.pipeline.detectors.slots
  begun-places = omega (arith, f.slots, (set_in v.pipeline.detectors begun-sound.detectors.ok).few)

  pub begun-accepted : (c : PresenceConfig) (i : ℕ) → Holds c i v → presence_accepted c ≡ true
  unfolding presence_in
  begun-accepted c i h =
      let g = set_in v.pipeline.detectors begun-sound.detectors.ok in
      (and_parts (presence_accepted c) (ltb 0 c.enter_windows) (subst (λ (d : Detector). detector_in d ≡ true) h.presence (g.all_in i h.added))).0

-- ---- what is one

-- counters from 0, and a pipeline with its lists
abbrev pub start_with : EventPipeline → List Float → List Float → List Float → List Float → List Float → World
start_with p A P B M W = record { ids = fresh_ids; pipeline = p; amplitudes = A; phases = P; baseline = B; means = M; variances = W }

fresh_ok : (session source : ℕ) (b : WindowBufferConfig) → settings_ok b ≡ true → state_ok (fresh_of session source b) ≡ true
fresh_ok session source b ok = state_yes (fresh_of session source b) (Range.fresh_sound session source b ok).range

-- a pipeline that `new` made, with settings that it accepts
pub new_begun : (session source : ℕ) (b : WindowBufferConfig) (A P B M W : List Float) → (new_of session source b).number ≡ 0 → lent_ok (room_of A P M W) (length B) ≡ true
    → Begun session source b (start_with (new_of session source b).pipeline A P B M W)
unfolding new_of pipeline_ok none_kept
new_begun session source b A P B M W made lent =
    record { counters = refl; buffer = refl; slots = none_held.long; lent = lent; in_range = rw (none_held.ok, fresh_ok session source b (accepted (settings_ok b) made)) }
  where
    accepted : (t : Bool) → ◌≡◌ {A = ℕ} (cond t 0 1) 0 → t ≡ true
    accepted true e = refl
    accepted false e = absurd (omega arith)

-- the default pipeline, with its presence detector in slot 0
pub defaults_begun : (session source : ℕ) (A P B M W : List Float) → lent_ok (room_of A P M W) (length B) ≡ true → Begun session source defaults (start_with (defaults_of session source) A P B M W)
unfolding defaults_of pipeline_ok none_kept
defaults_begun session source A P B M W lent =
    record { counters = refl; buffer = refl; slots = defaults_held.long; lent = lent; in_range = rw (defaults_held.ok, fresh_ok session source defaults default_ok) }
  where
    default_ok : settings_ok defaults ≡ true
    default_ok = unfold settings_ok threshold_ok of_bits le in refl

pub defaults_hold : (session source : ℕ) (A P B M W : List Float) → Holds presence_default 0 (start_with (defaults_of session source) A P B M W)
unfolding defaults_of default_detectors
defaults_hold session source A P B M W = record { added = omega arith; presence = refl }

-- ---- a detector is added
abbrev pub with_pipeline : World → EventPipeline → World
with_pipeline v p =
    record {
      ids = v.ids;
      pipeline = p;
      amplitudes = v.amplitudes;
      phases = v.phases;
      baseline = v.baseline;
      means = v.means;
      variances = v.variances;
    }

abbrev pub adding : DetectorConfig → World → World
adding e v = with_pipeline v (add_detector_of v.pipeline e).pipeline

module _ {session source : ℕ} {b : WindowBufferConfig} {v : World} (f : Begun session source b v) (e : DetectorConfig) where
  by-set : ((add_detector_of v.pipeline e).number ≡ (add_of v.pipeline.detectors e).number) × ((add_detector_of v.pipeline e).pipeline ≡ with_detectors v.pipeline (add_of v.pipeline.detectors e).set)
  unfolding add_detector_of
  by-set = rw f.in_range (refl, refl)

  with-ok : (d : Detectors) → set_ok d ≡ true → pipeline_ok (with_detectors v.pipeline d) ≡ true
  unfolding pipeline_ok
  with-ok d ok = rw ok (and_parts (set_ok v.pipeline.detectors) (leb v.pipeline.recent.count cap && state_ok v.pipeline.buffer) f.in_range).1

  set-held : Held (add_of v.pipeline.detectors e).set
  set-held = add_held v.pipeline.detectors e (begun-sound f).detectors

  -- whatever the reply
  pub add-begun : Begun session source b (adding e v)
  add-begun =
      record {
        counters = f.counters;
        buffer = ap (λ (p : EventPipeline). p.buffer) by-set.1 ∙ f.buffer;
        slots = ap (λ (p : EventPipeline). length p.detectors.slots) by-set.1 ∙ set-held.long;
        lent = f.lent;
        in_range = ap pipeline_ok by-set.1 ∙ with-ok (add_of v.pipeline.detectors e).set set-held.ok;
      }

  -- a presence detector stays in its slot
  pub add_holds : (c : PresenceConfig) (i : ℕ) → Holds c i v → Holds c i (adding e v)
  add_holds c i h =
      let k = add-stays v.pipeline.detectors i h.added e in
      subst (λ (p : EventPipeline). Holds c i (with_pipeline v p)) (sym by-set.1)
      (record { added = k.0; presence = k.1 ∙ h.presence })

-- reply 0 to a presence detector: it stands behind the others
pub presence_holds : {session source : ℕ} {b : WindowBufferConfig} {v : World} → Begun session source b v → (c : PresenceConfig) → (add_detector_of v.pipeline (given.Presence c)).number ≡ 0
    → Holds c v.pipeline.detectors.count (adding (given.Presence c) v)
presence_holds {v} f c e =
    let k = add_last v.pipeline.detectors (given.Presence c) f.slots (sym (by-set f (given.Presence c)).0 ∙ e) in
    subst (λ (p : EventPipeline). Holds c v.pipeline.detectors.count (with_pipeline v p))
    (sym (by-set f (given.Presence c)).1) (record { added = k.0; presence = k.1 })
