-- Two pipelines side by side: what demand 3 takes of them before their first call.
use Rattle.std.specs.Prelude.{ℕ, ◌<◌, ◌≡◌, Bool, true, List, [], ◌∷◌, T, length}
use Rattle.std.specs.Float.Ieee.{le}
use Rattle.rvcsi_core.specs.Counters.{fresh_ids}
use Rattle.detectors.specs.Presence.{presence_fresh}
use Rattle.detectors.specs.Pairs.{Keener}
use Rattle.detectors.specs.declared.presence.PresenceConfig.{PresenceConfig}
use Rattle.buffer_rules.specs.State.{fresh_of}
use Rattle.buffer_rules.specs.declared.WindowBufferConfig.{WindowBufferConfig}
use Rattle.window_buffer.specs.Push.{room_of}
use Rattle.slots.specs.Limits.{places}
use Rattle.slots.specs.Slots.{detector_at}
use Rattle.slots.specs.Runs.{sees}
use Rattle.slots.specs.declared.Detector.TheVariants.{Presence}
use Rattle.pipeline.specs.Whole.{lent_ok, pipeline_ok}
use Rattle.pipeline_laws.specs.Calls.{World, Call, called, after}

-- Before the first call: counters from 0, the buffer as `new` makes it, detectors added, and nothing that 13 or 14 refuses
pub record Begun (session source : ℕ) (b : WindowBufferConfig) (v : World) : Type 0 where
  pub counters : v.ids ≡ fresh_ids
  pub buffer : v.pipeline.buffer ≡ fresh_of session source b
  pub slots : length v.pipeline.detectors.slots ≡ places
  pub lent : lent_ok (room_of v.amplitudes v.phases v.means v.variances) (length v.baseline) ≡ true
  pub in_range : pipeline_ok v.pipeline ≡ true

-- a fresh presence detector with settings c stands in slot i
pub record Holds (c : PresenceConfig) (i : ℕ) (v : World) : Type 0 where
  pub added : i < v.pipeline.detectors.count
  pub presence : detector_at v.pipeline.detectors.slots i ≡ Presence c presence_fresh

-- two buffers' settings, alike but for the threshold: the second's is no higher
pub record NoHigher (b b' : WindowBufferConfig) : Type 0 where
  pub max-frames : b'.max_frames ≡ b.max_frames
  pub max-duration : b'.max_duration_ns ≡ b.max_duration_ns
  pub threshold : T (le b'.presence_threshold b.presence_threshold)

-- Two pipelines of one session and source, "both fresh", the second the keener: "on, off and enter no higher, exit no lower", the buffer's threshold no
-- higher. Each is lent its own lists, which hold the same at the start. Baselines and other detectors may differ
pub record KeenerPipeline (session source : ℕ) (b b' : WindowBufferConfig) (c d : PresenceConfig) (i j : ℕ) (first second : World) : Type 0 where
  pub first-begun : Begun session source b first
  pub second-begun : Begun session source b' second
  pub first_holds : Holds c i first
  pub second_holds : Holds d j second
  pub detectors : Keener c d
  pub buffers : NoHigher b b'
  pub amplitudes : second.amplitudes ≡ first.amplitudes
  pub phases : second.phases ≡ first.phases
  pub means : second.means ≡ first.means
  pub variances : second.variances ≡ first.variances

-- no call was answered 8
abbrev pub NoEight : List Call → World → Type 0
NoEight [] v = Unit
NoEight (c ∷ cs) v = ((called c (after cs v)).reply.number ≡ 8 → ⊥) × NoEight cs v

-- the presence detector in slot i says present
abbrev pub present_at : ℕ → World → Bool
present_at i v = sees (detector_at v.pipeline.detectors.slots i)
