-- Two pipelines that demand 3 speaks of: the default one, and one with lower thresholds that enters at once. Assumes nothing.
use Prim.Native.Nat.{ℕ}
use mathlib.Core.Path.{◌≡◌, refl}
use mathlib.Core.Bool.{true}
use mathlib.Core.List.{List}
use native.Mathlib.Omega.{arith}
use lib.ListN.{length}
use lib.Ieee.{Float, binary32, of_bits, le, lt}
use Rattle.lists.specs.All.{all_to}
use Rattle.detectors.specs.Common.{limits_ok}
use Rattle.detectors.specs.Pairs.{Keener}
use Rattle.detectors.specs.Presence.{presence_default, presence_accepted}
use Rattle.detectors.specs.declared.presence.PresenceConfig.{PresenceConfig}
use Rattle.buffer_rules.specs.Settings.{settings_ok, threshold_ok, defaults}
use Rattle.buffer_rules.specs.declared.WindowBufferConfig.{WindowBufferConfig}
use Rattle.window_buffer.specs.Push.{room_of}
use Rattle.slots.specs.Adding.{no_detectors, put_of, add_of}
use Rattle.slots.specs.Slots.{set_ok}
use Rattle.slots.specs.declared.DetectorConfig.TheVariants as given
use Rattle.pipeline.specs.Whole.{lent_ok}
use Rattle.pipeline.specs.Making.{new_of, defaults_of, add_detector_of}
use Rattle.pipeline_laws.specs.Pairs.{Begun, NoHigher, KeenerPipeline}
use Rattle.pipeline_laws.proofs.Beginning.{start_with, adding, new_begun, add-begun, presence_holds, defaults_begun, defaults_hold}

-- 0.01 for 0.02
abbrev keen_buffer : WindowBufferConfig
keen_buffer = record { max_frames = 16; max_duration_ns = 1000000000; presence_threshold = of_bits binary32 0x3c23_d70a }

-- 0.5 for 0.7, 0.25 for 0.45, enter 1 for 2
abbrev keen_presence : PresenceConfig
keen_presence = record { on_threshold = of_bits binary32 0x3f00_0000; off_threshold = of_bits binary32 0x3e80_0000; enter_windows = 1; exit_windows = 3 }

lower : NoHigher defaults keen_buffer
unfolding of_bits le
lower = record { max-frames = refl; max-duration = refl; threshold = tt }

keener : Keener presence_default keen_presence
unfolding presence_default of_bits le
keener = record { on-no-higher = tt; off-no-higher = tt; enter-no-higher = omega arith; exit-no-lower = omega arith }

module _ (session source : ℕ) (A P B M W : List Float) (lent : lent_ok (room_of A P M W) (length B) ≡ true) where
  made : (new_of session source keen_buffer).number ≡ 0
  unfolding new_of settings_ok threshold_ok of_bits le
  made = refl

  begun : Begun session source keen_buffer (start_with (new_of session source keen_buffer).pipeline A P B M W)
  begun = new_begun session source keen_buffer A P B M W made lent

  put : (add_of no_detectors (given.Presence keen_presence)).number ≡ 0
  unfolding no_detectors add_of put_of set_ok all_to presence_accepted limits_ok threshold_ok of_bits le lt
  put = refl

  added : (add_detector_of (new_of session source keen_buffer).pipeline (given.Presence keen_presence)).number ≡ 0
  unfolding new_of add_detector_of
  added = rw begun.in_range put

  pub example : KeenerPipeline session source defaults keen_buffer presence_default keen_presence 0 0 (start_with (defaults_of session source) A P B M W)
      (adding (given.Presence keen_presence) (start_with (new_of session source keen_buffer).pipeline A P B M W))
  unfolding new_of no_detectors
  example =
      record {
        first-begun = defaults_begun session source A P B M W lent;
        second-begun = add-begun begun (given.Presence keen_presence);
        first_holds = defaults_hold session source A P B M W;
        second_holds = presence_holds begun keen_presence added;
        detectors = keener;
        buffers = lower;
        amplitudes = refl;
        phases = refl;
        means = refl;
        variances = refl;
      }
