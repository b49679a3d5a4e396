-- The default pipeline is in range from the start, with its stores long enough, and its thresholds are f32 values. Assumes nothing.
use Prim.Native.Nat.{ℕ, zero, suc, ◌≤◌}
use mathlib.Core.Path.{refl}
use mathlib.Core.List.{List}
use native.Mathlib.Omega.{arith}
use lib.ListN.{length}
use lib.Ieee.{Float, of_bits, le, lt, fits}
use Rattle.lists.specs.All.{all_to}
use Rattle.rvcsi_core.specs.declared.ids.Ids.{Ids}
use Rattle.buffer_rules.specs.Settings.{settings_ok, threshold_ok, defaults}
use Rattle.window_buffer.proofs.Range as Range
use Rattle.detectors.specs.Common.{limits_ok}
use Rattle.detectors.specs.Presence.{presence_default, presence_accepted, presence_in}
use Rattle.detectors.specs.Motion.{motion_default, motion_accepted, motion_in}
use Rattle.detectors.specs.Quality.{quality_default, quality_accepted, quality_in}
use Rattle.drift.specs.Settings.{drift_accepted}
use Rattle.drift.specs.Drift.{drift_in}
use Rattle.slots.specs.Limits as Limits
use Rattle.slots.specs.Slots.{set_ok}
use Rattle.slots.proofs.Owed.{Held}
use Rattle.slots.proofs.Sound.{AllSingle}
use Rattle.pipeline.specs.Recents.{none_kept}
use Rattle.pipeline.specs.Making.{default_detectors, defaults_of}
use Rattle.pipeline_laws.proofs.Owed.{Sound}

pub defaults_held : Held default_detectors
unfolding default_detectors set_ok all_to presence_in presence_accepted presence_default motion_in motion_accepted motion_default quality_in quality_accepted quality_default drift_in drift_accepted limits_ok threshold_ok of_bits le lt
defaults_held = record { ok = refl; long = refl }

pub defaults_single : AllSingle default_detectors
unfolding default_detectors motion_default of_bits fits
defaults_single zero h = tt
defaults_single (suc zero) h = tt
defaults_single (suc (suc zero)) h = tt
defaults_single (suc (suc (suc zero))) h = tt
defaults_single (suc (suc (suc (suc k)))) h = absurd (omega arith)

pub defaults_sound : (i : Ids) (session source : ℕ) (A P B M W : List Float) → 4096 ≤ length A → 4096 ≤ length P → Limits.room_of ≤ length B → 256 ≤ length M → 256 ≤ length W
    → Sound (record { ids = i; pipeline = defaults_of session source; amplitudes = A; phases = P; baseline = B; means = M; variances = W })
unfolding defaults_of none_kept settings_ok threshold_ok of_bits le
defaults_sound i session source A P B M W a p b m w =
    record {
      buffer = Range.fresh_sound session source defaults refl;
      detectors = defaults_held;
      recent = omega arith;
      amplitudes = a;
      phases = p;
      baseline = b;
      means = m;
      variances = w;
    }
