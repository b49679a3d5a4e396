-- What accepted settings say. Assumes nothing.
use mathlib.Core.Path.{◌≡◌, refl}
use mathlib.Core.Bool.{Bool, true, false, ◌&&◌, false≢true}
use Prim.Native.Nat.{◌<◌}
use borrow.Author.Tests.{leb-true}
use lib.Dec.{T, leb}
use lib.Ieee.{Float, le, lt}
use Rattle.floats.specs.Clamp.{zero32, one32}
use Rattle.rvcsi_core.specs.Settings.{million, threshold_ok}
use Rattle.rvcsi_core.proofs.Tested.{parts}
use Rattle.std.proofs.lemmas.Float.{T_from_true}
use Rattle.detectors.specs.Common.{limits_ok}
use Rattle.drift.specs.declared.BaselineDriftConfig.{BaselineDriftConfig}
use Rattle.drift.specs.Settings.{drift_accepted}

four : (a d o n z u : Bool) → ((a && (d && o)) && n && z && u) ≡ true → (a ≡ true) × (d ≡ true) × (o ≡ true) × (n ≡ true)
four true true true true z u h = (refl, refl, refl, refl)
four true true true false z u h = absurd (false≢true h)
four true true false n z u h = absurd (false≢true h)
four true false o n z u h = absurd (false≢true h)
four false d o n z u h = absurd (false≢true h)

-- a threshold from 0 to 1,000,000
pub record Threshold (t : Float) : Type 0 where
  pub least : T (le zero32 t)
  pub most : T (le t million)

threshold : (t : Float) → threshold_ok t ≡ true → Threshold t
unfolding threshold_ok
threshold t h = let p = parts (le zero32 t) (le t million) (T_from_true _ h) in record { least = p.0; most = p.1 }

pub record Settings (c : BaselineDriftConfig) : Type 0 where
  pub drift : Threshold c.drift_threshold
  pub anomaly : Threshold c.anomaly_threshold
  pub some : 0 < c.drift_windows

pub settings : (c : BaselineDriftConfig) → drift_accepted c ≡ true → Settings c
unfolding drift_accepted limits_ok
settings c h =
    let p = four (threshold_ok c.anomaly_threshold) (threshold_ok c.drift_threshold) (lt c.drift_threshold c.anomaly_threshold) (leb 1 c.drift_windows) (lt zero32 c.ewma_alpha) (le c.ewma_alpha one32) h in
    record { drift = threshold c.drift_threshold p.1; anomaly = threshold c.anomaly_threshold p.0; some = leb-true 1 c.drift_windows p.3 }
