-- What accepted settings say. Assumes nothing.
use mathlib.Core.Path.{◌≡◌}
use mathlib.Core.Bool.{Bool, true, false, ◌&&◌}
use Prim.Native.Nat.{ℕ, ◌<◌}
use borrow.Author.Tests.{leb-true}
use lib.Dec.{T, leb}
use lib.Ieee.{Float, le, lt}
use Rattle.floats.specs.Clamp.{zero32}
use Rattle.rvcsi_core.specs.Settings.{million, threshold_ok}
use Rattle.detectors.specs.declared.presence.PresenceConfig.{PresenceConfig}
use Rattle.detectors.specs.declared.motion.MotionConfig.{MotionConfig}
use Rattle.detectors.specs.declared.quality.QualityConfig.{QualityConfig}
use Rattle.detectors.specs.Common.{limits_ok, counts_ok}
use Rattle.detectors.specs.Hysteresis.{for}
use Rattle.detectors.specs.Presence.{presence_accepted}
use Rattle.detectors.specs.Motion.{motion_accepted}
use Rattle.detectors.specs.Quality.{quality_accepted}
use Rattle.std.proofs.lemmas.Bool.{and_parts}
use Rattle.std.proofs.lemmas.Float.{T_from_true}

-- the settings of a switch: two thresholds and two counts
pub record Settings (on off : Float) (enter exit : ℕ) : Type 0 where
  pub off-least : T (le zero32 off)
  pub off-most : T (le off million)
  pub on-least : T (le zero32 on)
  pub on-most : T (le on million)
  pub apart : T (lt off on)
  pub some : (b : Bool) → 0 < for b enter exit

module _ (on off : Float) (enter exit : ℕ) where
  counts : 0 < enter → 0 < exit → (b : Bool) → 0 < for b enter exit
  counts e x false = e
  counts e x true = x

  settings : limits_ok on off ≡ true → 0 < enter → 0 < exit → Settings on off enter exit
  unfolding limits_ok threshold_ok
  settings h e x =
      let a = and_parts (threshold_ok on) (threshold_ok off && lt off on) h in
      let b = and_parts (threshold_ok off) (lt off on) a.1 in
      let u = and_parts (le zero32 on) (le on million) a.0 in
      let v = and_parts (le zero32 off) (le off million) b.0 in
      record { off-least = T_from_true _ v.0; off-most = T_from_true _ v.1; on-least = T_from_true _ u.0; on-most = T_from_true _ u.1; apart = T_from_true _ b.1; some = counts e x }

-- two counts, each at least 1
both_some : (a b : ℕ) → counts_ok a b ≡ true → (0 < a) × (0 < b)
both_some a b h = let p = and_parts (leb 1 a) (leb 1 b) h in (leb-true _ _ p.0, leb-true _ _ p.1)

pub presence_settings : (c : PresenceConfig) → presence_accepted c ≡ true → Settings c.on_threshold c.off_threshold c.enter_windows c.exit_windows
unfolding presence_accepted
presence_settings c h =
    let a = and_parts (limits_ok c.on_threshold c.off_threshold) (counts_ok c.enter_windows c.exit_windows) h in
    let n = both_some c.enter_windows c.exit_windows a.1 in
    settings _ _ _ _ a.0 n.0 n.1

pub motion_settings : (c : MotionConfig) → motion_accepted c ≡ true → Settings c.on_threshold c.off_threshold c.debounce_windows c.debounce_windows
unfolding motion_accepted
motion_settings c h =
    let a = and_parts (limits_ok c.on_threshold c.off_threshold) (leb 1 c.debounce_windows) h in
    let n = leb-true _ _ a.1 in
    settings _ _ _ _ a.0 n n

pub record QualitySettings (c : QualityConfig) : Type 0 where
  pub drop-least : T (le zero32 c.drop_threshold)
  pub drop-most : T (le c.drop_threshold million)
  pub debounce-some : 0 < c.debounce_windows
  pub calib-some : 0 < c.calib_windows

pub quality_settings : (c : QualityConfig) → quality_accepted c ≡ true → QualitySettings c
unfolding quality_accepted threshold_ok
quality_settings c h =
    let a = and_parts (threshold_ok c.drop_threshold) (counts_ok c.debounce_windows c.calib_windows) h in
    let n = both_some c.debounce_windows c.calib_windows a.1 in
    let t = and_parts (le zero32 c.drop_threshold) (le c.drop_threshold million) a.0 in
    record { drop-least = T_from_true _ t.0; drop-most = T_from_true _ t.1; debounce-some = n.0; calib-some = n.1 }
