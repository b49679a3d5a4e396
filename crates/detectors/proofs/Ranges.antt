-- The fresh state is in range, and after any window a state in range is so again. Assumes nothing.
use mathlib.Core.Path.{◌≡◌, refl, sym, subst}
use mathlib.Core.Bool.{Bool, true, false, not, cond}
use Prim.Native.Nat.{ℕ, ◌+◌, ◌<◌, min}
use native.Mathlib.Omega.{arith}
use borrow.Author.Tests.{le-leb, lt-ltb, leb-false}
use lib.Dec.{leb, ltb}
use lib.Ieee.{Float, binary32, le, lt, sub}
use Rattle.floats.specs.Clamp.{one32, clamp_of}
use Rattle.detectors.specs.declared.presence.PresenceConfig.{PresenceConfig}
use Rattle.detectors.specs.declared.presence.PresenceState.{PresenceState}
use Rattle.detectors.specs.declared.motion.MotionConfig.{MotionConfig}
use Rattle.detectors.specs.declared.motion.MotionState.{MotionState}
use Rattle.detectors.specs.declared.quality.QualityConfig.{QualityConfig}
use Rattle.detectors.specs.declared.quality.QualityState.{QualityState}
use Rattle.detectors.specs.Hysteresis.{for, moved, move}
use Rattle.detectors.specs.Presence.{presence_accepted, presence_in, presence_move, presence_fresh}
use Rattle.detectors.specs.Motion.{motion_accepted, motion_in, motion_move, motion_fresh}
use Rattle.detectors.specs.Quality.{quality_accepted, quality_in, quality_move, quality_fresh, top, low, good}
use Rattle.std.proofs.lemmas.Bool.{and_from, and_parts}
use Rattle.detectors.proofs.Turned.{for_same}
use Rattle.detectors.proofs.Accepted.{presence_settings, motion_settings}

-- ---- a switch
module _ (enter exit : ℕ) (some : (b : Bool) → 0 < for b enter exit) where
  counted : (b full : Bool) (k : ℕ) → full ≡ leb (for b enter exit) (k + 1) → (moved b true full k).streak < for (moved b true full k).on enter exit
  counted b true k g = some (not b)
  counted b false k g = leb-false _ _ (sym g)

  pub below : (b t : Bool) (k : ℕ) → (moved b t (leb (for b enter exit) (k + 1)) k).streak < for (moved b t (leb (for b enter exit) (k + 1)) k).on enter exit
  below b true k = counted b _ k refl
  below b false k = some b

-- ---- presence
module _ (c : PresenceConfig) (s : PresenceState) (h : presence_in c s ≡ true) where
  parts : (presence_accepted c ≡ true) × (ltb s.streak (for s.present c.enter_windows c.exit_windows) ≡ true)
  unfolding presence_in
  parts = and_parts (presence_accepted c) (ltb s.streak (for s.present c.enter_windows c.exit_windows)) h

  pub presence-stays : (p : Float) → presence_in c (presence_move c s p).state ≡ true
  unfolding presence_in presence_move move
  presence-stays p =
      and_from _ _ parts.0
      (lt-ltb _ _ (below c.enter_windows c.exit_windows (presence_settings c parts.0).some s.present (for s.present (le c.on_threshold p) (le p c.off_threshold)) s.streak))

pub presence_begins : (c : PresenceConfig) → presence_accepted c ≡ true → presence_in c presence_fresh ≡ true
unfolding presence_in
presence_begins c h = and_from _ _ h (lt-ltb _ _ ((presence_settings c h).some false))

-- ---- motion
module _ (c : MotionConfig) (s : MotionState) (h : motion_in c s ≡ true) where
  motion-parts : (motion_accepted c ≡ true) × (ltb s.streak c.debounce_windows ≡ true)
  unfolding motion_in
  motion-parts = and_parts (motion_accepted c) (ltb s.streak c.debounce_windows) h

  pub motion-stays : (m : Float) → motion_in c (motion_move c s m).state ≡ true
  unfolding motion_in motion_move move
  motion-stays m =
      let n = c.debounce_windows in
      let r = moved s.moving (for s.moving (lt c.on_threshold m) (lt m c.off_threshold)) (leb (for s.moving n n) (s.streak + 1)) s.streak in
      let b : r.streak < for r.on n n = below n n (motion_settings c motion-parts.0).some s.moving (for s.moving (lt c.on_threshold m) (lt m c.off_threshold)) s.streak in
      and_from _ _ motion-parts.0 (lt-ltb _ _ (subst (λ (x : ℕ). r.streak < x) (for_same r.on n) b))

pub motion_begins : (c : MotionConfig) → motion_accepted c ≡ true → motion_in c motion_fresh ≡ true
unfolding motion_in
motion_begins c h = and_from _ _ h (lt-ltb _ _ ((motion_settings c h).some false))

-- ---- quality
held : (c : QualityConfig) (s : QualityState) (x : Float) (b : Bool) → leb (cond b (low c s (min (s.low_streak + 1) (top c)) x) good).state.low_streak (top c) ≡ true
held c s x true = le-leb (min (s.low_streak + 1) (top c)) (top c) (omega arith)
held c s x false = le-leb 0 (top c) (omega arith)

module _ (c : QualityConfig) (s : QualityState) (h : quality_in c s ≡ true) where
  quality-parts : (quality_accepted c ≡ true) × (leb s.low_streak (top c) ≡ true)
  unfolding quality_in
  quality-parts = and_parts (quality_accepted c) (leb s.low_streak (top c)) h

  pub quality-stays : (q : Float) → quality_in c (quality_move c s q).state ≡ true
  unfolding quality_in quality_move
  quality-stays q = and_from _ _ quality-parts.0 (held c s (clamp_of (sub binary32 one32 q)) (lt q c.drop_threshold))

pub quality_begins : (c : QualityConfig) → quality_accepted c ≡ true → quality_in c quality_fresh ≡ true
unfolding quality_in
quality_begins c h = and_from _ _ h (le-leb 0 (top c) (omega arith))
