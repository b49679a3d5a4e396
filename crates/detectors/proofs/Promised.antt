-- What `with_config` and `on_window` promise of a detector of any kind, at each of the three: the answer that document 01 has. Assumes nothing.
use mathlib.Core.Path.{◌≡◌, refl, ap, ◌∙◌}
use mathlib.Core.Bool.{Bool, true, false}
use lib.Ieee.{Float}
use Rattle.detectors.specs.declared.Moved.{Moved}
use Rattle.detectors.specs.declared.presence.PresenceConfig.{PresenceConfig}
use Rattle.detectors.specs.declared.presence.PresenceState.{PresenceState}
use Rattle.detectors.specs.declared.motion.MotionConfig.{MotionConfig}
use Rattle.detectors.specs.declared.motion.MotionState.{MotionState}
use Rattle.detectors.specs.declared.quality.QualityConfig.{QualityConfig}
use Rattle.detectors.specs.declared.quality.QualityState.{QualityState}
use Rattle.detectors.specs.Answers.{Result, taken, unless}
use Rattle.detectors.specs.Replies.{Made, made, Reply, judged, on_paper_made, on_paper}
use Rattle.detectors.specs.Presence as presence
use Rattle.detectors.specs.Motion as motion
use Rattle.detectors.specs.Quality as quality

pub made_on_paper : {S : Type 0} (b : Bool) (s : S) → on_paper_made (made b s) ≡ unless b 1 (taken s)
made_on_paper true s = refl
made_on_paper false s = refl

pub judged_on_paper : {S : Type 0} (result : Moved S → Result S) (b : Bool) (m : Moved S) → on_paper result (judged b m) ≡ unless b 14 (taken (result m))
judged_on_paper result true m = refl
judged_on_paper result false m = refl

-- ---- presence
pub presence_made : (c : PresenceConfig) (r : Made PresenceState) → r ≡ made (presence.presence_accepted c) presence.presence_fresh → presence.paper_made r ≡ presence.presence_new c
unfolding presence.presence_new
presence_made c r e = ap on_paper_made e ∙ made_on_paper (presence.presence_accepted c) presence.presence_fresh

pub presence_judged : (c : PresenceConfig) (s : PresenceState) (p : Float) (r : Reply PresenceState) → r ≡ judged (presence.presence_in c s) (presence.presence_move c s p) → presence.paper r ≡ presence.presence_step c s p
unfolding presence.presence_step
presence_judged c s p r e = ap (on_paper presence.result) e ∙ judged_on_paper presence.result (presence.presence_in c s) (presence.presence_move c s p)

-- ---- motion
pub motion_made : (c : MotionConfig) (r : Made MotionState) → r ≡ made (motion.motion_accepted c) motion.motion_fresh → motion.paper_made r ≡ motion.motion_new c
unfolding motion.motion_new
motion_made c r e = ap on_paper_made e ∙ made_on_paper (motion.motion_accepted c) motion.motion_fresh

pub motion_judged : (c : MotionConfig) (s : MotionState) (m : Float) (r : Reply MotionState) → r ≡ judged (motion.motion_in c s) (motion.motion_move c s m) → motion.paper r ≡ motion.motion_step c s m
unfolding motion.motion_step
motion_judged c s m r e = ap (on_paper motion.result) e ∙ judged_on_paper motion.result (motion.motion_in c s) (motion.motion_move c s m)

-- ---- quality
pub quality_made : (c : QualityConfig) (r : Made QualityState) → r ≡ made (quality.quality_accepted c) quality.quality_fresh → quality.paper_made r ≡ quality.quality_new c
unfolding quality.quality_new
quality_made c r e = ap on_paper_made e ∙ made_on_paper (quality.quality_accepted c) quality.quality_fresh

pub quality_judged : (c : QualityConfig) (s : QualityState) (q : Float) (r : Reply QualityState) → r ≡ judged (quality.quality_in c s) (quality.quality_move c s q) → quality.paper r ≡ quality.quality_step c s q
unfolding quality.quality_step
quality_judged c s q r e = ap (on_paper quality.result) e ∙ judged_on_paper quality.result (quality.quality_in c s) (quality.quality_move c s q)
