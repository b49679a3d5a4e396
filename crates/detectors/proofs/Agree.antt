-- Any two replies that a promise allows agree. Where the promise is an equation for the whole reply that is `agree` of floats; where it speaks through a
-- reading on paper, what is read shows the reply. Assumes nothing.
use mathlib.Core.Path.{◌≡◌, refl, sym, ap, ◌∙◌}
use Prim.Native.Nat.{ℕ}
use lib.ListN.{get_or}
use lib.Ieee.{Float}
use Rattle.std.specs.Prelude.{Option, Some, None, Ok, Err}
use Rattle.rvcsi_core.specs.declared.event.CsiEventKind.{CsiEventKind}
use Rattle.rvcsi_core.specs.declared.event.CsiEventKind.TheVariants.{PresenceStarted, PresenceEnded, MotionDetected, MotionSettled, BaselineChanged, SignalQualityDropped, AnomalyDetected, CalibrationRequired}
use Rattle.detectors.specs.declared.Judgement.{Judgement}
use Rattle.detectors.specs.declared.Moved.{Moved}
use Rattle.detectors.specs.declared.presence.PresenceConfig.{PresenceConfig}
use Rattle.detectors.specs.declared.presence.PresenceState.{PresenceState}
use Rattle.detectors.specs.declared.motion.MotionConfig.{MotionConfig}
use Rattle.detectors.specs.declared.motion.MotionState.{MotionState}
use Rattle.detectors.specs.declared.quality.QualityConfig.{QualityConfig}
use Rattle.detectors.specs.declared.quality.QualityState.{QualityState}
use Rattle.detectors.specs.Answers.{Kind, presence-started, presence-ended, motion-detected, motion-settled, baseline-changed, quality-dropped, anomaly, calibration, Said, quiet, event, kind_of, said, further, Result, Answer, taken, refusal}
use Rattle.detectors.specs.Replies.{Made, Reply, on_paper_made, on_paper}
use Rattle.detectors.specs.Presence as presence
use Rattle.detectors.specs.Motion as motion
use Rattle.detectors.specs.Quality as quality

-- a reading that can be undone shows what was read
pub read_agree : {A B : Type 0} (read : A → B) (back : B → A) → ((a : A) → back (read a) ≡ a) → (x : B) (r r' : A) → read r ≡ x → read r' ≡ x → r ≡ r'
read_agree read back undone x r r' e f = sym (undone r) ∙ ap back (e ∙ sym f) ∙ undone r'

-- ---- judgements
unkind : Kind → CsiEventKind
unkind presence-started = PresenceStarted
unkind presence-ended = PresenceEnded
unkind motion-detected = MotionDetected
unkind motion-settled = MotionSettled
unkind baseline-changed = BaselineChanged
unkind quality-dropped = SignalQualityDropped
unkind anomaly = AnomalyDetected
unkind calibration = CalibrationRequired

kind_back : (k : CsiEventKind) → unkind (kind_of k) ≡ k
unfolding unkind
kind_back PresenceStarted = refl
kind_back PresenceEnded = refl
kind_back MotionDetected = refl
kind_back MotionSettled = refl
kind_back BaselineChanged = refl
kind_back SignalQualityDropped = refl
kind_back AnomalyDetected = refl
kind_back CalibrationRequired = refl

unfoldable pub unsaid : Said → Option Judgement
unfolding unkind
unsaid quiet = None
unsaid (event k x) = Some (record { kind = unkind k; confidence = x })

pub unsaid_said : (j : Option Judgement) → unsaid (said j) ≡ j
unfolding unsaid
unsaid_said None = refl
unsaid_said (Some j) = rw (kind_back j.kind)

-- the k-th judgement of a result
abbrev pub judgement : {S : Type 0} → ℕ → Result S → Option Judgement
judgement k r = unsaid (get_or r.judgements k quiet)

-- ---- a detector of any kind
unmade : {S : Type 0} → Answer S → Made S
unmade (taken s) = Ok s
unmade (refusal n) = Err (record {})

made_back : {S : Type 0} (r : Made S) → unmade (on_paper_made r) ≡ r
unfolding unmade
made_back (Ok s) = refl
made_back (Err e) = refl

pub made_agree : {S : Type 0} (x : Answer S) (r r' : Made S) → on_paper_made r ≡ x → on_paper_made r' ≡ x → r ≡ r'
made_agree x r r' = read_agree on_paper_made unmade made_back x r r'

abbrev pub moved_by : {S : Type 0} → Result S → Moved S
moved_by r = record { state = r.state; first = judgement 0 r; second = judgement 1 r }

module _ {S : Type 0} (result : Moved S → Result S) (undone : (m : Moved S) → moved_by (result m) ≡ m) where
  unread : Answer (Result S) → Reply S
  unread (taken r) = Ok (moved_by r)
  unread (refusal n) = Err (record {})

  back : (r : Reply S) → unread (on_paper result r) ≡ r
  unfolding unread
  back (Ok m) = ap Ok (undone m)
  back (Err e) = refl

  pub reply_agree : (x : Answer (Result S)) (r r' : Reply S) → on_paper result r ≡ x → on_paper result r' ≡ x → r ≡ r'
  reply_agree x r r' = read_agree (on_paper result) unread back x r r'

-- one judgement, and a second only where one is said
second_back : (j : Option Judgement) → unsaid (get_or (further j) 0 quiet) ≡ j
unfolding unsaid
second_back None = refl
second_back (Some j) = unsaid_said (Some j)

-- ---- presence
presence_undone : (m : Moved PresenceState) → moved_by (presence.result m) ≡ m
presence_undone m = rw (unsaid_said m.first, second_back m.second)

pub presence_made_agree : (c : PresenceConfig) (r r' : Made PresenceState) → presence.paper_made r ≡ presence.presence_new c → presence.paper_made r' ≡ presence.presence_new c → r ≡ r'
presence_made_agree c r r' = made_agree (presence.presence_new c) r r'

pub presence_agree : (c : PresenceConfig) (s : PresenceState) (p : Float) (r r' : Reply PresenceState) → presence.paper r ≡ presence.presence_step c s p → presence.paper r' ≡ presence.presence_step c s p → r ≡ r'
presence_agree c s p r r' = reply_agree presence.result presence_undone (presence.presence_step c s p) r r'

-- ---- motion
motion_undone : (m : Moved MotionState) → moved_by (motion.result m) ≡ m
motion_undone m = rw (unsaid_said m.first, second_back m.second)

pub motion_made_agree : (c : MotionConfig) (r r' : Made MotionState) → motion.paper_made r ≡ motion.motion_new c → motion.paper_made r' ≡ motion.motion_new c → r ≡ r'
motion_made_agree c r r' = made_agree (motion.motion_new c) r r'

pub motion_agree : (c : MotionConfig) (s : MotionState) (m : Float) (r r' : Reply MotionState) → motion.paper r ≡ motion.motion_step c s m → motion.paper r' ≡ motion.motion_step c s m → r ≡ r'
motion_agree c s m r r' = reply_agree motion.result motion_undone (motion.motion_step c s m) r r'

-- ---- quality
quality_undone : (m : Moved QualityState) → moved_by (quality.result m) ≡ m
quality_undone m = rw (unsaid_said m.first, unsaid_said m.second)

pub quality_made_agree : (c : QualityConfig) (r r' : Made QualityState) → quality.paper_made r ≡ quality.quality_new c → quality.paper_made r' ≡ quality.quality_new c → r ≡ r'
quality_made_agree c r r' = made_agree (quality.quality_new c) r r'

pub quality_agree : (c : QualityConfig) (s : QualityState) (q : Float) (r r' : Reply QualityState) → quality.paper r ≡ quality.quality_step c s q → quality.paper r' ≡ quality.quality_step c s q → r ≡ r'
quality_agree c s q r r' = reply_agree quality.result quality_undone (quality.quality_step c s q) r r'
