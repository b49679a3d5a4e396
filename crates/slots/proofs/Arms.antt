-- A detector taken apart: what each arm of the code needs, and makes. Assumes nothing.
use mathlib.Core.Path.{◌≡◌, sym, ap, ◌∙◌}
use mathlib.Core.List.{List}
use Prim.Native.Nat.{ℕ}
use lib.ListN.{length}
use lib.Ieee.{Float}
use Rattle.rvcsi_core.specs.declared.window.CsiWindow.{CsiWindow}
use Rattle.detectors.specs.declared.presence.PresenceConfig.{PresenceConfig}
use Rattle.detectors.specs.declared.presence.PresenceState.{PresenceState}
use Rattle.detectors.specs.declared.Moved.{Moved}
use Rattle.detectors.specs.declared.motion.MotionConfig.{MotionConfig}
use Rattle.detectors.specs.declared.motion.MotionState.{MotionState}
use Rattle.detectors.specs.declared.quality.QualityConfig.{QualityConfig}
use Rattle.detectors.specs.declared.quality.QualityState.{QualityState}
use Rattle.drift.specs.declared.BaselineDriftConfig.{BaselineDriftConfig}
use Rattle.drift.specs.declared.DriftState.{DriftState}
use Rattle.std.specs.Prelude.{Ok, Err}
use Rattle.drift.specs.declared.DriftRefusal.{DriftRefusal}
use Rattle.detectors.specs.Presence.{presence_move}
use Rattle.detectors.specs.Motion.{motion_move}
use Rattle.detectors.specs.Quality.{quality_move}
use Rattle.drift.specs.Drift.{drift_move, Drifted, Reply, drift_step}
use Rattle.drift.proofs.Agree.{outcome, judged_by, taken_judged}
use Rattle.slots.specs.declared.Detector.{Detector}
use Rattle.slots.specs.declared.Detector.TheVariants.{Presence, Motion, Quality, Drift}
use Rattle.slots.specs.Slots.{by_quality, by_drift, step_of, Ready}

pub drift_ready : {d : Detector} {n m : ℕ} → Ready d n m → (c : BaselineDriftConfig) (s : DriftState) → d ≡ Drift c s → Ready (Drift c s) n m
drift_ready r c s e = record { fine = rw e at r.fine; few = r.few; room = r.room }

-- a drift detector's reply where no refusal comes
module _ (c : BaselineDriftConfig) (s : DriftState) (means l l' : List Float) (r : Reply) (ready : Ready (Drift c s) (length means) (length l)) (is-r : outcome r l' ≡ drift_step c s means l) where
  answered : (r ≡ judged_by (drift_move c s means l).moved) × (l' ≡ (drift_move c s means l).store)
  answered = taken_judged c s means l ready.fine ready.few ready.room r l' is-r

  pub drift-judged : (m : Moved DriftState) → r ≡ Ok m → record { detector = Drift c m.state; first = m.first; second = m.second; baseline = l' } ≡ by_drift c (drift_move c s means l)
  drift-judged m e =
      let h : Ok m ≡ judged_by (drift_move c s means l).moved = sym e ∙ answered.0 in
      let a : m ≡ (drift_move c s means l).moved = cc in
      rw (a, answered.1)

  pub never-refused : (e : DriftRefusal) → r ≡ Err e → ⊥
  never-refused e k = let h : Err e ≡ judged_by (drift_move c s means l).moved = sym k ∙ answered.0 in cc

  -- the same of an arm that is told that no judgement came
  pub never-other : ((m : Moved DriftState) → r ≡ Ok m → ⊥) → ⊥
  never-other k = k (drift_move c s means l).moved answered.0

module _ (d : Detector) (w : CsiWindow) (means l : List Float) where
  pub by-presence : (c : PresenceConfig) (s : PresenceState) (m : Moved PresenceState) → d ≡ Presence c s → m ≡ presence_move c s w.presence_score → record { detector = Presence c m.state; first = m.first; second = m.second; baseline = l } ≡ step_of w means d l
  unfolding step_of presence_move
  by-presence c s m e h = rw (e, h)

  pub by-motion : (c : MotionConfig) (s : MotionState) (m : Moved MotionState) → d ≡ Motion c s → m ≡ motion_move c s w.motion_energy → record { detector = Motion c m.state; first = m.first; second = m.second; baseline = l } ≡ step_of w means d l
  unfolding step_of motion_move
  by-motion c s m e h = rw (e, h)

  pub by-quality : (c : QualityConfig) (s : QualityState) (m : Moved QualityState) → d ≡ Quality c s → m ≡ quality_move c s w.quality_score → by_quality c m l ≡ step_of w means d l
  unfolding step_of
  by-quality c s m e h = rw e (ap (λ (x : Moved QualityState). by_quality c x l) h)

  pub by-drift : (c : BaselineDriftConfig) (s : DriftState) (m : Drifted) → d ≡ Drift c s → m ≡ drift_move c s means l → by_drift c m ≡ step_of w means d l
  unfolding step_of
  by-drift c s m e h = rw e (ap (by_drift c) h)
