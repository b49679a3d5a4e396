-- Judgements and answers as document 01 has them.
use Rattle.std.specs.Prelude.{Bool, true, false, List, [], ◌∷◌, ℕ, T, Float, Option, Some, None}
use Rattle.rvcsi_core.specs.Score.{score_ok}
use Rattle.detectors.specs.declared.Judgement.{Judgement}
use Rattle.rvcsi_core.specs.declared.event.CsiEventKind.{CsiEventKind}
use Rattle.rvcsi_core.specs.declared.event.CsiEventKind.TheVariants.{PresenceStarted, PresenceEnded, MotionDetected, MotionSettled, BaselineChanged, SignalQualityDropped, AnomalyDetected, CalibrationRequired}

-- "Kinds: presence-started, presence-ended, motion-detected, motion-settled, baseline-changed, quality-dropped, anomaly, calibration."
pub data Kind : Type 0 where
  presence-started presence-ended motion-detected motion-settled baseline-changed quality-dropped anomaly calibration : Kind

-- "a judgement is quiet or an event carrying its confidence"
pub data Said : Type 0 where
  quiet : Said
  event : Kind → Float → Said

abbrev pub kind_of : CsiEventKind → Kind
kind_of PresenceStarted = presence-started
kind_of PresenceEnded = presence-ended
kind_of MotionDetected = motion-detected
kind_of MotionSettled = motion-settled
kind_of BaselineChanged = baseline-changed
kind_of SignalQualityDropped = quality-dropped
kind_of AnomalyDetected = anomaly
kind_of CalibrationRequired = calibration

abbrev pub said : Option Judgement → Said
said None = quiet
said (Some j) = event (kind_of j.kind) j.confidence

-- a judgement of a kind, with its confidence
abbrev pub speaks : CsiEventKind → Float → Option Judgement
speaks k x = Some (record { kind = k; confidence = x })

-- what stands behind the first judgement: nothing where nothing is said
abbrev pub further : Option Judgement → List Said
further None = []
further (Some j) = said (Some j) ∷ []

-- "an event valid exactly when its confidence is from 0 to 1"; a NaN isn't
abbrev pub Valid : Said → Type 0
Valid quiet = Unit
Valid (event k x) = T (score_ok x)

-- What reply 0 to a window returns: the state after it, and its judgements: "quality and drift give up to two, in the order below"
pub record Result (S : Type 0) : Type 0 where
  pub state : S
  pub judgements : List Said

-- A row of "Reply numbers": 0 with its result, or another number with nothing
pub data Answer (A : Type 0) : Type 0 where
  taken : A → Answer A
  refusal : ℕ → Answer A

-- a refusal unless the test holds
abbrev pub unless : {A : Type 0} → Bool → ℕ → Answer A → Answer A
unless true n rest = rest
unless false n rest = refusal n
