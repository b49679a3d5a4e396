-- One window of the drift detector. The baseline stands in a lent store from place 0; other places stay.
use Rattle.std.specs.Prelude.{Bool, true, ◌&&◌, cond, List, [], ◌∷◌, ◌++◌, ℕ, ◌+◌, ◌≤◌, ◌<◌, leb, ltb, eqb, length, get_or, drop, Float, Option, Some, None, Result, Ok, Err}
use Rattle.std.specs.Float.{nan, binary32}
use Rattle.std.specs.Float.Ieee.{lt, add, sub, mul}
use Rattle.floats.specs.Clamp.{one32}
use Rattle.lists.specs.Tab.{tab}
use Rattle.lists.specs.Laid.{laid}
use Rattle.detectors.specs.Common.{over_twice}
use Rattle.detectors.specs.Answers as detector
use Rattle.detectors.specs.Answers.{speaks, said, Answer, taken, refusal, unless}
use Rattle.detectors.specs.declared.Judgement.{Judgement}
use Rattle.rvcsi_core.specs.declared.event.CsiEventKind.TheVariants.{AnomalyDetected, BaselineChanged}
use Rattle.drift.specs.declared.BaselineDriftConfig.{BaselineDriftConfig}
use Rattle.drift.specs.declared.DriftState.{DriftState}
use Rattle.detectors.specs.declared.Moved.{Moved}
use Rattle.drift.specs.declared.DriftRefusal.{DriftRefusal}
use Rattle.drift.specs.declared.DriftRefusal.TheVariants.{StoreShort, OutOfRange, TooLong}
use Rattle.drift.specs.Settings.{drift_accepted}
use Rattle.drift.specs.Distance.{distance_of}

-- the limit of a list and of the baseline, and the places that the store must have
abbrev pub most : ℕ
most = 256

-- "State out of range: .. baseline length above 256"
abbrev pub length_ok : Option ℕ → Bool
length_ok None = true
length_ok (Some n) = leb n most

-- "State out of range: settings that 1 refuses; .. drift streak not below its count"
unfoldable pub drift_in : BaselineDriftConfig → DriftState → Bool
drift_in c s = drift_accepted c && length_ok s.baseline && ltb s.drift_streak c.drift_windows

-- all that a window leaves: the new state with its two judgements, and the store
pub record Drifted : Type 0 where
  pub moved : Moved DriftState
  pub store : List Float

-- a baseline of n values in the store, a streak of k, and what is said
abbrev pub judging : ℕ → ℕ → Option Judgement → Option Judgement → List Float → Drifted
judging n k first second store =
    record { moved = record { state = record { baseline = Some n; drift_streak = k }; first = first; second = second }; store = store }

-- the list becomes the baseline, and nothing is said
abbrev pub begun : ℕ → List Float → List Float → Drifted
begun k cur store = judging (length cur) k None None (laid cur store)

-- "Above anomaly: event"
unfoldable pub anomaly_if : BaselineDriftConfig → Float → Option Judgement
anomaly_if c d = cond (lt c.anomaly_threshold d) (speaks AnomalyDetected (over_twice d c.anomaly_threshold)) None

-- "Above drift: streak"
unfoldable pub streak_of : BaselineDriftConfig → ℕ → Float → ℕ
streak_of c k d = cond (lt c.drift_threshold d) (k + 1) 0

-- "a*current + (1-a)*old in f32", at place k
abbrev pub smoothed : Float → List Float → List Float → ℕ → Float
smoothed a cur old k =
    add binary32 (mul binary32 a (get_or cur k nan)) (mul binary32 (sub binary32 one32 a) (get_or old k nan))

-- "each baseline value becomes" that; other places stay
abbrev pub ewma : Float → List Float → List Float → List Float
ewma a cur store = tab (smoothed a cur store) (length cur) ++ drop (length cur) store

-- at the distance d: "at the count BaselineChanged, the list becomes the baseline and the streak 0. Otherwise" each value moves
unfoldable pub weighed : BaselineDriftConfig → ℕ → Float → List Float → List Float → Drifted
weighed c k d cur store =
    let next = streak_of c k d in
    cond (leb c.drift_windows next)
    (judging (length cur) 0 (anomaly_if c d) (speaks BaselineChanged (over_twice d c.drift_threshold)) (laid cur store))
    (judging (length cur) next (anomaly_if c d) None (ewma c.ewma_alpha cur store))

-- the distance is taken before the baseline moves
unfoldable pub measured : BaselineDriftConfig → ℕ → List Float → List Float → Drifted
measured c k cur store = weighed c k (distance_of cur store) cur store

-- "first list becomes the baseline. A changed length resets baseline and streak, no event"
abbrev pub from : Option ℕ → BaselineDriftConfig → ℕ → List Float → List Float → Drifted
from None c k cur store = begun k cur store
from (Some n) c k cur store = cond (eqb n (length cur)) (measured c k cur store) (begun 0 cur store)

unfoldable pub drift_move : BaselineDriftConfig → DriftState → List Float → List Float → Drifted
drift_move c s cur store = from s.baseline c s.drift_streak cur store

-- what a window needs that no reply refuses: a streak k below its count, a list of n, a store of m
pub record Driving (c : BaselineDriftConfig) (k n m : ℕ) : Type 0 where
  pub below : k < c.drift_windows
  pub few : n ≤ most
  pub room : most ≤ m

-- ---- on paper

-- an anomaly first, then a changed baseline
abbrev pub result : Moved DriftState → detector.Result DriftState
result m = record { state = m.state; judgements = said m.first ∷ said m.second ∷ [] }

-- the reply, and the store after it
pub record Outcome : Type 0 where
  pub reply : Answer (detector.Result DriftState)
  pub store : List Float

-- a refusal leaves the store as it was
abbrev pub leaves : List Float → Answer Drifted → Outcome
leaves store (taken d) = record { reply = taken (result d.moved); store = d.store }
leaves store (refusal n) = record { reply = refusal n; store = store }

-- "Detector: 13 (drift only), 14, 5 (a drift list above 256)"
unfoldable pub drift_step : BaselineDriftConfig → DriftState → List Float → List Float → Outcome
drift_step c s cur store =
    leaves store
    (unless (leb most (length store)) 13
    (unless (drift_in c s) 14
    (unless (leb (length cur) most) 5
    (taken (drift_move c s cur store)))))

-- the state after a window with what is said, or a refusal
abbrev pub Reply : Type 0
Reply = Result (Moved DriftState) DriftRefusal

abbrev pub paper : Reply → Answer (detector.Result DriftState)
paper (Ok m) = taken (result m)
paper (Err StoreShort) = refusal 13
paper (Err OutOfRange) = refusal 14
paper (Err TooLong) = refusal 5
