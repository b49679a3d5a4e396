-- A detector by itself, made by `with_config` and given windows by `on_window`. Definitions only.
use Rattle.std.specs.Prelude.{ℕ, List, [], ◌∷◌, ◌++◌, Option, Some, None, cond, eqb, length, Float}
use Rattle.detectors.specs.Answers as detector
use Rattle.drift.specs.Distance.{distance_of}
use Rattle.drift.specs.Drift.{drift_step}
use Rattle.drift.specs.declared.BaselineDriftConfig.{BaselineDriftConfig}
use Rattle.drift.specs.declared.DriftState.{DriftState}
use Rattle.worked.specs.Rows.{Fact, event, distance}
use Rattle.worked.specs.Runs.{Reply, goes, stops}

-- the events among the judgements
unfoldable pub told : List detector.Said → List Fact
told [] = []
told (detector.quiet ∷ l) = told l
told (detector.event k x ∷ l) = event k x ∷ told l

abbrev pub made : {S : Type 0} → detector.Answer S → Reply S
made (detector.taken s) = goes s []
made (detector.refusal n) = stops n

abbrev pub judged : {S : Type 0} → detector.Answer (detector.Result S) → Reply S
judged (detector.taken r) = goes r.state (told r.judgements)
judged (detector.refusal n) = stops n

-- ---- drift has its baseline in a store

pub record Drifting : Type 0 where
  pub state : DriftState
  pub store : List Float

-- the store beside the state, and facts before the others
abbrev pub beside : List Float → List Fact → Reply DriftState → Reply Drifting
beside store first (goes s facts) = goes (record { state = s; store = store }) (first ++ facts)
beside store first (stops why) = stops why

-- the distance that a list is judged by, where there is a baseline of its length
abbrev pub distances : Option ℕ → List Float → List Float → List Fact
distances None l store = []
distances (Some n) l store = cond (eqb n (length l)) (distance (distance_of l store) ∷ []) []

unfoldable pub drift_on : BaselineDriftConfig → Drifting → List Float → Reply Drifting
drift_on c s l =
    let o = drift_step c s.state l s.store in
    beside o.store (distances s.state.baseline l s.store) (judged o.reply)
