-- Histories: mean lists from fresh over one store, newest first.
use Rattle.std.specs.Prelude.{Bool, true, false, ◌&&◌, List, [], ◌∷◌, ℕ, zero, suc, ◌≤◌, eqb, length, Float, Option, Some, None}
use Rattle.std.specs.Float.Ieee.{lt}
use Rattle.detectors.specs.Answers.{Said, said, quiet, event}
use Rattle.drift.specs.declared.BaselineDriftConfig.{BaselineDriftConfig}
use Rattle.drift.specs.Settings.{drift_fresh}
use Rattle.drift.specs.Distance.{distance_of}
use Rattle.drift.specs.Drift.{most, Drifted, drift_move}

-- no list above 256
abbrev pub Few : List (List Float) → Type 0
Few [] = Unit
Few (l ∷ past) = (length l ≤ most) × Few past

-- The detector after a history over a store: its state and store, and what it said of the newest list
unfoldable pub drift_run : BaselineDriftConfig → List Float → List (List Float) → Drifted
drift_run c store [] = record { moved = record { state = drift_fresh; first = None; second = None }; store = store }
drift_run c store (l ∷ past) = drift_move c (drift_run c store past).moved.state l (drift_run c store past).store

abbrev pub first_says : BaselineDriftConfig → List Float → List (List Float) → Said
first_says c store past = said (drift_run c store past).moved.first

abbrev pub second_says : BaselineDriftConfig → List Float → List (List Float) → Said
second_says c store past = said (drift_run c store past).moved.second

-- a baseline of n values
abbrev pub holds : Option ℕ → ℕ → Bool
holds None n = false
holds (Some m) n = eqb m n

-- the newest list had its baseline's length, and its distance was above t
unfoldable pub farther : Float → BaselineDriftConfig → List Float → List (List Float) → Bool
farther t c store [] = false
farther t c store (l ∷ past) =
    let was = drift_run c store past in
    holds was.moved.state.baseline (length l) && lt t (distance_of l was.store)

-- the newest list drifted
abbrev pub drifts : BaselineDriftConfig → List Float → List (List Float) → Bool
drifts c store past = farther c.drift_threshold c store past

abbrev pub is_quiet : Said → Bool
is_quiet quiet = true
is_quiet (event k x) = false

-- each of the newest n lists drifted, and gave no BaselineChanged
unfoldable pub drifted_for : BaselineDriftConfig → List Float → ℕ → List (List Float) → Bool
drifted_for c store zero past = true
drifted_for c store (suc n) [] = false
drifted_for c store (suc n) (l ∷ past) =
    drifts c store (l ∷ past) && is_quiet (second_says c store (l ∷ past)) && drifted_for c store n past
