-- A set that is given windows one after the other, newest first.
use Rattle.std.specs.Prelude.{Bool, false, List, [], ◌∷◌, ℕ, Float}
use Rattle.rvcsi_core.specs.declared.window.CsiWindow.{CsiWindow}
use Rattle.slots.specs.declared.Detector.{Detector}
use Rattle.slots.specs.declared.Detector.TheVariants.{Presence, Motion, Quality, Drift}
use Rattle.slots.specs.declared.Slot.{Slot}
use Rattle.slots.specs.Slots.{step_of}
use Rattle.slots.specs.Judging.{Heard, hear_to}

-- a window with its mean list
pub record Turn : Type 0 where
  pub window : CsiWindow
  pub means : List Float

-- the slots and the store after a history, the first n slots judging
unfoldable pub heard_all : List Slot → ℕ → List Float → List Turn → Heard
heard_all slots n store [] = record { slots = slots; said = []; store = store }
heard_all slots n store (t ∷ past) =
    hear_to (step_of t.window t.means) (heard_all slots n store past).slots (heard_all slots n store past).store n

-- the presence scores of a history
unfoldable pub scores : List Turn → List Float
scores [] = []
scores (t ∷ past) = t.window.presence_score ∷ scores past

-- somebody is there, by the detector
abbrev pub sees : Detector → Bool
sees (Presence c s) = s.present
sees (Motion c s) = false
sees (Quality c s) = false
sees (Drift c s) = false
