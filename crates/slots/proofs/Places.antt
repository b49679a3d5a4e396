-- What is true of one detector, for any place. Assumes nothing.
use mathlib.Core.Path.{◌≡◌, refl, ap, ◌∙◌}
use mathlib.Core.Logic.{⊎_elim}
use mathlib.Core.List.{List, [], ◌∷◌}
use Prim.Native.Nat.{ℕ, zero, suc, ◌≤◌, ◌<◌}
use native.Mathlib.Nat.{not-suc-le-zero, eq-or-lt_of_le, le_of_suc-le-suc}
use native.Mathlib.Omega.{arith}
use lib.ListN.{length, length-set}
use lib.Seq.{get_or-set_same, get_or-set_other}
use lib.Ieee.{Float}
use Rattle.rvcsi_core.specs.declared.window.CsiWindow.{CsiWindow}
use Rattle.detectors.specs.declared.presence.PresenceConfig.{PresenceConfig}
use Rattle.detectors.specs.declared.presence.PresenceState.{PresenceState}
use Rattle.detectors.specs.Presence.{presence_fresh, presence_move, presence_run}
use Rattle.slots.specs.declared.Detector.{Detector}
use Rattle.slots.specs.declared.Detector.TheVariants.{Presence}
use Rattle.slots.specs.declared.Slot.{Slot}
use Rattle.slots.specs.Slots.{Step, step_of, place_of, part_of, detector_at, blank}
use Rattle.slots.specs.Judging.{Stepping, hear_to}
use Rattle.slots.specs.Runs.{Turn, heard_all, scores}

module _ (step : Stepping) (slots : List Slot) (store : List Float) where
  -- the step of slot i
  abbrev step_at : ℕ → Step
  step_at i = step (detector_at slots i) (part_of (place_of i) (hear_to step slots store i).store)

  pub as_many : (n : ℕ) → length (hear_to step slots store n).slots ≡ length slots
  unfolding hear_to
  as_many zero = refl
  as_many (suc n) = length-set (hear_to step slots store n).slots n (record { detector = (step_at n).detector }) ∙ as_many n

  -- THE LAW FOR ONE SLOT: after all, it is what its own step made of it
  pub its_own : (n i : ℕ) → i < n → n ≤ length slots → detector_at (hear_to step slots store n).slots i ≡ (step_at i).detector
  unfolding hear_to
  its_own zero i h l = absurd (not-suc-le-zero h)
  its_own (suc n) i h l =
      let s : Slot = record { detector = (step_at n).detector } in
      let before = (hear_to step slots store n).slots in
      ⊎_elim
      (λ (q : i ≡ n). rw q (ap (λ (x : Slot). x.detector) (get_or-set_same before n s blank (omega (arith, as_many n)))))
      (λ (q : i < n). ap (λ (x : Slot). x.detector) (get_or-set_other before n i s blank (λ e. absurd (omega arith))) ∙ its_own n i q (omega arith))
      (eq-or-lt_of_le (le_of_suc-le-suc h))

-- a presence detector at any place is stepped by the score alone
pub presence_slot : (w : CsiWindow) (means : List Float) (slots : List Slot) (store : List Float) (n i : ℕ) → i < n → n ≤ length slots → (c : PresenceConfig) (s : PresenceState) → detector_at slots i ≡ Presence c s
    → detector_at (hear_to (step_of w means) slots store n).slots i ≡ Presence c (presence_move c s w.presence_score).state
unfolding step_of
presence_slot w means slots store n i h l c s e =
    its_own (step_of w means) slots store n i h l ∙ ap (λ (d : Detector). (step_of w means d (part_of (place_of i) (hear_to (step_of w means) slots store i).store)).detector) e

-- and so after any history from fresh: it stands where it would stand alone, so that its history's theorems speak of it
module _ (slots : List Slot) (n : ℕ) (store : List Float) where
  pub as-many-all : (past : List Turn) → length (heard_all slots n store past).slots ≡ length slots
  unfolding heard_all
  as-many-all [] = refl
  as-many-all (t ∷ past) = as_many (step_of t.window t.means) (heard_all slots n store past).slots (heard_all slots n store past).store n ∙ as-many-all past

  pub presence-alone : (i : ℕ) → i < n → n ≤ length slots → (c : PresenceConfig) → detector_at slots i ≡ Presence c presence_fresh → (past : List Turn)
      → detector_at (heard_all slots n store past).slots i ≡ Presence c (presence_run c (scores past)).state
  unfolding heard_all presence_run scores
  presence-alone i h l c e [] = e
  presence-alone i h l c e (t ∷ past) =
      presence_slot t.window t.means (heard_all slots n store past).slots (heard_all slots n store past).store n i h (omega (arith, as-many-all past)) c (presence_run c (scores past)).state
      (presence-alone i h l c e past)
