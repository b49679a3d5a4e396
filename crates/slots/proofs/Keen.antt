-- Demand 3 for two sets of detectors: at whatever places their presence detectors stand, and whatever else they hold. Assumes nothing.
use Prim.Native.Nat.{ℕ, ◌≤◌, ◌<◌}
use mathlib.Core.Path.{◌≡◌, refl, sym, ap, ◌∙◌}
use mathlib.Core.Bool.{true}
use mathlib.Core.List.{List, [], ◌∷◌, map}
use lib.ListN.{length}
use lib.Ieee.{Float}
use Rattle.detectors.specs.declared.presence.PresenceConfig.{PresenceConfig}
use Rattle.detectors.specs.Presence.{presence_accepted, presence_fresh, presence_run}
use Rattle.detectors.specs.Pairs.{Pair, EachNoLower, Keener}
use Rattle.detectors.proofs.Monotone.{demand_3}
use Rattle.slots.specs.declared.Detector.TheVariants.{Presence}
use Rattle.slots.specs.declared.Slot.{Slot}
use Rattle.slots.specs.Slots.{detector_at}
use Rattle.slots.specs.Runs.{Turn, heard_all, scores, sees}
use Rattle.slots.proofs.Places.{presence-alone}

-- a window of the first set with one of the second
pub record Turns : Type 0 where
  pub first : Turn
  pub second : Turn

abbrev pub firsts : List Turns → List Turn
firsts l = map (λ (t : Turns). t.first) l

abbrev pub seconds : List Turns → List Turn
seconds l = map (λ (t : Turns). t.second) l

-- the presence scores of each pair
abbrev pub pairs : List Turns → List Pair
pairs l = map (λ (t : Turns). record { first = t.first.window.presence_score; second = t.second.window.presence_score }) l

first_scores : (l : List Turns) → scores (firsts l) ≡ map (λ (w : Pair). w.first) (pairs l)
unfolding scores
first_scores [] = refl
first_scores (t ∷ l) = ap (λ (r : List Float). t.first.window.presence_score ∷ r) (first_scores l)

second_scores : (l : List Turns) → scores (seconds l) ≡ map (λ (w : Pair). w.second) (pairs l)
unfolding scores
second_scores [] = refl
second_scores (t ∷ l) = ap (λ (r : List Float). t.second.window.presence_score ∷ r) (second_scores l)

module _ (slots : List Slot) (n : ℕ) (store : List Float) (i : ℕ) (h : i < n) (l : n ≤ length slots) (c : PresenceConfig) (e : detector_at slots i ≡ Presence c presence_fresh) where
  seen : (past : List Turn) → sees (detector_at (heard_all slots n store past).slots i) ≡ (presence_run c (scores past)).state.present
  seen past = ap sees (presence-alone slots n store i h l c e past)

-- the first set's detector at i, fresh with settings c; the second's at j, fresh with settings d
pub sets_keep : (c d : PresenceConfig) → presence_accepted c ≡ true → presence_accepted d ≡ true → Keener c d
    → (slots slots' : List Slot) (n n' : ℕ) (store store' : List Float) (i j : ℕ) → i < n → j < n' → n ≤ length slots → n' ≤ length slots'
    → detector_at slots i ≡ Presence c presence_fresh → detector_at slots' j ≡ Presence d presence_fresh → (windows : List Turns) → EachNoLower (pairs windows)
    → sees (detector_at (heard_all slots n store (firsts windows)).slots i) ≡ true → sees (detector_at (heard_all slots' n' store' (seconds windows)).slots j) ≡ true
sets_keep c d ok ok' keener slots slots' n n' store store' i j hi hj l l' ei ej windows each here =
    seen slots' n' store' j hj l' d ej (seconds windows)
    ∙ ap (λ (s : List Float). (presence_run d s).state.present) (second_scores windows)
    ∙ demand_3 c d ok ok' keener (pairs windows) each
    (sym (ap (λ (s : List Float). (presence_run c s).state.present) (first_scores windows)) ∙ sym (seen slots n store i hi l c ei (firsts windows)) ∙ here)
