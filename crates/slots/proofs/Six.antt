-- A batch has room for all that different kinds say. Assumes nothing.
use Rattle.std.specs.Prelude.{Option, Some, None}
use mathlib.Core.Path.{◌≡◌, refl}
use mathlib.Core.Bool.{Bool, true, false, not, ◌&&◌}
use mathlib.Core.List.{List, [], ◌++◌}
use Prim.Native.Nat.{ℕ, zero, suc, ◌+◌, ◌≤◌}
use native.Mathlib.Omega.{arith}
use lib.Dec.{eqb, leb}
use lib.ListN.{length, length-append}
use lib.Ieee.{Float}
use Rattle.lists.specs.All.{all_to}
use Rattle.std.proofs.lemmas.Bool.{and_parts}
use Rattle.detectors.specs.declared.Judgement.{Judgement}
use Rattle.slots.specs.Limits.{places, most}
use Rattle.slots.specs.declared.Detector.{Detector}
use Rattle.slots.specs.declared.Detector.TheVariants.{Presence, Motion, Quality, Drift}
use Rattle.slots.specs.declared.Detectors.{Detectors}
use Rattle.slots.specs.declared.Slot.{Slot}
use Rattle.rvcsi_core.specs.declared.window.CsiWindow.{CsiWindow}
use Rattle.slots.specs.Slots.{step_of, place_of, part_of, detector_at, kind_number, fresh_at, in_at, set_ok}
use Rattle.slots.specs.Batches.{heard}
use Rattle.slots.specs.Judging.{hear_to}

-- what a kind may say
abbrev most_of : Detector → ℕ
most_of (Presence c s) = 1
most_of (Motion c s) = 1
most_of (Quality c s) = 2
most_of (Drift c s) = 2

one_note : (t : Option Judgement) → length (heard t) ≤ 1
one_note None = omega arith
one_note (Some j) = omega arith

says : (d : Detector) (w : CsiWindow) (means l : List Float) → length (heard (step_of w means d l).first ++ heard (step_of w means d l).second) ≤ most_of d
unfolding step_of
says (Presence c s) w means l = omega (arith, length-append (heard (step_of w means (Presence c s) l).first) [], one_note (step_of w means (Presence c s) l).first)
says (Motion c s) w means l = omega (arith, length-append (heard (step_of w means (Motion c s) l).first) [], one_note (step_of w means (Motion c s) l).first)
says (Quality c s) w means l =
    let r = step_of w means (Quality c s) l in
    omega (arith, length-append (heard r.first) (heard r.second), one_note r.first, one_note r.second)
says (Drift c s) w means l =
    let r = step_of w means (Drift c s) l in
    omega (arith, length-append (heard r.first) (heard r.second), one_note r.first, one_note r.second)

-- no kind k among the first n
abbrev free : List Slot → ℕ → ℕ → Bool
free l k n = all_to (λ i. not (eqb (kind_number (detector_at l i)) k)) n

abbrev left : Bool → ℕ → ℕ
left true n = n
left false n = 0

-- what the kinds that have not come yet may still say
room : List Slot → ℕ → ℕ
room l n = left (free l 0 n) 1 + left (free l 1 n) 1 + left (free l 2 n) 2 + left (free l 3 n) 2

less : (b c : Bool) (n : ℕ) → left (b && c) n ≤ left b n
less true true n = omega arith
less true false n = omega arith
less false c n = omega arith

uses : (l : List Slot) (n : ℕ) (d : Detector) → detector_at l n ≡ d → free l (kind_number d) n ≡ true → most_of d + room l (suc n) ≤ room l n
unfolding room all_to
uses l n (Presence c s) e f = rw (e, f) (omega (arith, less (free l 1 n) true 1, less (free l 2 n) true 2, less (free l 3 n) true 2))
uses l n (Motion c s) e f = rw (e, f) (omega (arith, less (free l 0 n) true 1, less (free l 2 n) true 2, less (free l 3 n) true 2))
uses l n (Quality c s) e f = rw (e, f) (omega (arith, less (free l 0 n) true 1, less (free l 1 n) true 1, less (free l 3 n) true 2))
uses l n (Drift c s) e f = rw (e, f) (omega (arith, less (free l 0 n) true 1, less (free l 1 n) true 1, less (free l 2 n) true 2))

module _ (w : CsiWindow) (means : List Float) (slots : List Slot) (store : List Float) where
  within : (n : ℕ) → all_to (fresh_at slots) n ≡ true → length (hear_to (step_of w means) slots store n).said + room slots n ≤ most
  unfolding hear_to all_to
  within zero e = unfold room in lib.Dec.lit≤ tt
  within (suc n) e =
      let a = and_parts (all_to (fresh_at slots) n) (fresh_at slots n) e in
      let h = hear_to (step_of w means) slots store n in
      let r = step_of w means (detector_at slots n) (part_of (place_of n) h.store) in
      omega (arith, within n a.0, uses slots n (detector_at slots n) refl a.1, says (detector_at slots n) w means (part_of (place_of n) h.store), length-append h.said (heard r.first ++ heard r.second))

-- NOTHING IS DROPPED: "a batch of at most six"
pub six_at_most : (s : Detectors) (w : CsiWindow) (means store : List Float) → set_ok s ≡ true → length (hear_to (step_of w means) s.slots store s.count).said ≤ most
unfolding set_ok
six_at_most s w means store e =
    let a = and_parts (leb s.count places) (all_to (in_at s.slots) s.count && all_to (fresh_at s.slots) s.count) e in
    let b = and_parts (all_to (in_at s.slots) s.count) (all_to (fresh_at s.slots) s.count) a.1 in
    omega (arith, within w means s.slots store s.count b.1)
