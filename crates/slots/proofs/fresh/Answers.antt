-- `fresh` meets its contract.
use Rattle.std.proofs.Common.{rules}
use Rattle.std.specs.Prelude.{◌≡◌, ◌↔◌, true, not, eqb}
use Rattle.std.specs.List.{All}
use Rattle.slots.specs.declared.Detector.{Detector}
use Rattle.slots.specs.declared.Slot.{Slot}
use Rattle.slots.specs.Slots.{kind_number}
use Rattle.slots.proofs.Taken.{taken}
use Rattle.slots.proofs.fresh.Goals as goal

pub returns : goal.returns
returns c =
    let h : c.all.result ≡ true ↔ All (λ (s : Slot). not (eqb (kind_number s.detector) (kind_number c.args.d)) ≡ true) c.args.slots.now = search rules in
    taken (λ (x : Detector). not (eqb (kind_number x) (kind_number c.args.d))) c.args.slots.now c.all.result h
