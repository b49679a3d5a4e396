-- `all_in` meets its contract.
use Rattle.std.proofs.Common.{rules}
use Rattle.std.specs.Prelude.{◌≡◌, ◌↔◌, true}
use Rattle.std.specs.List.{All}
use Rattle.slots.specs.declared.Slot.{Slot}
use Rattle.slots.specs.Slots.{detector_in}
use Rattle.slots.proofs.Taken.{taken}
use Rattle.slots.proofs.all_in.Goals as goal

pub returns : goal.returns
returns c =
    let h : c.all.result ≡ true ↔ All (λ (s : Slot). detector_in s.detector ≡ true) c.args.slots.now = search rules in
    taken detector_in c.args.slots.now c.all.result h
