-- `detector_kinds` meets its contract.
use Rattle.lists.proofs.Tab.{Over}
use Rattle.slots.specs.Slots.{kind_at}
use Rattle.slots.proofs.detector_kinds.Given as goal

abbrev pub invariant-loop-i : goal.invariant-loop-i
invariant-loop-i l = Over (kind_at l.slots) l.initial.numbers l.i l.numbers
