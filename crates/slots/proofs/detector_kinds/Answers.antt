-- `detector_kinds` meets its contract.
use native.Mathlib.Omega.{arith}
use mathlib.Core.Path.{◌∙◌, ap}
use Rattle.lists.proofs.Tab.{over_none, over-more, over_done}
use Rattle.slots.specs.Slots.{kind_number}
use Rattle.slots.proofs.Rounds as law
use Rattle.slots.proofs.detector_kinds.Goals as goal

pub loop-i-init : goal.loop-i-init
loop-i-init c = over_none _ _

pub loop-i-preserved : goal.loop-i-preserved
loop-i-preserved c = over-more c.loop-i.invariant (omega (arith, c.min-n.ensures)) (c.kind_number.ensures ∙ ap kind_number c.detector_at.ensures)

pub returns : goal.returns
returns c = law.kinds_are _ _ _ c.min-n.ensures (over_done c.loop-i.invariant (omega arith))
