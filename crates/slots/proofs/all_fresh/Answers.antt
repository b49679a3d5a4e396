-- `all_fresh` meets its contract.
use native.Mathlib.Omega.{arith}
use mathlib.Core.Path.{refl, sym, ◌∙◌}
use Rattle.lists.proofs.All.{all_none, all_more, all_done}
use Rattle.slots.proofs.Taken.{one_fails, fresh_here}
use Rattle.slots.proofs.all_fresh.Goals as goal

pub loop-i-init : goal.loop-i-init
loop-i-init c = all_none _

pub returns-then-not-fresh : goal.returns-then-not-fresh
returns-then-not-fresh c =
    one_fails _ _ _ c.loop-i-test.true (sym (c.fresh.ensures ∙ fresh_here _ _ _ c.loop-i-test.true) ∙ c.if-not-fresh.true)

pub loop-i-preserved : goal.loop-i-preserved
loop-i-preserved c = all_more c.loop-i.invariant (sym c.if-not-fresh.false ∙ c.fresh.ensures ∙ fresh_here _ _ _ c.loop-i-test.true) refl

pub returns : goal.returns
returns c = all_done c.loop-i.invariant (omega (arith, c.loop-i-test.false, c.loop-i.auto.i-end))
