-- `update_ewma` meets its contract. Assumes nothing.
use Rattle.lists.proofs.Tab.{over_none, over-step}
use lib.Ieee.{nan}
use native.Mathlib.Omega.{arith}
use Rattle.drift.proofs.update_ewma.Goals as goal

pub loop-k-init : goal.loop-k-init
loop-k-init c = over_none _ _

pub loop-k-preserved : goal.loop-k-preserved
loop-k-preserved c = over-step nan c.loop-k.invariant (omega arith) (λ e. rw e)
