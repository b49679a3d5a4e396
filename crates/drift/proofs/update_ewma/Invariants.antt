-- `update_ewma` meets its contract. Assumes nothing.
use Rattle.drift.specs.Drift.{smoothed}
use Rattle.lists.proofs.Tab.{Over}
use Rattle.drift.proofs.update_ewma.Given as goal

abbrev pub invariant-loop-k : goal.invariant-loop-k
invariant-loop-k l = Over (smoothed l.a l.current l.initial.baseline) l.initial.baseline l.k l.baseline
