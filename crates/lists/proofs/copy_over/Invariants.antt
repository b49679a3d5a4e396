-- What is copied so far stands over the front of the store. Assumes nothing.
use Prim.Native.Nat.{◌≤◌, ◌-◌}
use lib.ListN.{get_or}
use lib.Ieee.{nan}
use Rattle.lists.proofs.Tab.{Over}
use Rattle.lists.proofs.copy_over.Given as goal

abbrev pub invariant-loop-k : goal.invariant-loop-k
invariant-loop-k l = (l.k ≤ l.n) × Over (λ i. get_or l.list i nan) l.initial.store l.k l.store

abbrev pub decreases-loop-k : goal.decreases-loop-k
decreases-loop-k l = l.n - l.k
