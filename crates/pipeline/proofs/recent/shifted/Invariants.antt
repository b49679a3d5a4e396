-- The windows behind the oldest come one place forward. Assumes nothing.
use Prim.Native.Nat.{ℕ, ◌≤◌, ◌-◌, ◌+◌}
use lib.ListN.{get_or}
use Rattle.lists.proofs.Tab.{Over}
use Rattle.pipeline.proofs.Windows.{blank}
use Rattle.pipeline.proofs.recent.shifted.Given as goal

abbrev pub invariant-loop-k : goal.invariant-loop-k
invariant-loop-k l = (l.k ≤ 31) × Over (λ (j : ℕ). get_or l.old (j + 1) blank) l.old l.k l.new

abbrev pub decreases-loop-k : goal.decreases-loop-k
decreases-loop-k l = 31 - l.k
