-- `all_fresh` meets its contract.
use Rattle.lists.proofs.All.{All}
use Rattle.slots.specs.Slots.{fresh_at}
use mathlib.Core.Bool.{true}
use Rattle.slots.proofs.all_fresh.Given as goal

abbrev pub invariant-loop-i : goal.invariant-loop-i
invariant-loop-i l = All (fresh_at l.fn.slots) l.i true
