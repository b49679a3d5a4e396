-- The sum so far is that of the squares before the place. Assumes nothing.
use Rattle.std.proofs.Common.{◌≡◌}
use lib.Ieee.{binary64}
use Rattle.lists.specs.Squares.{square_at}
use Rattle.lists.specs.Fold.{sum_to}
use Rattle.lists.proofs.squares.Given as goal

abbrev pub invariant-loop-x : goal.invariant-loop-x
invariant-loop-x l = l.sum ≡ sum_to binary64 (square_at l.list) l.x-index
