-- The sum so far is that of the squares of the differences before the place. Assumes nothing.
use Rattle.std.proofs.Common.{◌≡◌, length}
use lib.Ieee.{binary64}
use Rattle.lists.specs.Squares.{away_at}
use Rattle.lists.specs.Fold.{sum_to}
use Rattle.lists.proofs.squares_away.Given as goal

abbrev pub invariant-loop-x : goal.invariant-loop-x
invariant-loop-x l = l.sum ≡ sum_to binary64 (away_at l.list l.from) (length l.yielded)
