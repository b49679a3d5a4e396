-- `records::number_width` meets its contract.
-- Assumes nothing.
use Rattle.records.proofs.WritingNumbers.{Counted}
use Rattle.records.proofs.number_width.Given as goal

abbrev pub invariant-loop-rest : goal.invariant-loop-rest
invariant-loop-rest l = Counted l.v l.rest l.n

abbrev pub decreases-loop-rest : goal.decreases-loop-rest
decreases-loop-rest l = l.rest
