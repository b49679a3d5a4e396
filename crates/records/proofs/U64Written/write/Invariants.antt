-- Writing a number: what is left to write, written, gives what is to be written.
use Rattle.records.proofs.WritingNumbers.{Left}
use Rattle.records.proofs.U64Written.write.Given as goal

abbrev pub invariant-loop-rest : goal.invariant-loop-rest
invariant-loop-rest l = Left l.initial.out l.at l.fn.self l.out l.rest l.p

abbrev pub decreases-loop-rest : goal.decreases-loop-rest
decreases-loop-rest l = l.rest
