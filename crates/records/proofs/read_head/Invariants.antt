-- Reading the six numbers: a number a turn.
use Rattle.records.proofs.Heads.{Known}
use Rattle.records.proofs.read_head.Given as goal

abbrev pub invariant-loop-i : goal.invariant-loop-i
invariant-loop-i l = Known l.input l.at l.v l.p l.i
