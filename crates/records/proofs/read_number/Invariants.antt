-- Reading a number: what the bytes from `at` say is what those from p say, after i bytes that have shown `value`, with `weight` that of the next.
use Rattle.records.proofs.ReadingNumbers.{Known}
use Rattle.records.proofs.read_number.Given as goal

abbrev pub invariant-loop-i : goal.invariant-loop-i
invariant-loop-i l = Known l.input l.at l.value l.weight l.i l.p
