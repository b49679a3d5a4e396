-- Reading floats: what is left to read, laid over the list, gives what is to be read.
use Rattle.records.proofs.Floats.{Left}
use Rattle.records.proofs.read_floats.Given as goal

abbrev pub invariant-loop-i : goal.invariant-loop-i
invariant-loop-i l = Left l.input l.at l.n l.initial.into l.into l.i
