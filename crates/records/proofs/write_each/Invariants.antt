-- What is left to write, written, gives what is to be written.
use Rattle.records.proofs.Runs.{Left}
use Rattle.records.proofs.write_each.Given as goal

abbrev pub invariant-loop-v : goal.invariant-loop-v
invariant-loop-v g l = Left g.T.Written.bytes l.values l.initial.out l.at l.out l.p l.v-index
