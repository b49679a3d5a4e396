-- The widths of the numbers passed, and those left, are the whole.
use Rattle.records.proofs.Runs.{Summed}
use Rattle.records.proofs.numbers_width.Given as goal

abbrev pub invariant-loop-v : goal.invariant-loop-v
invariant-loop-v l = Summed l.vs l.sum l.v-index
