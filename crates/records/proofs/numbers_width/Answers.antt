-- The widths of numbers in a row: one a turn.
use Rattle.std.proofs.Common.{arith}
use Rattle.records.proofs.Runs.{summed_more, summed_all}
use Rattle.records.proofs.numbers_width.Goals as goal

pub loop-v-preserved : goal.loop-v-preserved
loop-v-preserved c = summed_more _ _ _ _ c.loop-v-test.true c.number_width-sum.ensures c.loop-v.invariant

pub returns : goal.returns
returns c = let e = summed_all _ _ _ c.loop-v-test.false c.loop-v.invariant in (e.0, omega arith)
