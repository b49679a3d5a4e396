-- Writing a number: a byte a turn.
use Rattle.records.proofs.WritingNumbers.{left_all, left_more, left_last, next_place}
use Rattle.std.proofs.Common.{arith}
use Rattle.records.proofs.U64Written.write.Goals as goal

pub loop-rest-init : goal.loop-rest-init
loop-rest-init c = left_all _ c.args.at c.args.self c.ranges.self.fits

pub bounds-out-p : goal.bounds-out-p
bounds-out-p c = next_place _ _ _ _ _ _ c.requires c.loop-rest.invariant

pub loop-rest-preserved : goal.loop-rest-preserved
loop-rest-preserved c = left_more _ _ _ _ _ _ c.loop-rest-test.true c.loop-rest.invariant

pub bounds-out-p-2 : goal.bounds-out-p-2
bounds-out-p-2 c = next_place _ _ _ _ _ _ c.requires c.loop-rest.invariant

pub returns-clause-place : goal.returns-clause-place
returns-clause-place c = (left_last _ _ _ _ _ _ (omega arith) c.loop-rest.invariant).ends

pub returns-clause-written : goal.returns-clause-written
returns-clause-written c = (left_last _ _ _ _ _ _ (omega arith) c.loop-rest.invariant).same
