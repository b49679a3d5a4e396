-- `records::number_width` meets its contract.
-- Assumes nothing.
use native.Mathlib.Omega.{arith}
use Rattle.records.proofs.WritingNumbers.{counted_all, counted_more, counted_last, counted_few, long}
use Rattle.records.proofs.number_width.Goals as goal

pub loop-rest-init : goal.loop-rest-init
loop-rest-init c = counted_all c.args.v c.ranges.v.fits

pub overflow_add-n : goal.overflow_add-n
overflow_add-n c = omega (arith, counted_few _ _ _ c.loop-rest.invariant)

pub loop-rest-preserved : goal.loop-rest-preserved
loop-rest-preserved c = counted_more _ _ _ c.loop-rest-test.true c.loop-rest.invariant

pub returns : goal.returns
returns c = let e = counted_last _ _ _ (omega arith) c.loop-rest.invariant in (e, omega (arith, e, long 9 c.args.v))
