-- Reading floats: one a turn.
use Rattle.records.proofs.Floats.{left_more, left_none}
use Rattle.records.proofs.read_floats.Goals as goal

pub loop-i-preserved : goal.loop-i-preserved
loop-i-preserved c = left_more _ _ _ _ _ _ _ c.read_float.ensures c.loop-i-test.true c.loop-i.invariant

pub returns : goal.returns
returns c = left_none _ _ _ _ _ _ c.loop-i-test.false c.loop-i.invariant
