-- Values in a row: one a turn.
use Rattle.records.proofs.Runs.{left-room, left_more, left-done}
use Rattle.records.proofs.write_each.Goals as goal

pub write-p-requires : goal.write-p-requires
write-p-requires g c = left-room g.T.Written.bytes _ _ _ _ _ _ _ c.loop-v.invariant c.loop-v-test.true c.v-item.is c.requires

pub loop-v-preserved : goal.loop-v-preserved
loop-v-preserved g c = left_more g.T.Written.bytes _ _ _ _ _ _ _ c.loop-v.invariant _ _ c.loop-v-test.true c.v-item.is c.write-p.ensures.place c.write-p.ensures.written

pub returns-clause-place : goal.returns-clause-place
returns-clause-place g c = (left-done g.T.Written.bytes _ _ _ _ _ _ c.loop-v.invariant c.loop-v-test.false).0

pub returns-clause-written : goal.returns-clause-written
returns-clause-written g c = (left-done g.T.Written.bytes _ _ _ _ _ _ c.loop-v.invariant c.loop-v-test.false).1
