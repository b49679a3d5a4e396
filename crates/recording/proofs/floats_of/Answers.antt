-- A float a turn.
use Rattle.std.proofs.Common.{arith}
use Rattle.lists.proofs.Tab.{over_none, over-more}
use Rattle.recording.proofs.floats_of.Goals as goal

pub loop-i-init : goal.loop-i-init
loop-i-init c = over_none _ _

pub loop-i-preserved : goal.loop-i-preserved
loop-i-preserved c = over-more c.loop-i.invariant (omega arith) c.from_bits.ensures
