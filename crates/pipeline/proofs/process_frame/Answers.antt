-- `process_frame` meets its contract: refused as a whole, or carried on from the buffer.
use mathlib.Core.Path.{sym}
use Rattle.slots.proofs.Pushes.{nothing_is}
use Rattle.pipeline.proofs.Carrying as law
use Rattle.pipeline.proofs.process_frame.Goals as goal

pub returns-in-Err-clause-made : goal.returns-in-Err-clause-made
returns-in-Err-clause-made c =
    rw c.refused.ensures (law.refused-by (law.frame_follows _ _ _ _ _ _ _ _ _ _ _) _ (rw c.room_of-room.ensures at c.judge_whole.ensures) _ _ c.in-Err.is (sym nothing_is))

pub returns-clause-made : goal.returns-clause-made
returns-clause-made c =
    law.taken-by (law.frame_follows _ _ _ _ _ _ _ _ _ _ _) _ (rw c.room_of-room.ensures at c.judge_whole.ensures) c.in_default.is c.push-p.result c.carry.result _ _ _ _ _ c.push-p.ensures.made c.carry.ensures
