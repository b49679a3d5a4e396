-- `judge_all` meets its contract.
use native.Mathlib.Omega.{arith}
use Rattle.slots.proofs.Rounds as law
use Rattle.slots.proofs.judge_all.Goals as goal

pub loop-i-init : goal.loop-i-init
loop-i-init c = law.turned_none _ c.empty-batch.ensures

pub judge_one-g-requires : goal.judge_one-g-requires
judge_one-g-requires c = (omega (arith, c.requires.count), record { room = c.requires.numbers }, omega (arith, c.requires.room, c.loop-i.invariant.long), law.ready_at _ c.requires c.loop-i-test.true c.detector_at-d.ensures)

pub loop-i-preserved : goal.loop-i-preserved
loop-i-preserved c = law.turned_more c.loop-i.invariant c.detector_at-d.ensures c.judge_one-g.auto.baseline_store c.judge_one-g.ensures
