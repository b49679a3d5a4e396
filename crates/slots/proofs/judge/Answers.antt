-- `judge` meets its contract.
use native.Mathlib.Omega.{arith}
use Rattle.slots.proofs.Rounds as law
use Rattle.slots.proofs.judge.Goals as goal

pub judge_all-g-requires : goal.judge_all-g-requires
judge_all-g-requires c = law.all_ready _ _ _ _ _ c.judge_verdict.ensures c.in-Ok.is

pub overflow_add-event : goal.overflow_add-event
overflow_add-event c =
    let r = law.all_ready _ _ _ _ _ c.judge_verdict.ensures c.in-Ok.is in
    let k = law.few_events _ _ _ _ _ _ _ c.judge_all-g.result c.judge_all-g.ensures in
    omega (arith, r.numbers, k)

pub returns-in-Err : goal.returns-in-Err
returns-in-Err c = law.refused _ _ _ _ _ _ c.judge_verdict.ensures _ _ c.in-Err.is c.empty-batch.ensures

pub returns-in-Ok : goal.returns-in-Ok
returns-in-Ok c = law.judged _ _ _ _ _ _ c.judge_verdict.ensures c.in-Ok.is c.judge_all-g.result _ c.judge_all-g.ensures
