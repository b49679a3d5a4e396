-- `step_drift` meets its contract.
use Rattle.slots.proofs.Arms as arm
use Rattle.slots.proofs.step_drift.Goals as goal

pub returns-in_default : goal.returns-in_default
returns-in_default c = absurd (arm.never-other _ _ _ _ _ c.on_window.result c.requires c.on_window.ensures c.in_default.not-Ok)

pub returns : goal.returns
returns c = rw c.with_state.ensures (arm.drift-judged _ _ _ _ _ _ c.requires c.on_window.ensures _ c.in-Ok.is)
