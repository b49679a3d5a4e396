-- `step` meets its contract.
use mathlib.Core.Path.{refl, ◌∙◌}
use Rattle.slots.proofs.Arms as arm
use Rattle.slots.proofs.step.Goals as goal

pub returns-in-Presence : goal.returns-in-Presence
returns-in-Presence c = rw c.with_state.ensures (arm.by-presence _ _ _ _ _ _ _ c.in-Presence.is c.moved-m.ensures)

pub returns-in-Motion : goal.returns-in-Motion
returns-in-Motion c = rw c.with_state-in-Motion.ensures (arm.by-motion _ _ _ _ _ _ _ c.in-Motion.is c.moved-m-in-Motion.ensures)

pub returns-in-Quality : goal.returns-in-Quality
returns-in-Quality c = rw c.with_state-in-Quality.ensures (arm.by-quality _ _ _ _ _ _ _ c.in-Quality.is c.moved-m-in-Quality.ensures)

pub returns-in-Drift : goal.returns-in-Drift
returns-in-Drift c = c.step_drift.ensures ∙ arm.by-drift _ _ _ _ _ _ _ c.in-Drift.is refl
