-- `anomaly_if` meets its contract. Assumes nothing.
use Rattle.drift.specs.Drift.{anomaly_if}
use Rattle.drift.proofs.anomaly_if.Goals as goal

pub returns-then-d-c : goal.returns-then-d-c
unfolding anomaly_if
returns-then-d-c c = rw (c.if-d-c.true, c.over_twice.ensures)

pub returns : goal.returns
unfolding anomaly_if
returns c = simp c.if-d-c.false
