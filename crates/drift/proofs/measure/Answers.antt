-- `measure` meets its contract. Assumes nothing.
use Rattle.drift.proofs.Steps as law
use native.Mathlib.Omega.{arith}
use Rattle.drift.proofs.measure.Goals as goal

pub returns-then-next-c : goal.returns-then-next-c
returns-then-next-c c = law.at_count _ _ _ _ _ _ _ _ c.relative_drift-d.ensures c.anomaly_if-first.ensures c.streak_of-next.ensures (omega (arith, c.if-next-c.true)) _ c.over_twice.ensures c.copy_over.ensures

pub returns : goal.returns
returns c = law.follows _ _ _ _ _ _ _ _ c.relative_drift-d.ensures c.anomaly_if-first.ensures c.streak_of-next.ensures (omega (arith, c.if-next-c.false)) c.update_ewma.ensures
