-- `relative_drift` meets its contract. Assumes nothing.
use Rattle.drift.proofs.Steps as law
use native.Mathlib.Omega.{arith}
use Rattle.drift.proofs.relative_drift.Goals as goal

pub returns-then-n-eq0 : goal.returns-then-n-eq0
returns-then-n-eq0 c = law.none _ _ c.if-n-eq0.true

pub returns : goal.returns
returns c = law.some _ _ c.if-n-eq0.false (omega arith) _ _ _ _ _ _ c.root-root_n.ensures c.squares_away.ensures c.root_over-distance.ensures c.squares.ensures c.root_over-size.ensures c.relative.ensures
