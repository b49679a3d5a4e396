-- `relative` meets its contract. Assumes nothing.
use Rattle.drift.specs.Distance.{relative_to}
use Rattle.drift.proofs.relative.Goals as goal

pub returns-then-size : goal.returns-then-size
unfolding relative_to
returns-then-size c = simp c.if-size.true

pub returns : goal.returns
unfolding relative_to
returns c = simp c.if-size.false
