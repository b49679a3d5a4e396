-- `streak_of` meets its contract. Assumes nothing.
use Rattle.drift.specs.Drift.{streak_of}
use Rattle.drift.proofs.streak_of.Goals as goal

pub returns-then-d-c : goal.returns-then-d-c
unfolding streak_of
returns-then-d-c c = simp c.if-d-c.true

pub returns : goal.returns
unfolding streak_of
returns c = simp c.if-d-c.false
