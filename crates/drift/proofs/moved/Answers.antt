-- `moved` meets its contract. Assumes nothing.
use Rattle.drift.proofs.Steps as law
use Rattle.drift.proofs.moved.Goals as goal

pub returns-in_default : goal.returns-in_default
returns-in_default c = law.first-list _ _ _ _ _ c.in_default.is c.begin.ensures

pub returns-then-n-current : goal.returns-then-n-current
returns-then-n-current c = law.same_length _ _ _ _ _ _ c.in-Some.is c.if-n-current.true c.measure.ensures

pub returns : goal.returns
returns c = law.other_length _ _ _ _ _ _ c.in-Some.is c.if-n-current.false c.begin-2.ensures
