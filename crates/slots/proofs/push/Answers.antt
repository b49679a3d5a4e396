-- `push` meets its contract.
use Rattle.slots.proofs.Pushes as batch
use Rattle.slots.proofs.push.Goals as goal

pub returns-in_default : goal.returns-in_default
returns-in_default c = batch.quiet _ _ _ _ c.in_default.is

pub returns-then-at-lt-MOST : goal.returns-then-at-lt-MOST
returns-then-at-lt-MOST c = batch.stored _ _ _ _ _ c.in-Some.is c.if-at-lt-MOST.true

pub returns : goal.returns
returns c = batch.full _ _ _ _ _ c.in-Some.is c.if-at-lt-MOST.false
