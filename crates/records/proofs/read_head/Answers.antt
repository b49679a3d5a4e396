-- Reading the six numbers: a number a turn, and at the end the header that they make.
use Rattle.std.proofs.Common.{ap, ◌∙◌, refl}
use Rattle.records.specs.declared.Header.{Header}
use Rattle.records.proofs.Heads.{head_as, known_none, known_more, known-stopped, known-all}
use Rattle.records.proofs.read_head.Goals as goal

pub loop-i-init : goal.loop-i-init
loop-i-init c = known_none _ _ _ refl

pub returns-in-Err : goal.returns-in-Err
returns-in-Err c = known-stopped c.loop-i.invariant _ _ c.loop-i-test.true c.in-Err.ensures

pub loop-i-preserved : goal.loop-i-preserved
loop-i-preserved c = known_more c.loop-i.invariant _ _ _ c.loop-i-test.true c.in-Ok.ensures

pub returns : goal.returns
returns c = ap (λ (h : Header). head_as h c.loop-i.p) c.header_of.ensures ∙ known-all c.loop-i.invariant c.loop-i-test.false
