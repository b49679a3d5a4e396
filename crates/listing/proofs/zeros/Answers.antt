-- Zeros in front: those passed are dropped, and the last digit stays.
use Rattle.std.proofs.Common.{◌≡◌, sym, ◌∙◌, arith, length-take-le}
use Rattle.std.proofs.lemmas.List.{get_or-take}
use Rattle.listing.proofs.Digits.{dropped_digit, dropped_more, dropped_last}
use Rattle.listing.proofs.zeros.Goals as goal

pub returns-then-digit-ne48 : goal.returns-then-digit-ne48
returns-then-digit-ne48 c =
    let long = length-take-le c.saturating_sub-last.result c.args.text.now (omega arith) in
    (dropped_digit c.loop-i.invariant (omega (arith, long)) (λ e. c.if-digit-ne48.true (get_or-take c.saturating_sub-last.result c.args.text.now c.loop-i.i 0 (omega (arith, long)) ∙ e)), c.loop-i.invariant.most)

pub loop-i-preserved : goal.loop-i-preserved
loop-i-preserved c =
    let long = length-take-le c.saturating_sub-last.result c.args.text.now (omega arith) in
    dropped_more c.loop-i.invariant (omega (arith, long)) (sym (get_or-take c.saturating_sub-last.result c.args.text.now c.loop-i.i 0 (omega (arith, long))) ∙ c.if-digit-ne48.false)

pub returns : goal.returns
returns c =
    let long = length-take-le c.saturating_sub-last.result c.args.text.now (omega arith) in
    let e : c.loop-i.i ≡ c.saturating_sub-last.result = omega (arith, long) in
    (rw e at (dropped_last c.loop-i.invariant (omega (arith, long))), omega arith)
