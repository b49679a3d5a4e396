-- `floats::root_positive` meets its contract. Assumes nothing.
use Rattle.std.proofs.Common.{◌/◌, ◌<◌, sym, ◌∙◌, arith}
use Rattle.floats.proofs.Signs.{subnormal_root, normal_root}
use Rattle.floats.proofs.root_positive.Goals as goal

pub returns-then-e-eq0 : goal.returns-then-e-eq0
returns-then-e-eq0 c = let a = c.before.before in c.root_scaled.ensures ∙ sym (subnormal_root a.args.b a.requires.b_nonzero c.if-e-eq0.true)

pub returns : goal.returns
returns c =
    let a = c.before.before in
    let n = c.if-e-eq0.false in
    let z : 0 < a.args.b / 4503599627370496 = omega arith in
    c.root_scaled-2.ensures ∙ sym (normal_root a.args.b a.requires.b_bound z)
