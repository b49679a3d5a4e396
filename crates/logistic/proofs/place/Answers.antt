-- `logistic::place` meets its contract.
-- Assumes nothing.
use Rattle.std.proofs.Common.{◌∙◌, arith, le→leb, rules}
use lib.Ieee.{in_float}
use Rattle.logistic.proofs.Floor.{Neg, Pos, negative, positive, t-most, taken, left, quotient, under, over}
use Rattle.logistic.proofs.place.Goals as goal

pub truncating_f32_to_u64-t-requires : goal.truncating_f32_to_u64-t-requires
truncating_f32_to_u64-t-requires c =
    let g : Neg c.args.z = negative c.args.z (search rules) c.requires c.if-z.true in
    record { lower_bound = over _ g.n g.d g.value; upper_bound = under _ _ g.n g.d g.pos-d g.value g.small }

pub int_to_float-w : goal.int_to_float-w
unfolding in_float
int_to_float-w c =
    let g : Neg c.args.z = negative c.args.z (search rules) c.requires c.if-z.true in
    le→leb c.truncating_f32_to_u64-t.result 16777216 (omega (arith, t-most g _ c.truncating_f32_to_u64-t.ensures))

pub overflow_sub-result : goal.overflow_sub-result
overflow_sub-result c =
    let g : Neg c.args.z = negative c.args.z (search rules) c.requires c.if-z.true in
    omega (arith, (taken g _ c.truncating_f32_to_u64-t.ensures c.if-w-y.true).1)

pub overflow_sub-result-else-w-y : goal.overflow_sub-result-else-w-y
overflow_sub-result-else-w-y c =
    let g : Neg c.args.z = negative c.args.z (search rules) c.requires c.if-z.true in
    t-most g _ c.truncating_f32_to_u64-t.ensures

pub truncating_f32_to_u64-t-requires-else-z : goal.truncating_f32_to_u64-t-requires-else-z
truncating_f32_to_u64-t-requires-else-z c =
    let g : Pos c.args.z = positive c.args.z (search rules) c.requires c.if-z.false in
    record { lower_bound = g.above; upper_bound = g.below }

pub overflow_add-result : goal.overflow_add-result
overflow_add-result c =
    let g : Pos c.args.z = positive c.args.z (search rules) c.requires c.if-z.false in
    let e = c.truncating_f32_to_u64-t-else-z.ensures ∙ g.cut in
    let l = quotient g.n g.d g.pos-d g.small in
    omega arith

pub returns-then-w-y : goal.returns-then-w-y
returns-then-w-y c =
    let g : Neg c.args.z = negative c.args.z (search rules) c.requires c.if-z.true in
    (taken g _ c.truncating_f32_to_u64-t.ensures c.if-w-y.true).0

pub returns-else-w-y : goal.returns-else-w-y
returns-else-w-y c =
    let g : Neg c.args.z = negative c.args.z (search rules) c.requires c.if-z.true in
    left g _ c.truncating_f32_to_u64-t.ensures c.if-w-y.false

pub returns-else-z : goal.returns-else-z
returns-else-z c =
    let g : Pos c.args.z = positive c.args.z (search rules) c.requires c.if-z.false in
    let e = c.truncating_f32_to_u64-t-else-z.ensures ∙ g.cut in
    omega (arith, g.is)
