-- `logistic::score` meets its contract: each test says which case of `answer_of` holds.
-- Assumes nothing.
use Rattle.std.proofs.Common.{T, sym, ap, ◌∙◌, subst, arith}
use lib.Ieee.{of_bits, neg}
use Rattle.logistic.specs.Score.{units_at, score_for, taken}
use Rattle.logistic.proofs.Range.{refused, scored, low, high, mid, ranged, u_most}
use Rattle.logistic.proofs.Floor.{Ranged}
use Rattle.logistic.proofs.Line.{units_most}
use Rattle.logistic.proofs.score.Goals as goal

in_range : (c : goal.Else-z-2) → Ranged c.args.z
unfolding of_bits neg
in_range c = ranged c.args.z (sym c.is_nan.ensures.value ∙ c.if-is_nan.false) c.if-z.false c.if-z-2.false

pub returns-then-is_nan : goal.returns-then-is_nan
returns-then-is_nan c = refused c.args.z (sym c.is_nan.ensures.value ∙ c.if-is_nan.true)

pub returns-then-z : goal.returns-then-z
unfolding of_bits neg
returns-then-z c =
    let z = c.args.z in
    ap (taken 0) (low z c.if-z.true) ∙ scored z (sym c.is_nan.ensures.value ∙ c.if-is_nan.false)

pub returns-then-z-2 : goal.returns-then-z-2
unfolding of_bits neg
returns-then-z-2 c =
    let z = c.args.z in
    ap (taken 0) (high z c.if-z.false c.if-z-2.true) ∙ scored z (sym c.is_nan.ensures.value ∙ c.if-is_nan.false)

pub place-requires : goal.place-requires
place-requires c = in_range c

pub units-requires : goal.units-requires
units-requires c = rw c.place.ensures (u_most _ (in_range c.before))

pub scaled-requires : goal.scaled-requires
scaled-requires c = omega (arith, c.units.ensures, units_most c.place.result (rw c.place.ensures (u_most _ (in_range c.before.before))))

pub returns : goal.returns
unfolding of_bits neg
returns c =
    let z = c.args.z in
    let e = c.units.ensures ∙ ap units_at c.place.ensures in
    ap (taken 0) (c.scaled.ensures ∙ ap score_for e ∙ mid z c.if-z.false c.if-z-2.false)
    ∙ scored z (sym c.is_nan.ensures.value ∙ c.if-is_nan.false)
