-- `floats::narrow_magnitude` meets its contract: each way is a law of `proofs/Narrowing.antt`. Assumes nothing.
use Rattle.std.proofs.Common.{ℕ, ◌+◌, ◌-◌, ◌*◌, sym, subst}
use Rattle.floats.specs.Parts.{Narrowed}
use Rattle.floats.proofs.Narrowing.{field, tiny, subnormal, normal, huge}
use Rattle.floats.proofs.narrow_magnitude.Goals as goal

pub returns-then-e-lt-SINGLE_ZERO : goal.returns-then-e-lt-SINGLE_ZERO
returns-then-e-lt-SINGLE_ZERO c = tiny c.args.m c.requires c.if-e-lt-SINGLE_ZERO.true

pub returns-then-e-lt-SINGLE_NORMAL : goal.returns-then-e-lt-SINGLE_NORMAL
returns-then-e-lt-SINGLE_NORMAL c =
    let a = c.before.before.before in
    subst (λ (r : ℕ). Narrowed a.args.m r) (sym c.nearest.ensures) (subnormal a.args.m a.requires c.if-e-lt-SINGLE_ZERO.false c.if-e-lt-SINGLE_NORMAL.true)

pub returns-then-e-lt-SINGLE_PAST : goal.returns-then-e-lt-SINGLE_PAST
returns-then-e-lt-SINGLE_PAST c =
    let a = c.before.before.before.before in
    subst (λ (r : ℕ). Narrowed a.args.m ((field a.args.m - 897) * 8388608 + r)) (sym c.nearest-q.ensures) (normal a.args.m a.requires c.if-e-lt-SINGLE_NORMAL.false c.if-e-lt-SINGLE_PAST.true)

pub returns : goal.returns
returns c = let a = c.before.before.before in huge a.args.m a.requires c.if-e-lt-SINGLE_PAST.false
