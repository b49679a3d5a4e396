-- `logistic::units` meets its contract: by the table's rules the difference of neighbours is from 0 to 65,536.
-- Assumes nothing.
use Rattle.std.proofs.Common.{ℕ, ◌-◌, ◌*◌, ◌/◌, ◌%◌, ◌<◌, ◌≤◌, add-zero, arith, le-ltb, lt-ltb}
use Rattle.logistic.specs.Score.{units_at}
use Rattle.logistic.proofs.Rules.{never_falling}
use Rattle.logistic.proofs.Line.{fits_product}
use Rattle.logistic.proofs.units.Goals as goal

-- the second entry is there, so k is below 2,048
room : (u : ℕ) → u ≤ 2097152 → 0 < u % 1024 → (u / 1024 < 2048) × (u % 1024 < 1024)
room u h n = omega arith

bound : (c : goal.After-entry-b) → (c.entry-b.result - c.entry-a.result) * (c.args.u % 1024) ≤ 67043328
bound c =
    let u = c.args.u in
    let w = room u c.requires c.if-r-gt0.true in
    rw (c.entry-a.ensures, c.entry-b.ensures) (fits_product (u / 1024) (u % 1024) w.0 w.1)

pub overflow_sub-result : goal.overflow_sub-result
overflow_sub-result c =
    let u = c.args.u in
    let w = room u c.requires c.if-r-gt0.true in
    omega (arith, never_falling (u / 1024) w.0, c.entry-a.ensures, c.entry-b.ensures)

pub overflow_mul-result : goal.overflow_mul-result
overflow_mul-result c = omega (arith, bound c)

pub returns-then-r-gt0 : goal.returns-then-r-gt0
unfolding units_at
returns-then-r-gt0 c = rw (lt-ltb _ _ c.if-r-gt0.true, c.entry-a.ensures, c.entry-b.ensures)

pub returns : goal.returns
unfolding units_at
returns c = rw (le-ltb _ _ c.if-r-gt0.false, add-zero) c.entry-a.ensures
