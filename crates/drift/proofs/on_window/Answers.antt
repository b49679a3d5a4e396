-- `on_window` meets its contract. Assumes nothing.
use mathlib.Core.Path.{sym, ◌∙◌}
use Rattle.drift.proofs.Steps as law
use Rattle.drift.proofs.on_window.Goals as goal

pub returns-then-baseline-lt-MOST : goal.returns-then-baseline-lt-MOST
returns-then-baseline-lt-MOST c = law.short _ _ _ _ c.if-baseline-lt-MOST.true

pub returns-then-not-in_range : goal.returns-then-not-in_range
returns-then-not-in_range c = law.bad _ _ _ _ c.if-baseline-lt-MOST.false (sym c.in_range.ensures ∙ c.if-not-in_range.true)

pub returns-then-current-gt-MOST : goal.returns-then-current-gt-MOST
returns-then-current-gt-MOST c = law.long _ _ _ _ c.if-baseline-lt-MOST.false (sym c.in_range.ensures ∙ c.if-not-in_range.false) c.if-current-gt-MOST.true

pub moved-requires : goal.moved-requires
moved-requires c = law.driving _ _ _ _ (sym c.in_range.ensures ∙ c.if-not-in_range.false) c.if-current-gt-MOST.false c.if-baseline-lt-MOST.false

pub returns : goal.returns
returns c = law.judged _ _ _ _ c.if-baseline-lt-MOST.false (sym c.in_range.ensures ∙ c.if-not-in_range.false) c.if-current-gt-MOST.false _ c.moved.ensures
