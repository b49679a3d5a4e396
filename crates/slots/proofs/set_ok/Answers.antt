-- `set_ok` meets its contract.
use Rattle.std.proofs.Common.{rules}
use mathlib.Core.Path.{sym, ◌∙◌}
use Rattle.slots.proofs.Taken.{set_of, set_over}
use Rattle.slots.proofs.set_ok.Goals as goal

pub returns-in_default : goal.returns-in_default
returns-in_default c = set_over c.args.set (search rules)

pub returns-then-all_in : goal.returns-then-all_in
returns-then-all_in c =
    c.all_fresh.ensures
    ∙ (rw (sym c.all_in.ensures ∙ c.if-all_in.true) at (set_of c.args.set c.in-Some.there.now (search rules) (search rules) (search rules)))

pub returns-else-all_in : goal.returns-else-all_in
returns-else-all_in c =
    c.if-all_in.false
    ∙ (rw (sym c.all_in.ensures ∙ c.if-all_in.false) at (set_of c.args.set c.in-Some.there.now (search rules) (search rules) (search rules)))
