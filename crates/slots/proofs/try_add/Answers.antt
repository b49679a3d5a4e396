-- `try_add` meets its contract.
use mathlib.Core.Path.{sym, ◌∙◌, ap}
use Rattle.slots.specs.Adding.{put_of, add_of}
use Rattle.slots.proofs.Rounds.{set_ready}
use Rattle.slots.proofs.try_add.Goals as goal

pub returns-then-not-set_ok : goal.returns-then-not-set_ok
unfolding add_of
returns-then-not-set_ok c = rw (sym c.set_ok.ensures ∙ c.if-not-set_ok.true)

pub returns-then-not-config_accepted : goal.returns-then-not-config_accepted
unfolding add_of
returns-then-not-config_accepted c = rw (sym c.set_ok.ensures ∙ c.if-not-set_ok.false, sym c.config_accepted.ensures ∙ c.if-not-config_accepted.true)

pub put-requires : goal.put-requires
put-requires c = (set_ready _ (sym c.set_ok.ensures ∙ c.if-not-set_ok.false)).0

pub returns : goal.returns
unfolding add_of
returns c = rw (sym c.set_ok.ensures ∙ c.if-not-set_ok.false, sym c.config_accepted.ensures ∙ c.if-not-config_accepted.false) (c.put.ensures ∙ ap (put_of c.args.set) c.made.ensures)
