-- `put` meets its contract.
use Rattle.std.proofs.Common.{rules}
use mathlib.Core.Path.{sym, ◌∙◌}
use borrow.Author.Tests.{lt-ltb, le-ltb}
use Rattle.slots.specs.Adding.{put_of}
use Rattle.slots.specs.Limits.{places}
use Rattle.slots.proofs.Taken.{other_front}
use Rattle.slots.proofs.put.Goals as goal

pub returns-then-not-fresh : goal.returns-then-not-fresh
unfolding put_of
returns-then-not-fresh c = rw (sym (c.fresh.ensures ∙ other_front _ _ (search rules) _) ∙ c.if-not-fresh.true)

pub returns-then-n-ge-PLACES : goal.returns-then-n-ge-PLACES
unfolding put_of
returns-then-n-ge-PLACES c =
    rw (sym (c.fresh.ensures ∙ other_front _ _ (search rules) _) ∙ c.if-not-fresh.false, le-ltb _ places c.if-n-ge-PLACES.true)

pub returns : goal.returns
unfolding put_of
returns c = rw (sym (c.fresh.ensures ∙ other_front _ _ (search rules) _) ∙ c.if-not-fresh.false, lt-ltb _ places c.if-n-ge-PLACES.false)
