-- `judge_verdict` meets its contract.
use mathlib.Core.Path.{sym, ◌∙◌}
use Rattle.slots.proofs.Rounds as law
use Rattle.slots.proofs.judge_verdict.Goals as goal

pub returns-then-room-lt-ROOM : goal.returns-then-room-lt-ROOM
returns-then-room-lt-ROOM c = law.short _ _ _ _ c.if-room-lt-ROOM.true

pub returns-then-not-set_ok : goal.returns-then-not-set_ok
returns-then-not-set_ok c = law.bad _ _ _ _ c.if-room-lt-ROOM.false (sym c.set_ok.ensures ∙ c.if-not-set_ok.true)

pub returns-then-n-gt-PART : goal.returns-then-n-gt-PART
returns-then-n-gt-PART c = law.long _ _ _ _ c.if-room-lt-ROOM.false (sym c.set_ok.ensures ∙ c.if-not-set_ok.false) c.if-n-gt-PART.true

pub returns-then-ids-gt-LAST : goal.returns-then-ids-gt-LAST
returns-then-ids-gt-LAST c = law.none_left _ _ _ _ c.if-room-lt-ROOM.false (sym c.set_ok.ensures ∙ c.if-not-set_ok.false) c.if-n-gt-PART.false c.if-ids-gt-LAST.true

pub returns : goal.returns
returns c = law.fine _ _ _ _ c.if-room-lt-ROOM.false (sym c.set_ok.ensures ∙ c.if-not-set_ok.false) c.if-n-gt-PART.false c.if-ids-gt-LAST.false
