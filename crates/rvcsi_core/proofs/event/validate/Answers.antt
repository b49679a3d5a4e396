-- `validate` of an event meets its contract.
use mathlib.Core.Path.{sym, ◌∙◌}
use Rattle.rvcsi_core.specs.Event.{event_validity_of}
use Rattle.rvcsi_core.proofs.event.validate.Goals as goal

pub returns-then-not-score_ok : goal.returns-then-not-score_ok
unfolding event_validity_of
returns-then-not-score_ok c = rw (sym c.score_ok.ensures ∙ c.if-not-score_ok.true)

pub returns : goal.returns
unfolding event_validity_of
returns c = rw (sym c.score_ok.ensures ∙ c.if-not-score_ok.false)
