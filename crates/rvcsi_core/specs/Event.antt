-- When an event is valid. Definitions only.
use Rattle.std.specs.Prelude.{cond, Float, Result, Ok, Err}
use Rattle.rvcsi_core.specs.Score.{score_ok}
use Rattle.rvcsi_core.specs.declared.event.CsiEvent.{CsiEvent}
use Rattle.rvcsi_core.specs.declared.event.ConfidenceOutOfRange.{ConfidenceOutOfRange}

-- a confidence that is not from 0 to 1
abbrev pub out_of_range : Float → ConfidenceOutOfRange
out_of_range x = record { 0 = x }

-- "an event valid exactly when its confidence is from 0 to 1"
unfoldable pub event_validity_of : CsiEvent → Result (Unit {0}) ConfidenceOutOfRange
event_validity_of e = cond (score_ok e.confidence) (Ok tt) (Err (out_of_range e.confidence))
