-- `in_range` of the presence detector meets its contract.
use Rattle.std.proofs.Common.{rules}
use Rattle.detectors.specs.Presence.{presence_in}
use Rattle.detectors.proofs.presence.PresenceConfigSettings.in_range.Goals as goal

pub returns-then-accepted : goal.returns-then-accepted
unfolding presence_in
returns-then-accepted c = search rules

pub returns-else-accepted : goal.returns-else-accepted
unfolding presence_in
returns-else-accepted c = search rules
