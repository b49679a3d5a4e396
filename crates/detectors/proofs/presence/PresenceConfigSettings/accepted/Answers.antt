-- `accepted` of the presence detector meets its contract.
use Rattle.std.proofs.Common.{rules}
use Rattle.detectors.specs.Presence.{presence_accepted}
use Rattle.detectors.proofs.presence.PresenceConfigSettings.accepted.Goals as goal

pub returns-then-limits_ok : goal.returns-then-limits_ok
unfolding presence_accepted
returns-then-limits_ok c = search rules

pub returns-else-limits_ok : goal.returns-else-limits_ok
unfolding presence_accepted
returns-else-limits_ok c = search rules
