-- `accepted` meets its contract. Assumes nothing.
use Rattle.std.proofs.Common.{rules}
use Rattle.drift.specs.Settings.{drift_accepted}
use Rattle.drift.proofs.BaselineDriftConfigSettings.accepted.Goals as goal

pub returns-then-self : goal.returns-then-self
unfolding drift_accepted
returns-then-self c = search rules

pub returns-else-self : goal.returns-else-self
unfolding drift_accepted
returns-else-self c = search rules
