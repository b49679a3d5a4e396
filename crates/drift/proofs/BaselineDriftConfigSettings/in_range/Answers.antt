-- `in_range` meets its contract. Assumes nothing.
use Rattle.std.proofs.Common.{rules}
use Rattle.drift.specs.Drift.{drift_in}
use Rattle.drift.proofs.BaselineDriftConfigSettings.in_range.Goals as goal

pub returns-then-length_ok : goal.returns-then-length_ok
unfolding drift_in
returns-then-length_ok c = search rules

pub returns-else-length_ok : goal.returns-else-length_ok
unfolding drift_in
returns-else-length_ok c = search rules
