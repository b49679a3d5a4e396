-- `limits_ok` meets its contract.
use Rattle.std.proofs.Common.{rules}
use Rattle.detectors.specs.Common.{limits_ok}
use Rattle.detectors.proofs.limits_ok.Goals as goal

pub returns-then-threshold_ok-2 : goal.returns-then-threshold_ok-2
unfolding limits_ok
returns-then-threshold_ok-2 c = search rules

pub returns-else-threshold_ok-2 : goal.returns-else-threshold_ok-2
unfolding limits_ok
returns-else-threshold_ok-2 c = search rules
