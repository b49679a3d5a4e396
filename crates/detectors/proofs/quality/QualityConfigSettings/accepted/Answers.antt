-- `accepted` of the quality detector meets its contract.
use Rattle.std.proofs.Common.{rules}
use Rattle.detectors.specs.Quality.{quality_accepted}
use Rattle.detectors.proofs.quality.QualityConfigSettings.accepted.Goals as goal

pub returns-then-threshold_ok : goal.returns-then-threshold_ok
unfolding quality_accepted
returns-then-threshold_ok c = search rules

pub returns-else-threshold_ok : goal.returns-else-threshold_ok
unfolding quality_accepted
returns-else-threshold_ok c = search rules
