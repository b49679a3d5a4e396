-- `in_range` of the quality detector meets its contract.
use Rattle.std.proofs.Common.{rules}
use Rattle.detectors.specs.Quality.{quality_in}
use Rattle.detectors.proofs.quality.QualityConfigSettings.in_range.Goals as goal

pub returns-then-accepted : goal.returns-then-accepted
unfolding quality_in
returns-then-accepted c = search rules

pub returns-else-accepted : goal.returns-else-accepted
unfolding quality_in
returns-else-accepted c = search rules
