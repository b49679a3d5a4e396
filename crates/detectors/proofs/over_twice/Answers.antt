-- `over_twice` meets its contract.
use Rattle.detectors.specs.Common.{over_twice}
use Rattle.detectors.proofs.over_twice.Goals as goal

pub returns : goal.returns
unfolding over_twice
returns c = c.clamp01.ensures
