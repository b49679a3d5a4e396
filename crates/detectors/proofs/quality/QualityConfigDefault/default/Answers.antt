-- `quality::default` meets its contract.
use mathlib.Core.Path.{refl}
use lib.Ieee.{of_bits}
use Rattle.detectors.specs.Quality.{quality_default}
use Rattle.detectors.proofs.quality.QualityConfigDefault.default.Goals as goal

pub returns : goal.returns
unfolding of_bits quality_default
returns c = refl
