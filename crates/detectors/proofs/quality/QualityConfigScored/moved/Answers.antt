-- `moved` of the quality detector meets its contract.
use Rattle.detectors.specs.Quality.{quality_move}
use Rattle.detectors.proofs.quality.QualityConfigScored.moved.Goals as goal

pub returns-then-x-self : goal.returns-then-x-self
unfolding quality_move
returns-then-x-self c = rw (c.if-x-self.true, c.low.ensures, c.clamp01.ensures)

pub returns : goal.returns
unfolding quality_move
returns c = rw (c.if-x-self.false, c.fresh.ensures)
