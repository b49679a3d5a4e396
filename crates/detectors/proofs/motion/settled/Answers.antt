-- `motion::settled` meets its contract.
use Rattle.detectors.specs.Motion.{settled_of}
use Rattle.detectors.proofs.motion.settled.Goals as goal

pub returns : goal.returns
unfolding settled_of
returns c = rw (c.clamp01.ensures, c.over_twice.ensures)
