-- `motion::default` meets its contract.
use mathlib.Core.Path.{refl}
use lib.Ieee.{of_bits}
use Rattle.detectors.specs.Motion.{motion_default}
use Rattle.detectors.proofs.motion.MotionConfigDefault.default.Goals as goal

pub returns : goal.returns
unfolding of_bits motion_default
returns c = refl
