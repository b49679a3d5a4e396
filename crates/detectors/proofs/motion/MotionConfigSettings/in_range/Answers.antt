-- `in_range` of the motion detector meets its contract.
use Rattle.std.proofs.Common.{rules}
use Rattle.detectors.specs.Motion.{motion_in}
use Rattle.detectors.proofs.motion.MotionConfigSettings.in_range.Goals as goal

pub returns-then-accepted : goal.returns-then-accepted
unfolding motion_in
returns-then-accepted c = search rules

pub returns-else-accepted : goal.returns-else-accepted
unfolding motion_in
returns-else-accepted c = search rules
