-- `accepted` of the motion detector meets its contract.
use Rattle.std.proofs.Common.{rules}
use Rattle.detectors.specs.Motion.{motion_accepted}
use Rattle.detectors.proofs.motion.MotionConfigSettings.accepted.Goals as goal

pub returns-then-limits_ok : goal.returns-then-limits_ok
unfolding motion_accepted
returns-then-limits_ok c = search rules

pub returns-else-limits_ok : goal.returns-else-limits_ok
unfolding motion_accepted
returns-else-limits_ok c = search rules
