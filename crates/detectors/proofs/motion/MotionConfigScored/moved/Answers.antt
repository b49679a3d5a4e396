-- `moved` of the motion detector meets its contract.
use mathlib.Core.Path.{sym}
use lib.Ieee.{lt}
use Rattle.detectors.specs.Motion.{motion_move}
use Rattle.detectors.proofs.Turned.{for_same, turned_so}
use Rattle.detectors.proofs.motion.MotionConfigScored.moved.Goals as goal

pub returns : goal.returns
unfolding motion_move
returns c =
    let d = c.args.self in
    let s = c.args.s in
    let n = d.debounce_windows in
    rw (c.said.ensures, ← turned_so n n (lt d.on_threshold c.args.x) (lt c.args.x d.off_threshold) s.moving _ s.streak n c.advance-l.result (sym (for_same s.moving n)) c.in_force-met.ensures c.advance-l.ensures)
