-- `moved` of the presence detector meets its contract.
use lib.Ieee.{le}
use Rattle.detectors.specs.Presence.{presence_move}
use Rattle.detectors.proofs.Turned.{turned_so}
use Rattle.detectors.proofs.presence.PresenceConfigScored.moved.Goals as goal

pub returns : goal.returns
unfolding presence_move
returns c =
    let d = c.args.self in
    let s = c.args.s in
    rw (c.said.ensures, ← turned_so d.enter_windows d.exit_windows (le d.on_threshold c.args.x) (le c.args.x d.off_threshold) s.present _ s.streak _ c.advance-l.result c.in_force-n.ensures c.in_force-met.ensures c.advance-l.ensures)
