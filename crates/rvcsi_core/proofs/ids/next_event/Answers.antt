-- `next_event` meets its contract.
use Rattle.rvcsi_core.proofs.Numbered.{event_by}
use Rattle.rvcsi_core.proofs.ids.next_event.Goals as goal

pub returns : goal.returns
returns c = rw c.take-taken.ensures (event_by c.args.ids)
