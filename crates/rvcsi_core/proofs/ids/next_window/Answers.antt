-- `next_window` meets its contract.
use Rattle.rvcsi_core.proofs.Numbered.{window_by}
use Rattle.rvcsi_core.proofs.ids.next_window.Goals as goal

pub returns : goal.returns
returns c = rw c.take-taken.ensures (window_by c.args.ids)
