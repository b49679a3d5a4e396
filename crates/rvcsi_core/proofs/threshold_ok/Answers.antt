-- `threshold_ok` meets its contract.
use Rattle.rvcsi_core.specs.Settings.{threshold_ok}
use Rattle.rvcsi_core.proofs.threshold_ok.Goals as goal

pub returns-then-t : goal.returns-then-t
unfolding threshold_ok
returns-then-t c = simp c.if-t.true

pub returns-else-t : goal.returns-else-t
unfolding threshold_ok
returns-else-t c = simp c.if-t.false
