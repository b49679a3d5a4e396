-- `score_ok` meets its contract.
use Rattle.std.proofs.Common.{rules}
use Rattle.rvcsi_core.specs.Score.{score_ok}
use Rattle.rvcsi_core.proofs.score_ok.Goals as goal

pub returns-then-x : goal.returns-then-x
unfolding score_ok
returns-then-x c = search rules

pub returns-else-x : goal.returns-else-x
unfolding score_ok
returns-else-x c = search rules
