-- `logistic::entry` meets its contract: the list of `specs/` is the constant of the code, entry by entry.
-- Assumes nothing.
use Rattle.std.proofs.Common.{refl}
use Rattle.logistic.specs.Table.{table}
use Rattle.logistic.proofs.entry.Goals as goal

pub returns : goal.returns
unfolding table
returns c = refl
