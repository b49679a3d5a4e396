-- `no_detectors` meets its contract.
use lib.Ieee.{of_bits}
use Rattle.slots.specs.Adding.{no_detectors}
use borrow.Author.Rules.{rules}
use Rattle.slots.proofs.no_detectors.Goals as goal

pub returns : goal.returns
unfolding of_bits no_detectors
returns c = rw c.fresh.ensures (search rules)
