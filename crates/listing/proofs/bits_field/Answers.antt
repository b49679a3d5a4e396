-- `listing::bits_field` meets its contract.
-- Assumes nothing.
use Rattle.listing.proofs.Digits.{bits_done}
use Rattle.listing.proofs.bits_field.Goals as goal

pub returns : goal.returns
returns c = bits_done c.args.bits (rw c.from.ensures at c.spell.ensures)
