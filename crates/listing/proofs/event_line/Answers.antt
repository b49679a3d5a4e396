-- `listing::event_line` meets its contract.
-- Assumes nothing.
use Rattle.listing.specs.Lines.{event_line}
use Rattle.listing.proofs.Writing.{line_done, placed-more}
use Rattle.listing.proofs.event_line.Goals as goal

pub returns : goal.returns
unfolding event_line
returns c = line_done (placed-more (placed-more (placed-more (placed-more c.field-p1.ensures c.field-p2.ensures) c.kind_field-p3.ensures) c.field-p4.ensures) (rw c.to_bits-bits.ensures at c.bits_field.ensures))
