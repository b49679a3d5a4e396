-- `listing::stop_line` meets its contract.
-- Assumes nothing.
use mathlib.Core.List.{[], ◌∷◌}
use Rattle.listing.specs.Lines.{stop_line}
use Rattle.listing.proofs.Writing.{line_start, line_done, placed-more}
use Rattle.listing.proofs.stop_line.Goals as goal

pub returns : goal.returns
unfolding stop_line
returns c = line_done {d₀ = c.args.out.now} (placed-more (placed-more (line_start {d₀ = c.args.out.now} (115 ∷ 116 ∷ 111 ∷ 112 ∷ 44 ∷ []) c.put-p1.ensures.0 c.put-p1.ensures.1) c.field-p2.ensures) c.field.ensures)
