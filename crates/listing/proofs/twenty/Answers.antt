-- `listing::twenty` meets its contract.
-- Assumes nothing.
use mathlib.Core.Path.{◌∙◌}
use Rattle.listing.specs.Text.{digits}
use Rattle.listing.proofs.Writing.{sets_whole}
use Rattle.listing.proofs.Digits.{digits_long}
use Rattle.listing.proofs.twenty.Goals as goal

pub returns : goal.returns
returns c = c.spell.ensures ∙ sets_whole _ (digits 10 20 c.args.n) (digits_long 10 20 c.args.n)
