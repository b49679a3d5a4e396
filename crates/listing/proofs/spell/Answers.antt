-- Spelling a number: a digit a turn, the last first.
use Rattle.listing.proofs.Digits.{spelt_more, spelt_done}
use Rattle.listing.proofs.spell.Goals as goal

pub loop-i-preserved : goal.loop-i-preserved
loop-i-preserved c = spelt_more _ c.loop-i.invariant c.loop-i-test.true c.glyph.ensures

pub returns : goal.returns
returns c = spelt_done c.loop-i.invariant c.loop-i-test.false
