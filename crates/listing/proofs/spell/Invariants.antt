-- Spelling a number: the digits to come, written, give them all.
use Rattle.listing.proofs.Digits.{Spelt}
use Rattle.listing.proofs.spell.Given as goal

abbrev pub invariant-loop-i : goal.invariant-loop-i
invariant-loop-i l = Spelt l.initial.out l.at l.base l.k l.n l.out l.i l.rest
