-- Zeros in front: those passed are to be dropped.
use Rattle.listing.proofs.Digits.{Dropped}
use Rattle.listing.proofs.zeros.Given as goal

abbrev pub invariant-loop-i : goal.invariant-loop-i
invariant-loop-i l = Dropped l.text l.i
