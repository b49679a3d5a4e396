-- The floats written so far, over the front of the list.
use Rattle.lists.proofs.Tab.{Over}
use Rattle.recording.specs.Heard.{float_at}
use Rattle.recording.proofs.floats_of.Given as goal

abbrev pub invariant-loop-i : goal.invariant-loop-i
invariant-loop-i l = Over (float_at l.bits) l.initial.out l.i l.out
