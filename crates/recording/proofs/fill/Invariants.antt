-- Reading moves neither the buffer's first byte nor the next record's place in it.
use Rattle.std.proofs.Common.{◌≡◌}
use Rattle.recording.proofs.fill.Given as goal

abbrev pub invariant-loop : goal.invariant-loop
invariant-loop g l = (l.next.base ≡ l.initial.next.base) × (l.next.at ≡ l.initial.next.at)
