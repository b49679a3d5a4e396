-- `judge_all` meets its contract.
use Rattle.slots.proofs.Rounds as law
use Rattle.slots.specs.Slots.{step_of}
use Rattle.slots.proofs.judge_all.Given as goal

abbrev pub invariant-loop-i : goal.invariant-loop-i
invariant-loop-i l = law.Turned (step_of l.w l.mean_amplitude) l.w l.first l.slots l.initial.baseline_store l.i l.g l.baseline_store
