-- "window and event counters are lent and advanced in place": the promise of a call by value, with the counters behind the reference.
use Rattle.std.specs.Prelude.{List, Float}
use Rattle.rvcsi_core.specs.declared.ids.Ids.{Ids}
use Rattle.pipeline.specs.Process.{Outcome, outcome}
use Rattle.pipeline.specs.declared.Processed.{Processed}
use Rattle.in_place.specs.declared.Answered.{Answered}

-- the reply by value: the counters at exit, and what was returned beside them
abbrev pub together : Ids → Answered → Processed
together i r = record { reply = r.reply; ids = i; pipeline = r.pipeline; batch = r.batch }

-- all that comes out, as by value: counters, answer, and the amplitude, phase, baseline, mean and variance lists
abbrev pub lent : Ids → Answered → List Float → List Float → List Float → List Float → List Float → Outcome
lent i r A P B M W = outcome (together i r) A P B M W
