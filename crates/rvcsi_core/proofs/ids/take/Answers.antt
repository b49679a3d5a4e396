-- `take` meets its contract.
use borrow.Author.Tests.{eq-eqb, ne_eqb}
use Rattle.rvcsi_core.specs.Counters.{last, given, counted}
use Rattle.rvcsi_core.proofs.ids.take.Goals as goal

pub returns-then-n-eq18446744073709551615 : goal.returns-then-n-eq18446744073709551615
unfolding given counted
returns-then-n-eq18446744073709551615 c = rw (eq-eqb _ last c.if-n-eq18446744073709551615.true)

pub returns : goal.returns
unfolding given counted
returns c = rw (ne_eqb _ last c.if-n-eq18446744073709551615.false)
