-- The floats after a header: their length is tested, then the lists are written.
use Rattle.std.proofs.Common.{sym, ap, arith}
use Rattle.records.specs.Records.{Reading}
use Rattle.records.specs.Answers.{stored}
use Rattle.records.proofs.Body.{body-cut, body-read}
use Rattle.records.proofs.read_body.Goals as goal

pub returns-then-left-size-clause-outcome : goal.returns-then-left-size-clause-outcome
returns-then-left-size-clause-outcome c =
    let l = c.args.lists.now in
    ap (λ (r : Reading). stored r l.amplitudes.now l.phases.now l.pairs.now) (sym (body-cut c.args.input.now c.args.h c.args.at c.if-left-size.true))

pub returns-clause-outcome : goal.returns-clause-outcome
returns-clause-outcome c =
    let l = c.read_lists.ensures in
    body-read c.args.input.now c.args.h c.args.at _ _ _ _ _ _ _ (omega (arith, c.if-left-size.false)) c.read_float-quality.ensures l.amplitudes l.phases l.pairs
