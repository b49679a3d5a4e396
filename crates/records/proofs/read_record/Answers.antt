-- Reading a record: each test says which reply is owed.
use Rattle.std.proofs.Common.{sym, ◌∙◌}
use Rattle.std.proofs.lemmas.Result.{err_from_is_err_and}
use Rattle.records.proofs.Answers.{stores-are, begun, read_short, read_none, read-stopped, read-begun}
use Rattle.records.proofs.read_record.Goals as goal

pub returns-then-not-stores_long-clause-outcome : goal.returns-then-not-stores_long-clause-outcome
returns-then-not-stores_long-clause-outcome c = read_short _ _ _ _ _ (sym c.stores_long.ensures ∙ c.if-not-stores_long.true)

pub returns-then-input-at-clause-outcome : goal.returns-then-input-at-clause-outcome
returns-then-input-at-clause-outcome c = read_none _ _ _ _ _ (sym c.stores_long.ensures ∙ c.if-not-stores_long.false) c.if-input-at.true

pub read_body-requires : goal.read_body-requires
read_body-requires c =
    let w = begun c.args.input.now c.args.at _ _ c.if-input-at.false c.in_ok-head.ensures in
    let l = stores-are _ _ _ (sym c.stores_long.ensures ∙ c.if-not-stores_long.false) in
    (w.subcarriers, w.pairs, w.inside, l.0, l.1, l.2)

pub returns-in_err-head-clause-outcome : goal.returns-in_err-head-clause-outcome
returns-in_err-head-clause-outcome c =
    let p = err_from_is_err_and c.from_residual.result c.from_residual.ensures.1 in
    rw (p.1, p.2) (read-stopped _ _ _ _ _ (sym c.stores_long.ensures ∙ c.if-not-stores_long.false) _ c.if-input-at.false c.in_err-head.ensures)

pub returns-clause-outcome : goal.returns-clause-outcome
returns-clause-outcome c = read-begun _ _ _ _ _ (sym c.stores_long.ensures ∙ c.if-not-stores_long.false) (begun c.args.input.now c.args.at _ _ c.if-input-at.false c.in_ok-head.ensures) _ c.read_body.ensures.outcome
