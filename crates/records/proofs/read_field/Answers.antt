-- Reading a field: the number, and the limit of its kind.
use Rattle.std.proofs.Common.{arith}
use Rattle.std.proofs.lemmas.Result.{err_from_is_err_and}
use Rattle.records.proofs.Heads.{no_number, any-number, flag-within, flag-over, count-within, count-over}
use Rattle.records.proofs.read_field.Goals as goal

pub returns-in_err-read : goal.returns-in_err-read
returns-in_err-read c =
    let p = err_from_is_err_and c.from_residual.result c.from_residual.ensures.1 in
    rw (p.1, p.2) (no_number _ _ c.args.field c.in_err-read.ensures)

pub returns-in-Flag : goal.returns-in-Flag
returns-in-Flag c = flag-over _ _ c.in_ok-read.ensures c.in-Flag.is (omega arith)

pub returns-in-Count : goal.returns-in-Count
returns-in-Count c = count-over _ _ c.in_ok-read.ensures c.in-Count.is (omega arith)

pub returns-in_default : goal.returns-in_default
returns-in_default c = flag-within _ _ c.in_ok-read.ensures c.in-Flag.is (omega arith)

pub returns-in_default-2 : goal.returns-in_default-2
returns-in_default-2 c = count-within _ _ c.in_ok-read.ensures c.in-Count.is (omega arith)

pub returns-in_default-3 : goal.returns-in_default-3
returns-in_default-3 c = any-number _ _ c.in_ok-read.ensures c.in_default.is
