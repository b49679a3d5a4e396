-- What is heard, by the reader's answer.
use Rattle.std.proofs.Common.{Ok, refl, ap}
use Rattle.std.proofs.lemmas.Result.{err_from_is_err_and}
use Rattle.recording.proofs.Hearing.{hears, hears-nothing, hears-error}
use Rattle.recording.proofs.next_record.Goals as goal

pub returns-in_err-read : goal.returns-in_err-read
returns-in_err-read c =
    let p = err_from_is_err_and c.from_residual.result c.from_residual.ensures.1 in
    rw (p.1, p.2) (hears-error c.args.input.now c.args.at c.args.amplitude.now c.args.phase.now c.args.pairs.now c.in_err-read.ensures.outcome _ refl)

pub returns-in-Some : goal.returns-in-Some
returns-in-Some c =
    hears c.args.input.now c.args.at c.args.amplitude.now c.args.phase.now c.args.pairs.now c.in_ok-read.ensures.outcome (ap Ok c.in-Some.is) c.floats_of.ensures c.floats_of-in-Some.ensures c.min-m.ensures c.floats_of-in-Some-2.ensures

pub returns-in_default : goal.returns-in_default
returns-in_default c =
    rw c.in_default.is (hears-nothing c.args.input.now c.args.at c.args.amplitude.now c.args.phase.now c.args.pairs.now c.in_ok-read.ensures.outcome (ap Ok c.in_default.is))
