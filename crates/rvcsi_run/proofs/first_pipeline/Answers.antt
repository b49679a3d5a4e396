-- The pipeline of the first record, by what the reader finds.
use Rattle.std.proofs.Common.{Ok, ap, ◌∙◌}
use Rattle.rvcsi_run.proofs.Firsts.{first_is, none_first}
use Rattle.rvcsi_run.proofs.first_pipeline.Goals as goal

pub returns-in-Ok-Some : goal.returns-in-Ok-Some
returns-in-Ok-Some c = first_is c.args.input.now c.read_record.ensures.outcome (c.in-Ok-Some.is ∙ ap Ok c.in-Ok-Some.field-0-is) c.with_defaults.ensures

pub returns-in-Ok-None : goal.returns-in-Ok-None
returns-in-Ok-None c = first_is c.args.input.now c.read_record.ensures.outcome (c.in-Ok-None.is ∙ ap Ok c.in-Ok-None.field-0-is) c.with_defaults-in-Ok-None.ensures

pub returns-in-Err : goal.returns-in-Err
returns-in-Err c = first_is c.args.input.now c.read_record.ensures.outcome c.in-Err.is (none_first c.in-Err.field-0 c.with_defaults-in-Err.ensures)
