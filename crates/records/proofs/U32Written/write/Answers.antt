-- Writing a float: its four bytes.
use Rattle.std.proofs.Common.{◌∙◌, arith}
use Rattle.records.proofs.Runs.{put-sets, float-bytes}
use Rattle.records.proofs.U32Written.write.Goals as goal

pub returns-clause-written : goal.returns-clause-written
returns-clause-written c = put-sets _ c.args.at _ _ _ (omega arith) (c.copy_from_slice.ensures.after ∙ c.to_le_bytes.ensures ∙ float-bytes c.args.self c.ranges.self.fits) (omega arith)
