-- Bytes copied to their place.
use Rattle.std.proofs.Common.{refl, arith}
use Rattle.listing.proofs.Writing.{put-sets}
use Rattle.listing.proofs.put.Goals as goal

pub returns : goal.returns
returns c = (refl, put-sets _ c.args.at _ _ _ (omega arith) c.copy_from_slice.ensures.after (omega arith))
