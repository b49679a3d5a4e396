-- A block ends: each case takes at least 16 bytes.
use Rattle.std.proofs.Common.{length}
use Rattle.record_vectors.proofs.run_block.Given as goal

abbrev pub decreases-loop-group : goal.decreases-loop-group
decreases-loop-group l = length l.rest
