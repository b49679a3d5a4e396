-- The windows behind the oldest come one place forward. Assumes nothing.
use borrow.Author.Rules.{rules}
use native.Mathlib.Omega.{arith}
use mathlib.Core.Path.{refl}
use Rattle.lists.proofs.Tab.{over_none, over-more, over_done}
use Rattle.pipeline.proofs.Windows.{shifted_is}
use Rattle.pipeline.proofs.recent.shifted.Goals as goal

pub loop-k-init : goal.loop-k-init
loop-k-init c = (search rules, over_none _ _)

pub loop-k-preserved : goal.loop-k-preserved
loop-k-preserved c = (omega arith, over-more c.loop-k.invariant.1 (omega arith) refl)

pub returns : goal.returns
returns c = shifted_is c.args.old c.loop-k.new _ (search rules) (over_done c.loop-k.invariant.1 (omega arith))
