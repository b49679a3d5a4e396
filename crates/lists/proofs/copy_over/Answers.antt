-- What is copied so far stands over the front of the store. Assumes nothing.
use mathlib.Core.Path.{refl}
use native.Mathlib.Omega.{arith}
use borrow.Author.Rules.{rules}
use lib.Ieee.{nan}
use Rattle.lists.proofs.Tab.{over_none, over-more}
use Rattle.lists.proofs.Paste.{over-laid}
use Rattle.lists.proofs.copy_over.Goals as goal

pub loop-k-init : goal.loop-k-init
loop-k-init c = (search rules, over_none _ _)

pub loop-k-preserved : goal.loop-k-preserved
loop-k-preserved c = (omega arith, over-more c.loop-k.invariant.1 (omega arith) refl)

pub returns : goal.returns
returns c = over-laid nan _ _ c.loop-k.invariant.1 (omega (arith, c.min-n.ensures))
