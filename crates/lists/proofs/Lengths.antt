-- A list over the front of a store leaves the store's length. Assumes nothing.
use Prim.Native.Nat.{ℕ, ◌≤◌}
use mathlib.Core.Path.{◌≡◌}
use mathlib.Core.List.{List, ◌++◌}
use native.Mathlib.Omega.{arith}
use lib.ListN.{length, drop, length-append, length-take, length-drop}
use Rattle.lists.specs.Tab.{tab}
use Rattle.lists.specs.Laid.{laid}
use Rattle.lists.proofs.Tab.{length-tab}

module _ {A : Type 0} where
  pub length-laid : (l s : List A) → length (laid l s) ≡ length s
  unfolding laid
  length-laid l s = simp (length-append, length-take, length-drop) (omega arith)

  pub length-tab-over : (f : ℕ → A) (n : ℕ) (s : List A) → n ≤ length s → length (tab f n ++ drop n s) ≡ length s
  length-tab-over f n s h = simp (length-append, length-tab, length-drop) (omega arith)
