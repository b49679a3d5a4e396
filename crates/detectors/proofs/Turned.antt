-- What `met`, `count_for` and `advance` make together: one window of the switch. Assumes nothing.
use mathlib.Core.Path.{◌≡◌, refl, ◌∙◌}
use mathlib.Core.Bool.{Bool, true, false}
use Prim.Native.Nat.{ℕ, ◌+◌}
use lib.Dec.{leb}
use Rattle.detectors.specs.declared.hysteresis.Latch.{Latch}
use Rattle.detectors.specs.Hysteresis.{for, moved, move}
use Rattle.detectors.specs.Latch.{latched}

pub for_same : {X : Type 0} (b : Bool) (x : X) → for b x x ≡ x
for_same false x = refl
for_same true x = refl

pub turned_so : (enter exit : ℕ) (hi lo b t : Bool) (k n : ℕ) (l : Latch) → n ≡ for b enter exit → t ≡ for b hi lo → latched l ≡ moved b t (leb n (k + 1)) k → latched l ≡ move enter exit hi lo b k
unfolding move
turned_so enter exit hi lo b t k n l is_count is-test f = f ∙ rw (is-test, is_count)
