-- The library's test for a finite value is the definition's. Assumes nothing.
use Rattle.std.proofs.Common.{◌≡◌, refl}
use Rattle.std.specs.Float.{float_is_finite}
use lib.Ieee.{Float, nan, inf, fin}
use lib.Ieee.Scale.{finite}

pub finite_is : (x : Float) → float_is_finite x ≡ finite x
unfolding float_is_finite
finite_is nan = refl
finite_is (inf s) = refl
finite_is (fin s m e) = refl
