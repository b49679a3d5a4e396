-- A case that the laws of a call share: a test goes either way. Assumes nothing.
use mathlib.Core.Path.{◌≡◌, refl}
use mathlib.Core.Bool.{Bool, true, false, cond}

-- what is made of either arm is made of the one taken
pub cond_made : {A B : Type 0} (f : A → B) (t : Bool) (x y : A) → cond t (f x) (f y) ≡ f (cond t x y)
cond_made f true x y = refl
cond_made f false x y = refl
