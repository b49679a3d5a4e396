-- What a test's answer says. Assumes nothing.
use mathlib.Core.Path.{◌≡◌, refl, sym, subst, ◌∙◌}
use mathlib.Core.Bool.{Bool, true, false, ◌&&◌}
use Prim.Native.Nat.{ℕ, ◌+◌, ◌-◌, ◌<◌}
use native.Mathlib.Omega.{arith}
use lib.Dec.{T, leb}
use Rattle.std.proofs.lemmas.Bool.{le-leb, lt-leb, leb-true, leb-false}

pub shown : (b : Bool) → T b → b ≡ true
shown true t = refl
shown false t = absurd t

pub fails : {b : Bool} → b ≡ false → T b → ⊥
fails e t = subst T e t

pub is_false : (b : Bool) → (T b → ⊥) → b ≡ false
is_false true f = absurd (f tt)
is_false false f = refl

pub both : (a b : Bool) → T a → T b → T (a && b)
both true b s t = t
both false b s t = absurd s

pub parts : (a b : Bool) → T (a && b) → T a × T b
parts true b t = (tt, t)
parts false b t = absurd t

-- a test's value with its equation
pub known : {X : Type 0} (b : Bool) → (b ≡ true → X) → (b ≡ false → X) → X
known true f g = f refl
known false f g = g refl

-- one less on both sides
pub leb_less : (n k : ℕ) → 0 < n → leb n (k + 1) ≡ leb (n - 1) k
leb_less n k h =
    known (leb n (k + 1)) (λ e. e ∙ sym (le-leb (n - 1) k (omega (arith, leb-true n (k + 1) e)))) (λ e. e ∙ sym (lt-leb (n - 1) k (omega (arith, leb-false n (k + 1) e))))
