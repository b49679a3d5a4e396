-- What the answer of a test says. Assumes nothing.
use mathlib.Core.Path.{◌≡◌, refl, sym, subst, ◌∙◌}
use mathlib.Core.Bool.{Bool, true, false, ◌&&◌, cond}
use Prim.Native.Nat.{ℕ, ◌+◌, ◌-◌, ◌<◌}
use native.Mathlib.Omega.{arith}
use lib.Dec.{T, leb}
use borrow.Author.Tests.{le-leb, lt-leb, leb-true, leb-false}

-- ---- a test's value

pub holds : {b : Bool} → b ≡ true → T b
holds e = rw e tt

pub shown : (b : Bool) → T b → b ≡ true
shown true t = refl
shown false t = absurd t

pub fails : {b : Bool} → b ≡ false → T b → ⊥
fails e t = subst T e t

pub is_false : (b : Bool) → (T b → ⊥) → b ≡ false
is_false true f = absurd (f tt)
is_false false f = refl

pub join : (a b : Bool) → a ≡ true → b ≡ true → (a && b) ≡ true
join a b p q = rw (p, q)

pub both : (a b : Bool) → T a → T b → T (a && b)
both true b s t = t
both false b s t = absurd s

pub parts : (a b : Bool) → T (a && b) → T a × T b
parts true b t = (tt, t)
parts false b t = absurd t

-- a test's value with its equation
pub known : {X : Type 0} (b : Bool) → (b ≡ true → X) → (b ≡ false → X) → X
known true f g = f refl
known false f g = g refl

-- what holds of both branches, each under its test
pub either : {A : Type 0} (P : A → Type 0) (b : Bool) (x y : A) → (b ≡ true → P x) → (b ≡ false → P y) → P (cond b x y)
either P true x y p q = p refl
either P false x y p q = q refl

-- one less on both sides
pub leb_less : (n k : ℕ) → 0 < n → leb n (k + 1) ≡ leb (n - 1) k
leb_less n k h =
    known (leb n (k + 1)) (λ e. e ∙ sym (le-leb (n - 1) k (omega (arith, leb-true n (k + 1) e)))) (λ e. e ∙ sym (lt-leb (n - 1) k (omega (arith, leb-false n (k + 1) e))))

-- ---- a function gave a test, and `if !..` went on, or in

pub passed : {b e : Bool} → b ≡ e → b ≡ true → e ≡ true
passed g h = sym g ∙ h

pub failed : {b e : Bool} → b ≡ e → b ≡ false → e ≡ false
failed g h = sym g ∙ h

pub and2 : (a b : Bool) → (a && b) ≡ true → (a ≡ true) × (b ≡ true)
and2 true b t = (refl, t)
and2 false b t = (t, absurd (mathlib.Core.Bool.false≢true t))

-- ---- two constructors are never equal: `cc` shows 0 ≡ 1 from such an equation

pub zero_one : ◌≡◌ {A = ℕ} 0 1 → ⊥
zero_one z = omega arith
