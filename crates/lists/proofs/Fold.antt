-- Laws of sums. Assumes nothing.
use Prim.Native.Nat.{ℕ, zero, suc, ◌+◌, ◌<◌}
use native.Mathlib.Omega.{arith}
use native.Mathlib.Nat.{eq-or-lt_of_le}
use mathlib.Core.Logic.{⊎_elim}
use native.Mathlib.Numerals.{add-one}
use mathlib.Core.Path.{◌≡◌, refl}
use lib.IntN.{pos}
use lib.Ieee.{Float, nan, inf, fin, Format, add, div, of_int, of_bits}
use Rattle.lists.specs.Fold.{sum_to, mean_to}

-- one summand more
pub sum_to_more : (f : Format) (x : ℕ → Float) (j : ℕ) → add f (sum_to f x j) (x j) ≡ sum_to f x (j + 1)
unfolding sum_to
sum_to_more f x j = rw add-one

-- t is the sum of the first j: what a loop that sums keeps
pub record Sum (f : Format) (x : ℕ → Float) (j : ℕ) (t : Float) : Type 0 where
  pub is : t ≡ sum_to f x j

pub sum_none : (f : Format) (x : ℕ → Float) → Sum f x 0 (of_bits f 0)
unfolding sum_to
sum_none f x = record { is = refl }

pub sum_more : {f : Format} {x : ℕ → Float} {j : ℕ} {t v : Float} → Sum f x j t → v ≡ x j → Sum f x (j + 1) (add f t v)
sum_more {f} {x} {j} s g = record { is = rw (s.is, g) (sum_to_more f x j) }

pub sum_done : {f : Format} {x : ℕ → Float} {j n : ℕ} {t : Float} → Sum f x j t → j ≡ n → t ≡ sum_to f x n
sum_done s g = rw g at s.is

-- equal summands give equal sums
pub sum_same : (f : Format) (x y : ℕ → Float) (n : ℕ) → ((j : ℕ) → j < n → x j ≡ y j) → sum_to f x n ≡ sum_to f y n
unfolding sum_to
sum_same f x y zero h = refl
sum_same f x y (suc n) h = rw (sum_same f x y n (λ j b. h j (omega arith)), h n (omega arith))

pub mean_same : (f : Format) (x y : ℕ → Float) (n : ℕ) → ((j : ℕ) → j < n → x j ≡ y j) → mean_to f x n ≡ mean_to f y n
unfolding mean_to
mean_same f x y n h = rw (sum_same f x y n h)

-- a sum, divided
pub mean_is : (f : Format) (x : ℕ → Float) (n : ℕ) {t : Float} → t ≡ sum_to f x n → div f t (of_int f (pos n)) ≡ mean_to f x n
unfolding mean_to
mean_is f x n e = rw e

-- a summand that is a NaN makes the sum one, and the mean
add_nan : (f : Format) (t : Float) → add f t nan ≡ nan
unfolding add
add_nan f nan = refl
add_nan f (inf s) = refl
add_nan f (fin s m e) = refl

nan_add : (f : Format) (x : Float) → add f nan x ≡ nan
unfolding add
nan_add f x = refl

sum_nan : (f : Format) (x : ℕ → Float) (n k : ℕ) → k < n → x k ≡ nan → sum_to f x n ≡ nan
unfolding sum_to
sum_nan f x zero k h e = absurd (omega arith)
sum_nan f x (suc n) k h e = ⊎_elim
    (λ g. rw (← g, e) (add_nan f _))
    (λ b. rw (sum_nan f x n k b e) (nan_add f (x n)))
    (eq-or-lt_of_le {n = k} {m = n} (omega arith))

pub mean_nan : (f : Format) (x : ℕ → Float) (n k : ℕ) → k < n → x k ≡ nan → mean_to f x n ≡ nan
unfolding mean_to div
mean_nan f x n k h e = rw (sum_nan f x n k h e)

-- what the first sum has, and each sum that one summand more gives, the whole sum has
pub sum_has : (P : Float → Type 0) (f : Format) (x : ℕ → Float) (n : ℕ) → P (of_bits f 0)
    → ((t : Float) (j : ℕ) → j < n → P t → P (add f t (x j))) → P (sum_to f x n)
unfolding sum_to
sum_has P f x zero z h = z
sum_has P f x (suc n) z h = h _ n (omega arith) (sum_has P f x n z (λ t j b. h t j (omega arith)))
