-- What a loop that tests 0, 1, .., n - 1 keeps. Assumes nothing.
use Prim.Native.Nat.{ℕ, zero, suc, ◌+◌, ◌<◌}
use mathlib.Core.Path.{◌≡◌, refl}
use mathlib.Core.Bool.{Bool, true, ◌&&◌}
use native.Mathlib.Numerals.{add-one}
use native.Mathlib.Omega.{arith}
use native.Mathlib.Nat.{eq-or-lt_of_le}
use mathlib.Core.Logic.{⊎_elim}
use Rattle.lists.specs.All.{all_to}
use Rattle.std.proofs.lemmas.Bool.{and_parts}

-- one test more
pub all_to_more : (p : ℕ → Bool) (n : ℕ) → (all_to p n && p n) ≡ all_to p (n + 1)
unfolding all_to
all_to_more p n = rw add-one refl

pub record All (p : ℕ → Bool) (n : ℕ) (b : Bool) : Type 0 where
  pub is : b ≡ all_to p n

pub all_none : (p : ℕ → Bool) → All p 0 true
unfolding all_to
all_none p = record { is = refl }

pub all_more : {p : ℕ → Bool} {n : ℕ} {b v r : Bool} → All p n b → v ≡ p n → r ≡ (b && v) → All p (n + 1) r
unfolding all_to
all_more {p} {n} a e g = record { is = rw (g, a.is, e, add-one n) }

pub all_done : {p : ℕ → Bool} {k n : ℕ} {b : Bool} → All p k b → k ≡ n → b ≡ all_to p n
all_done a e = rw e at a.is

-- what is tested of all holds of each
pub all_each : (p : ℕ → Bool) (n : ℕ) → all_to p n ≡ true → (k : ℕ) → k < n → p k ≡ true
unfolding all_to
all_each p zero h k b = absurd (omega arith)
all_each p (suc n) h k b = ⊎_elim
    (λ e. rw e (and_parts (all_to p n) (p n) h).1)
    (λ l. all_each p n (and_parts _ _ h).0 k l)
    (eq-or-lt_of_le {n = k} {m = n} (omega arith))
