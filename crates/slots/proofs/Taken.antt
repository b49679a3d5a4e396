-- A test of each slot of a list, as a chain over it makes it, and tests of a list's front. Assumes nothing.
use Rattle.std.specs.Prelude.{◌↔◌}
use Rattle.std.specs.List.{All}
use Rattle.std.proofs.lemmas.List.{get_or-take, get_or_default}
use Prim.Native.Nat.{ℕ, zero, suc, ◌≤◌, ◌<◌}
use mathlib.Core.Path.{◌≡◌, refl, sym, ap, ◌∙◌}
use mathlib.Core.Bool.{Bool, true, false, ◌&&◌}
use mathlib.Core.List.{List}
use native.Mathlib.Omega.{arith}
use lib.ListN.{length, take, get_or, length-take}
use borrow.Author.Tests.{le-leb, lt-leb}
use Rattle.lists.specs.All.{all_to}
use Rattle.lists.proofs.All.{all_each}
use Rattle.slots.specs.declared.Detector.{Detector}
use Rattle.slots.specs.declared.Slot.{Slot}
use Rattle.slots.specs.declared.Detectors.{Detectors}
use Rattle.slots.specs.Limits.{places}
use Rattle.slots.specs.Slots.{detector_at, in_at, other_at, fresh_at, set_ok, blank}

pub all_true : (p : ℕ → Bool) (n : ℕ) → ((i : ℕ) → i < n → p i ≡ true) → all_to p n ≡ true
unfolding all_to
all_true p zero h = refl
all_true p (suc n) h = rw (all_true p n (λ i b. h i (omega arith)), h n (omega arith))

-- one that fails is enough
pub one_fails : (p : ℕ → Bool) (n i : ℕ) → i < n → p i ≡ false → false ≡ all_to p n
one_fails p n i b e = go (all_to p n) refl
  where
    go : (t : Bool) → all_to p n ≡ t → false ≡ t
    go false g = refl
    go true g = sym e ∙ all_each p n g i b

-- tests that agree below n
same_to : (p q : ℕ → Bool) (n : ℕ) → ((i : ℕ) → i < n → p i ≡ q i) → all_to p n ≡ all_to q n
unfolding all_to
same_to p q zero h = refl
same_to p q (suc n) h = rw (same_to p q n (λ i b. h i (omega arith)), h n (omega arith)) refl

module _ (p : Detector → Bool) (l : List Slot) where
  abbrev Each : Type 0
  Each = All (λ (s : Slot). p s.detector ≡ true) l

  each : Each → (i : ℕ) → i < length l → p (detector_at l i) ≡ true
  each a i b = a i blank b

  from-each : ((i : ℕ) → i < length l → p (detector_at l i) ≡ true) → Each
  from-each a k d b = ap (λ (s : Slot). p s.detector) (get_or_default l k d blank b) ∙ a k b

  pub taken : (b : Bool) → (b ≡ true ↔ Each) → b ≡ all_to (λ i. p (detector_at l i)) (length l)
  taken true e = sym (all_true (λ i. p (detector_at l i)) (length l) (each (e.0 refl)))
  taken false e = go (all_to (λ i. p (detector_at l i)) (length l)) refl
    where
      go : (t : Bool) → all_to (λ i. p (detector_at l i)) (length l) ≡ t → false ≡ t
      go false g = refl
      go true g = e.1 (from-each (all_each (λ i. p (detector_at l i)) (length l) g))

-- the first n slots, as a list of their own
module _ (n : ℕ) (l : List Slot) where
  at_front : (i : ℕ) → i < n → detector_at (take n l) i ≡ detector_at l i
  at_front i b = ap (λ (s : Slot). s.detector) (get_or-take n l i blank b)

  within : n ≤ length l → length (take n l) ≡ n
  within few = length-take n l ∙ omega arith

  others : (d : Detector) (k : ℕ) → k ≤ n → all_to (other_at (take n l) d) k ≡ all_to (other_at l d) k
  others d k b = same_to (other_at (take n l) d) (other_at l d) k (λ i c. rw (at_front i (omega arith)) refl)

  pub in_front : n ≤ length l → all_to (in_at (take n l)) (length (take n l)) ≡ all_to (in_at l) n
  in_front few = rw (within few) (same_to (in_at (take n l)) (in_at l) n (λ i b. rw (at_front i b) refl))

  pub other_front : n ≤ length l → (d : Detector) → all_to (other_at (take n l) d) (length (take n l)) ≡ all_to (other_at l d) n
  other_front few d = rw (within few) (others d n (omega arith))

  -- whatever is read beyond the list's end
  pub fresh_here : (s : Slot) → n < length l
      → all_to (other_at (take n l) (get_or l n s).detector) (length (take n l)) ≡ fresh_at l n
  fresh_here s b =
      other_front (omega arith) (get_or l n s).detector
      ∙ ap (λ (x : Slot). all_to (other_at l x.detector) n) (get_or_default l n s blank b)

  pub fresh_front : n ≤ length l → all_to (fresh_at (take n l)) (length (take n l)) ≡ all_to (fresh_at l) n
  fresh_front few =
      rw (within few) (same_to (fresh_at (take n l)) (fresh_at l) n (λ i b. rw (at_front i b) (others (detector_at l i) i (omega arith))))

-- a set whose slots in use are the list l
pub set_of : (s : Detectors) (l : List Slot) → length s.slots ≡ places → s.count ≤ places → l ≡ take s.count s.slots
    → (all_to (in_at l) (length l) && all_to (fresh_at l) (length l)) ≡ set_ok s
unfolding set_ok
set_of s l e few is =
    rw (is, in_front s.count s.slots (omega (arith, e, few)), fresh_front s.count s.slots (omega (arith, e, few)), le-leb s.count places few) refl

pub set_over : (s : Detectors) → places < s.count → false ≡ set_ok s
unfolding set_ok
set_over s more = rw (lt-leb s.count places more) refl
