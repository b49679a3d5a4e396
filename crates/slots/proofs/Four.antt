-- Four kinds, each at most once: a set in range that is full has them all, so 15 is given exactly where the kind is there. Assumes nothing.
use mathlib.Core.Path.{◌≡◌, refl}
use mathlib.Core.Bool.{Bool, true, false, not, ◌&&◌, false≢true}
use mathlib.Core.List.{List}
use Prim.Native.Nat.{ℕ, zero, suc, ◌+◌, ◌≤◌}
use native.Mathlib.Omega.{arith}
use borrow.Author.Tests.{leb-true}
use lib.Dec.{eqb, leb, ltb}
use lib.ListN.{set}
use Rattle.lists.specs.All.{all_to}
use Rattle.std.proofs.lemmas.Bool.{and_parts}
use Rattle.slots.specs.Limits.{places}
use Rattle.slots.specs.declared.Detector.{Detector}
use Rattle.slots.specs.declared.Detector.TheVariants.{Presence, Motion, Quality, Drift}
use Rattle.slots.specs.declared.Detectors.{Detectors}
use Rattle.slots.specs.declared.Slot.{Slot}
use Rattle.slots.specs.Slots.{kind_number, detector_at, in_at, other_at, fresh_at, set_ok}
use Rattle.slots.specs.Adding.{unless, left, put_of}

-- a test of every kind
abbrev every : (ℕ → Bool) → Bool
every p = p 0 && (p 1 && (p 2 && p 3))

of_each : (p : ℕ → Bool) → every p ≡ true → (d : Detector) → p (kind_number d) ≡ true
of_each p h d =
    let a = and_parts (p 0) (p 1 && (p 2 && p 3)) h in
    let b = and_parts (p 1) (p 2 && p 3) a.1 in
    let c = and_parts (p 2) (p 3) b.1 in
    go a.0 b.0 c.0 c.1 d
  where
    go : p 0 ≡ true → p 1 ≡ true → p 2 ≡ true → p 3 ≡ true → (d : Detector) → p (kind_number d) ≡ true
    go a b c e (Presence _ _) = a
    go a b c e (Motion _ _) = b
    go a b c e (Quality _ _) = c
    go a b c e (Drift _ _) = e

-- five kinds are never all apart
apart : ℕ → ℕ → ℕ → ℕ → ℕ → Bool
apart a b c e x =
    not
    (((((true && true) && (true && not (eqb a b))) && ((true && not (eqb a c)) && not (eqb b c)))
    && (((true && not (eqb a e)) && not (eqb b e)) && not (eqb c e)))
    && ((((true && not (eqb a x)) && not (eqb b x)) && not (eqb c x)) && not (eqb e x)))

never : every (λ a. every (λ b. every (λ c. every (λ e. every (λ x. apart a b c e x))))) ≡ true
unfolding apart
never = refl

module _ (l : List Slot) (d : Detector) where
  at : ℕ → Detector
  at i = detector_at l i

  not-all : apart (kind_number (at 0)) (kind_number (at 1)) (kind_number (at 2)) (kind_number (at 3)) (kind_number d) ≡ true
  not-all =
      of_each (λ x. apart (kind_number (at 0)) (kind_number (at 1)) (kind_number (at 2)) (kind_number (at 3)) x)
      (of_each (λ e. every (λ x. apart (kind_number (at 0)) (kind_number (at 1)) (kind_number (at 2)) e x))
      (of_each (λ c. every (λ e. every (λ x. apart (kind_number (at 0)) (kind_number (at 1)) c e x)))
      (of_each (λ b. every (λ c. every (λ e. every (λ x. apart (kind_number (at 0)) b c e x))))
      (of_each (λ a. every (λ b. every (λ c. every (λ e. every (λ x. apart a b c e x))))) never
      (at 0)) (at 1)) (at 2)) (at 3)) d

  not-both : not (all_to (fresh_at l) 4 && all_to (other_at l d) 4) ≡ true
  unfolding apart all_to at
  not-both = not-all

  no-fifth : all_to (fresh_at l) 4 ≡ true → all_to (other_at l d) 4 ≡ true → ⊥
  no-fifth h g = false≢true (rw (h, g) at not-both)

-- a set in range, and a kind that is not there: a place is left
pub place_left : (s : Detectors) (d : Detector) → set_ok s ≡ true → all_to (other_at s.slots d) s.count ≡ true → ltb s.count places ≡ true
unfolding set_ok
place_left s d h g =
    let a = and_parts (leb s.count places) (all_to (in_at s.slots) s.count && all_to (fresh_at s.slots) s.count) h in
    let b = and_parts (all_to (in_at s.slots) s.count) (all_to (fresh_at s.slots) s.count) a.1 in
    go s.count (leb-true _ _ a.0) b.1 g
  where
    go : (n : ℕ) → n ≤ places → all_to (fresh_at s.slots) n ≡ true → all_to (other_at s.slots d) n ≡ true → ltb n places ≡ true
    go zero l f o = refl
    go (suc zero) l f o = refl
    go (suc (suc zero)) l f o = refl
    go (suc (suc (suc zero))) l f o = refl
    go (suc (suc (suc (suc zero)))) l f o = absurd (no-fifth s.slots d f o)
    go (suc (suc (suc (suc (suc n))))) l f o = absurd (omega arith)

-- "kind already added": 15 is given only then
pub only_there : (s : Detectors) (d : Detector) → set_ok s ≡ true → (put_of s d).number ≡ 15 → all_to (other_at s.slots d) s.count ≡ false
unfolding put_of
only_there s d h = go (all_to (other_at s.slots d) s.count) (place_left s d h)
  where
    more : Detectors
    more = record { slots = set s.slots s.count (record { detector = d }); count = s.count + 1 }

    go : (b : Bool) → (b ≡ true → ltb s.count places ≡ true) → (unless b (left 15 s) (unless (ltb s.count places) (left 15 s) (left 0 more))).number ≡ 15 → b ≡ false
    go false r e = refl
    go true r e = absurd (let z = rw (r refl) at e in omega arith)
