-- What adding does to the slots: a detector that is added stands behind the others, and those stay. Assumes nothing.
use mathlib.Core.Path.{◌≡◌, refl, ap}
use mathlib.Core.Bool.{Bool, true, false}
use Prim.Native.Nat.{ℕ, ◌<◌}
use native.Mathlib.Omega.{arith}
use borrow.Author.Tests.{ltb-true}
use lib.Dec.{ltb}
use lib.ListN.{length}
use lib.Seq.{get_or-set_same, get_or-set_other}
use Rattle.lists.specs.All.{all_to}
use Rattle.slots.specs.Limits.{places}
use Rattle.slots.specs.declared.DetectorConfig.{DetectorConfig}
use Rattle.slots.specs.declared.Detectors.{Detectors}
use Rattle.slots.specs.declared.Slot.{Slot}
use Rattle.slots.specs.Slots.{detector_at, other_at, set_ok, blank}
use Rattle.slots.specs.Adding.{config_accepted, made_of, Adding, left, unless, put_of, add_of}
use Rattle.slots.proofs.Owed.{by_test}

-- the detectors before the new one stay where they are
module _ (s : Detectors) (i : ℕ) (here : i < s.count) where
  -- there is still something at i, and it is the same
  abbrev Stays : Detectors → Type 0
  Stays r = (i < r.count) × (detector_at r.slots i ≡ detector_at s.slots i)

  stays : Stays s
  stays = (here, refl)

  pub add-stays : (c : DetectorConfig) → Stays (add_of s c).set
  unfolding add_of put_of
  add-stays c =
      by_test Stays (set_ok s) _ _ stays (λ a. by_test Stays (config_accepted c) (left 1 s) _ stays
      (λ b. by_test Stays (all_to (other_at s.slots (made_of c)) s.count) (left 15 s) _ stays (λ n. by_test Stays (ltb s.count places) (left 15 s) _ stays
      (λ r. (omega (arith, here), ap (λ (x : Slot). x.detector) (get_or-set_other s.slots s.count i (record { detector = made_of c }) blank (λ e. absurd (omega (arith, here)))))))))

-- reply 0 comes by every test
past : (b : Bool) (v rest : Adding) → (v.number ≡ 0 → ⊥) → (unless b v rest).number ≡ 0 → (b ≡ true) × (rest.number ≡ 0)
past true v rest n e = (refl, e)
past false v rest n e = absurd (n e)

-- the new one stands behind them
pub add_last : (s : Detectors) (c : DetectorConfig) → length s.slots ≡ places → (add_of s c).number ≡ 0 → (s.count < (add_of s c).set.count) × (detector_at (add_of s c).set.slots s.count ≡ made_of c)
unfolding add_of put_of
add_last s c long e =
    let a = past (set_ok s) (left 14 s) _ (λ h. omega arith) e in
    let b = past (config_accepted c) (left 1 s) _ (λ h. omega arith) a.1 in
    let n = past (all_to (other_at s.slots (made_of c)) s.count) (left 15 s) _ (λ h. omega arith) b.1 in
    let r = past (ltb s.count places) (left 15 s) _ (λ h. omega arith) n.1 in
    let room : s.count < places = ltb-true _ _ r.0 in
    rw (a.0, b.0, n.0, r.0)
    (omega arith, ap (λ (x : Slot). x.detector) (get_or-set_same s.slots s.count (record { detector = made_of c }) blank (omega (arith, long))))
