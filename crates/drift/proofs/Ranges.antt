-- A detector in range stays in range, and the store keeps its length, whatever the list. Assumes nothing.
use Rattle.std.specs.Prelude.{Option, Some, None}
use mathlib.Core.Path.{◌≡◌, refl}
use mathlib.Core.Bool.{true, false, ◌&&◌}
use mathlib.Core.List.{List}
use Prim.Native.Nat.{ℕ, ◌<◌, ◌≤◌}
use borrow.Author.Tests.{le-leb, lt-ltb, leb-false, ltb-true}
use lib.Dec.{leb, ltb, eqb}
use lib.ListN.{length}
use lib.Ieee.{Float}
use Rattle.std.proofs.lemmas.Bool.{and_parts, cond_both}
use Rattle.drift.specs.declared.BaselineDriftConfig.{BaselineDriftConfig}
use Rattle.drift.specs.declared.DriftState.{DriftState}
use Rattle.drift.specs.Settings.{drift_accepted, drift_fresh}
use Rattle.drift.specs.Drift.{most, length_ok, drift_in, Drifted, begun, smoothed, streak_of, weighed, measured, from, drift_move}
use Rattle.lists.proofs.Lengths.{length-laid, length-tab-over}
use Rattle.drift.proofs.Thresholds.{settings}

-- what holds of each of the three ways a window can go holds of the window
pub each_way : (P : Drifted → Type 0) (c : BaselineDriftConfig) (s : DriftState) (cur base : List Float)
    → (s.baseline ≡ None → P (begun s.drift_streak cur base))
    → ((n : ℕ) → s.baseline ≡ Some n → eqb n (length cur) ≡ true → P (measured c s.drift_streak cur base))
    → ((n : ℕ) → s.baseline ≡ Some n → eqb n (length cur) ≡ false → P (begun 0 cur base))
    → P (drift_move c s cur base)
unfolding drift_move
each_way P c s cur base p q r = go s.baseline p q r
  where
    go : (b : Option ℕ) → (b ≡ None → P (begun s.drift_streak cur base))
        → ((n : ℕ) → b ≡ Some n → eqb n (length cur) ≡ true → P (measured c s.drift_streak cur base))
        → ((n : ℕ) → b ≡ Some n → eqb n (length cur) ≡ false → P (begun 0 cur base))
        → P (from b c s.drift_streak cur base)
    go None p q r = p refl
    go (Some n) p q r = cond_both (eqb n (length cur)) (measured c s.drift_streak cur base) (begun 0 cur base) P (q n refl) (r n refl)

-- ---- the store's length

weighed_length : (c : BaselineDriftConfig) (k : ℕ) (d : Float) (cur base : List Float) → length cur ≤ length base → length (weighed c k d cur base).store ≡ length base
unfolding weighed
weighed_length c k d cur base h =
    cond_both (leb c.drift_windows (streak_of c k d)) _ _ (λ (r : Drifted). length r.store ≡ length base)
    (λ e. length-laid cur base) (λ e. length-tab-over (smoothed c.ewma_alpha cur base) (length cur) base h)

pub move_length : (c : BaselineDriftConfig) (s : DriftState) (cur base : List Float) → length cur ≤ length base → length (drift_move c s cur base).store ≡ length base
unfolding measured
move_length c s cur base h =
    each_way (λ (d : Drifted). length d.store ≡ length base) c s cur base
    (λ e. length-laid cur base) (λ n e t. weighed_length c s.drift_streak _ cur base h) (λ n e t. length-laid cur base)

-- ---- the baseline's length, and the streak

-- a state that holds a list of n and a streak below its count
pub record After (c : BaselineDriftConfig) (n : ℕ) (s : DriftState) : Type 0 where
  pub set : s.baseline ≡ Some n
  pub below : s.drift_streak < c.drift_windows

weighed_after : (c : BaselineDriftConfig) (k : ℕ) (d : Float) (cur base : List Float) → 0 < c.drift_windows → After c (length cur) (weighed c k d cur base).moved.state
unfolding weighed
weighed_after c k d cur base some =
    cond_both (leb c.drift_windows (streak_of c k d)) _ _ (λ (r : Drifted). After c (length cur) r.moved.state)
    (λ e. record { set = refl; below = some }) (λ e. record { set = refl; below = leb-false _ _ e })

pub move_after : (c : BaselineDriftConfig) (s : DriftState) (cur base : List Float) → s.drift_streak < c.drift_windows → 0 < c.drift_windows → After c (length cur) (drift_move c s cur base).moved.state
unfolding measured
move_after c s cur base below some =
    each_way (λ (d : Drifted). After c (length cur) d.moved.state) c s cur base
    (λ e. record { set = refl; below = below }) (λ n e t. weighed_after c s.drift_streak _ cur base some) (λ n e t. record { set = refl; below = some })

pub after_in : (c : BaselineDriftConfig) (n : ℕ) (s : DriftState) → drift_accepted c ≡ true → n ≤ most → After c n s → drift_in c s ≡ true
unfolding drift_in
after_in c n s ok few a = rw (ok, a.set, le-leb n most few, lt-ltb s.drift_streak c.drift_windows a.below)

pub drift_begins : (c : BaselineDriftConfig) → drift_accepted c ≡ true → drift_in c drift_fresh ≡ true
unfolding drift_in
drift_begins c ok = rw (ok, lt-ltb 0 c.drift_windows (settings c ok).some)

-- "state out of range" never arises by itself
pub drift_stays : (c : BaselineDriftConfig) (s : DriftState) (cur base : List Float) → length cur ≤ most → drift_in c s ≡ true → drift_in c (drift_move c s cur base).moved.state ≡ true
unfolding drift_in
drift_stays c s cur base few h =
    let a = and_parts (drift_accepted c && length_ok s.baseline) (ltb s.drift_streak c.drift_windows) h in
    let ok = (and_parts (drift_accepted c) (length_ok s.baseline) a.0).0 in
    after_in c (length cur) (drift_move c s cur base).moved.state ok few (move_after c s cur base (ltb-true _ _ a.1) (settings c ok).some)
