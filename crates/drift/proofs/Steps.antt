-- What the code does, step by step, makes the definitions. Assumes nothing.
use Rattle.std.specs.Prelude.{Option, Some, None}
use Prim.Native.Nat.{ℕ, ◌≤◌, ◌<◌, min}
use mathlib.Core.Path.{◌≡◌}
use mathlib.Core.Bool.{true, false, ◌&&◌}
use mathlib.Core.List.{List}
use native.Mathlib.Nat.{min-eq_left}
use borrow.Author.Tests.{le-leb, lt-leb, eq-eqb, ne_eqb, ltb-true}
use lib.Dec.{ltb}
use lib.IntN.{pos}
use lib.ListN.{length}
use lib.Ieee.{Float, binary32, binary64, div, of_int, le, of_bits}
use Rattle.floats.specs.Clamp.{zero32}
use Rattle.floats.specs.Convert.{convert}
use Rattle.floats.specs.Sqrt.{sqrt}
use Rattle.std.proofs.lemmas.Bool.{and_parts}
use Rattle.lists.specs.Fold.{sum_to}
use Rattle.lists.specs.Squares.{square_at, away_at}
use Rattle.lists.specs.Laid.{laid}
use Rattle.detectors.specs.Common.{over_twice}
use Rattle.detectors.specs.Answers.{speaks, taken, refusal}
use Rattle.detectors.specs.declared.Judgement.{Judgement}
use Rattle.rvcsi_core.specs.declared.event.CsiEventKind.TheVariants.{BaselineChanged}
use Rattle.drift.specs.declared.BaselineDriftConfig.{BaselineDriftConfig}
use Rattle.drift.specs.declared.DriftState.{DriftState}
use Rattle.drift.specs.Settings.{drift_accepted}
use Rattle.drift.specs.Distance.{root_mean, relative_to, distance_of}
use Rattle.drift.specs.Drift.{most, length_ok, drift_in, anomaly_if, streak_of, ewma, Drifted, judging, begun, weighed, measured, drift_move, Driving, leaves, drift_step}

-- ---- the distance

module _ (cur base : List Float) where
  pub none : length cur ≡ 0 → zero32 ≡ distance_of cur base
  unfolding distance_of root_mean relative_to le of_bits
  none e = rw e

  pub some : (length cur ≡ 0 → ⊥) → length cur ≤ length base → (by a b x y r : Float) → by ≡ sqrt binary64 (of_int binary64 (pos (length cur)))
      → a ≡ sum_to binary64 (away_at cur base) (min (length cur) (length base)) → x ≡ convert binary32 (div binary64 (sqrt binary64 a) by)
      → b ≡ sum_to binary64 (square_at base) (min (length cur) (length base)) → y ≡ convert binary32 (div binary64 (sqrt binary64 b) by)
      → r ≡ relative_to y x → r ≡ distance_of cur base
  unfolding distance_of root_mean
  some h le by a b x y r eby ea ex eb ey er = rw (er, ex, ea, ey, eb, min-eq_left le, eby, ne_eqb (length cur) 0 h)

-- ---- one window

module _ (c : BaselineDriftConfig) (k : ℕ) (cur base l : List Float) (d : Float) (first : Option Judgement) (next : ℕ)
    (is-d : d ≡ distance_of cur base) (is-first : first ≡ anomaly_if c d) (is-next : next ≡ streak_of c k d) where
  pub at_count : c.drift_windows ≤ next → (x : Float) → x ≡ over_twice d c.drift_threshold → l ≡ laid cur base
      → judging (length cur) 0 first (speaks BaselineChanged x) l ≡ measured c k cur base
  unfolding measured weighed
  at_count h x e g = rw (← is-d, ← is-next, le-leb _ _ h, is-first, e, g)

  pub follows : next < c.drift_windows → l ≡ ewma c.ewma_alpha cur base → judging (length cur) next first None l ≡ measured c k cur base
  unfolding measured weighed
  follows h g = rw (← is-d, ← is-next, lt-leb _ _ h, is-first, g)

module _ (c : BaselineDriftConfig) (s : DriftState) (cur base : List Float) (r : Drifted) where
  pub first-list : s.baseline ≡ None → r ≡ begun s.drift_streak cur base → r ≡ drift_move c s cur base
  unfolding drift_move
  first-list e h = rw e h

  module _ (n : ℕ) (e : s.baseline ≡ Some n) where
    pub same_length : n ≡ length cur → r ≡ measured c s.drift_streak cur base → r ≡ drift_move c s cur base
    unfolding drift_move
    same_length g h = rw (e, eq-eqb n (length cur) g) h

    pub other_length : (n ≡ length cur → ⊥) → r ≡ begun 0 cur base → r ≡ drift_move c s cur base
    unfolding drift_move
    other_length g h = rw (e, ne_eqb n (length cur) g) h

-- ---- the replies, in their order

pub below_count : (c : BaselineDriftConfig) (s : DriftState) → drift_in c s ≡ true → s.drift_streak < c.drift_windows
unfolding drift_in
below_count c s e = ltb-true _ _ (and_parts (drift_accepted c && length_ok s.baseline) (ltb s.drift_streak c.drift_windows) e).1

-- a state in range can be stepped
pub driving : (c : BaselineDriftConfig) (s : DriftState) (n m : ℕ) → drift_in c s ≡ true → n ≤ most → most ≤ m → Driving c s.drift_streak n m
driving c s n m good few room = record { below = below_count c s good; few = few; room = room }

module _ (c : BaselineDriftConfig) (s : DriftState) (cur base : List Float) where
  pub short : length base < most → leaves base (refusal 13) ≡ drift_step c s cur base
  unfolding drift_step
  short h = rw (lt-leb most (length base) h)

  module _ (room : most ≤ length base) where
    pub bad : drift_in c s ≡ false → leaves base (refusal 14) ≡ drift_step c s cur base
    unfolding drift_step
    bad e = rw (le-leb most (length base) room, e)

    module _ (good : drift_in c s ≡ true) where
      pub long : most < length cur → leaves base (refusal 5) ≡ drift_step c s cur base
      unfolding drift_step
      long h = rw (le-leb most (length base) room, good, lt-leb (length cur) most h)

      pub judged : length cur ≤ most → (r : Drifted) → r ≡ drift_move c s cur base → leaves base (taken r) ≡ drift_step c s cur base
      unfolding drift_step
      judged few r e = rw (le-leb most (length base) room, good, le-leb (length cur) most few, e)
