-- What the drift detector does over a history from fresh, with accepted settings. Assumes nothing.
use Rattle.std.specs.Prelude.{Option, Some, None}
use mathlib.Core.Path.{◌≡◌, refl, sym, ap, subst, ◌∙◌}
use mathlib.Core.Bool.{Bool, true, false, not, ◌&&◌, cond}
use mathlib.Core.List.{List, [], ◌∷◌, ◌++◌}
use Prim.Native.Nat.{ℕ, zero, suc, ◌+◌, ◌-◌, ◌≤◌, ◌<◌, zero-le}
use native.Mathlib.Omega.{arith}
use borrow.Author.Tests.{le-leb, lt-leb, leb-true, leb-false}
use lib.Dec.{leb}
use lib.ListN.{length, drop}
use lib.Ieee.{Float, lt}
use Rattle.lists.proofs.Paste.{laid-fits}
use Rattle.rvcsi_core.proofs.Tested.{known, leb_less}
use Rattle.std.proofs.lemmas.Bool.{cond_both}
use Rattle.detectors.specs.Common.{over_twice}
use Rattle.detectors.specs.Answers.{speaks, said, quiet, event, anomaly, baseline-changed, taken}
use Rattle.detectors.specs.declared.Judgement.{Judgement}
use Rattle.rvcsi_core.specs.declared.event.CsiEventKind.TheVariants.{AnomalyDetected, BaselineChanged}
use Rattle.drift.specs.declared.BaselineDriftConfig.{BaselineDriftConfig}
use Rattle.drift.specs.declared.DriftState.{DriftState}
use Rattle.drift.specs.Settings.{drift_accepted, drift_fresh, drift_new}
use Rattle.drift.specs.Distance.{distance_of}
use Rattle.drift.specs.Drift.{most, drift_in, Drifted, judging, begun, anomaly_if, streak_of, weighed, measured, drift_move, leaves, drift_step}
use Rattle.drift.specs.History.{Few, drift_run, first_says, second_says, holds, farther, drifts, is_quiet, drifted_for}
use Rattle.drift.proofs.Thresholds.{settings}
use Rattle.drift.proofs.Ranges.{each_way, move_length, move_after, drift_begins, drift_stays}
use Rattle.drift.proofs.Steps as law

-- ---- numbers

leb_more : (n k : ℕ) → leb n k ≡ leb (suc n) (k + 1)
leb_more n k =
    known (leb n k) (λ e. e ∙ sym (le-leb (suc n) (k + 1) (omega (arith, leb-true n k e)))) (λ e. e ∙ sym (lt-leb (suc n) (k + 1) (omega (arith, leb-false n k e))))

not_set : (b : Option ℕ) (n : ℕ) → b ≡ None → b ≡ Some n → ⊥
not_set b n p q = let z : ◌≡◌ {A = ℕ} 0 1 = cc in omega arith

-- ---- one window: d says whether it drifts, f whether that fills the count

pub record Stepped (d f : Bool) (k : ℕ) (x : Float) (r : Drifted) : Type 0 where
  pub streak : r.moved.state.drift_streak ≡ cond (d && not f) (k + 1) 0
  pub says : said r.moved.second ≡ cond (d && f) (event baseline-changed x) quiet

module _ (n k : ℕ) (first : Option Judgement) (x : Float) (new old : List Float) where
  drifting-stepped : (f : Bool) → Stepped true f k x (cond f (judging n 0 first (speaks BaselineChanged x) new) (judging n (k + 1) first None old))
  drifting-stepped true = record { streak = refl; says = refl }
  drifting-stepped false = record { streak = refl; says = refl }

  measured-as : (w : ℕ) → 0 < w → (d : Bool)
      → Stepped d (leb w (k + 1)) k x (cond (leb w (cond d (k + 1) 0)) (judging n 0 first (speaks BaselineChanged x) new) (judging n (cond d (k + 1) 0) first None old))
  measured-as w some true = drifting-stepped (leb w (k + 1))
  measured-as w some false = rw (lt-leb w 0 some) (record { streak = refl; says = refl })

measured_stepped : (c : BaselineDriftConfig) (k : ℕ) (cur base : List Float) → 0 < c.drift_windows
    → Stepped (lt c.drift_threshold (distance_of cur base)) (leb c.drift_windows (k + 1)) k (over_twice (distance_of cur base) c.drift_threshold) (measured c k cur base)
unfolding measured weighed streak_of
measured_stepped c k cur base some = measured-as (length cur) k _ (over_twice (distance_of cur base) c.drift_threshold) _ _ c.drift_windows some (lt c.drift_threshold (distance_of cur base))

-- what is said first
measured_first : (c : BaselineDriftConfig) (k : ℕ) (cur base : List Float)
    → said (measured c k cur base).moved.first ≡ cond (lt c.anomaly_threshold (distance_of cur base)) (event anomaly (over_twice (distance_of cur base) c.anomaly_threshold)) quiet
unfolding measured weighed anomaly_if
measured_first c k cur base =
    cond_both (leb c.drift_windows (streak_of c k (distance_of cur base))) _ _
    (λ (r : Drifted). said r.moved.first ≡ cond (lt c.anomaly_threshold (distance_of cur base)) (event anomaly (over_twice (distance_of cur base) c.anomaly_threshold)) quiet)
    (λ e. go (lt c.anomaly_threshold (distance_of cur base))) (λ e. go (lt c.anomaly_threshold (distance_of cur base)))
  where
    go : (b : Bool) → said (cond b (speaks AnomalyDetected (over_twice (distance_of cur base) c.anomaly_threshold)) None) ≡ cond b (event anomaly (over_twice (distance_of cur base) c.anomaly_threshold)) quiet
    go true = refl
    go false = refl

-- what holds of a window, told whether the baseline has the list's length
by_length : (P : Bool → Drifted → Type 0) (c : BaselineDriftConfig) (s : DriftState) (l base : List Float)
    → (s.baseline ≡ None → P false (begun s.drift_streak l base)) → P true (measured c s.drift_streak l base) → P false (begun 0 l base)
    → P (holds s.baseline (length l)) (drift_move c s l base)
by_length P c s l base none same other =
    each_way (P (holds s.baseline (length l))) c s l base
    (λ e. subst (λ (b : Option ℕ). P (holds b (length l)) (begun s.drift_streak l base)) (sym e) (none e))
    (λ n e t. subst (λ (b : Option ℕ). P (holds b (length l)) (measured c s.drift_streak l base)) (sym e) (subst (λ (b : Bool). P b (measured c s.drift_streak l base)) (sym t) same))
    (λ n e t. subst (λ (b : Option ℕ). P (holds b (length l)) (begun 0 l base)) (sym e) (subst (λ (b : Bool). P b (begun 0 l base)) (sym t) other))

-- one more window in a row
one_more : (d f : Bool) (n k : ℕ) (x : Float) → (d && is_quiet (cond (d && f) (event baseline-changed x) quiet) && leb n k) ≡ leb (suc n) (cond (d && not f) (k + 1) 0)
one_more true false n k x = leb_more n k
one_more true true n k x = sym (lt-leb (suc n) 0 (omega arith))
one_more false f n k x = sym (lt-leb (suc n) 0 (omega arith))

-- ---- histories

module _ (c : BaselineDriftConfig) (ok : drift_accepted c ≡ true) (store : List Float) where
  -- reply 0 is owed: accepted settings make a detector
  pub made : drift_new c ≡ taken drift_fresh
  unfolding drift_new
  made = rw ok

  abbrev streak_after : List (List Float) → ℕ
  streak_after past = (drift_run c store past).moved.state.drift_streak

  below : (past : List (List Float)) → streak_after past < c.drift_windows
  unfolding drift_run
  below [] = (settings c ok).some
  below (l ∷ past) = (move_after c (drift_run c store past).moved.state l (drift_run c store past).store (below past) (settings c ok).some).below

  -- the baseline has the length of the newest list
  pub set : (l : List Float) (past : List (List Float)) → (drift_run c store (l ∷ past)).moved.state.baseline ≡ Some (length l)
  unfolding drift_run
  set l past = (move_after c (drift_run c store past).moved.state l (drift_run c store past).store (below past) (settings c ok).some).set

  unset-zero : (past : List (List Float)) → (drift_run c store past).moved.state.baseline ≡ None → streak_after past ≡ 0
  unfolding drift_run
  unset-zero [] e = refl
  unset-zero (l ∷ past) e = absurd (not_set (drift_run c store (l ∷ past)).moved.state.baseline (length l) e (set l past))

  stepped : (l : List Float) (past : List (List Float))
      → Stepped (drifts c store (l ∷ past)) (leb c.drift_windows (streak_after past + 1)) (streak_after past) (over_twice (distance_of l (drift_run c store past).store) c.drift_threshold) (drift_run c store (l ∷ past))
  unfolding farther drift_run
  stepped l past =
      let s = (drift_run c store past).moved.state in
      let base = (drift_run c store past).store in
      by_length
      (λ (b : Bool) (r : Drifted). Stepped (b && lt c.drift_threshold (distance_of l base)) (leb c.drift_windows (s.drift_streak + 1)) s.drift_streak (over_twice (distance_of l base) c.drift_threshold) r)
      c s l base (λ e. record { streak = unset-zero past e; says = refl }) (measured_stepped c s.drift_streak l base (settings c ok).some) (record { streak = refl; says = refl })

  -- "above anomaly: event"
  pub anomaly-exactly : (l : List Float) (past : List (List Float))
      → first_says c store (l ∷ past) ≡ cond (farther c.anomaly_threshold c store (l ∷ past)) (event anomaly (over_twice (distance_of l (drift_run c store past).store) c.anomaly_threshold)) quiet
  unfolding farther drift_run
  anomaly-exactly l past =
      let s = (drift_run c store past).moved.state in
      let base = (drift_run c store past).store in
      by_length
      (λ (b : Bool) (r : Drifted). said r.moved.first ≡ cond (b && lt c.anomaly_threshold (distance_of l base)) (event anomaly (over_twice (distance_of l base) c.anomaly_threshold)) quiet)
      c s l base (λ e. refl) (measured_first c s.drift_streak l base) refl

  -- the streak counts the newest lists in a row that drifted, back to the last reset
  pub streak-counts : (n : ℕ) (past : List (List Float)) → drifted_for c store n past ≡ leb n (streak_after past)
  unfolding drifted_for drift_run
  streak-counts zero past = sym (le-leb 0 (streak_after past) zero-le)
  streak-counts (suc n) [] = sym (lt-leb (suc n) 0 (omega arith))
  streak-counts (suc n) (l ∷ past) =
      rw ((stepped l past).says, (stepped l past).streak, streak-counts n past)
      (one_more (drifts c store (l ∷ past)) (leb c.drift_windows (streak_after past + 1)) n (streak_after past) (over_twice (distance_of l (drift_run c store past).store) c.drift_threshold))

  -- "above drift: streak; at the count BaselineChanged": it is said of a list exactly when it drifted and so did the drift_windows - 1 lists before it, none of which was said to change the baseline
  pub changed-exactly : (l : List Float) (past : List (List Float))
      → second_says c store (l ∷ past) ≡ cond (drifts c store (l ∷ past) && drifted_for c store (c.drift_windows - 1) past) (event baseline-changed (over_twice (distance_of l (drift_run c store past).store) c.drift_threshold)) quiet
  changed-exactly l past = (stepped l past).says ∙ rw (leb_less c.drift_windows (streak_after past) (settings c ok).some, streak-counts (c.drift_windows - 1) past)

  -- ---- over a store with room for every list

  module _ (room : most ≤ length store) where
    store_length : (past : List (List Float)) → Few past → length (drift_run c store past).store ≡ length store
    unfolding drift_run
    store_length [] f = refl
    store_length (l ∷ past) f =
        let h : length (drift_run c store past).store ≡ length store = store_length past f.1 in
        move_length c (drift_run c store past).moved.state l (drift_run c store past).store (omega (arith, f.0, h, room)) ∙ h

    in_range : (past : List (List Float)) → Few past → drift_in c (drift_run c store past).moved.state ≡ true
    unfolding drift_run
    in_range [] f = drift_begins c ok
    in_range (l ∷ past) f = drift_stays c (drift_run c store past).moved.state l (drift_run c store past).store f.0 (in_range past f.1)

    still-room : (past : List (List Float)) → Few past → most ≤ length (drift_run c store past).store
    still-room past f = omega (arith, store_length past f, room)

    -- reply 0 is owed: no list is refused
    pub owed : (l : List Float) (past : List (List Float)) → length l ≤ most → Few past
        → drift_step c (drift_run c store past).moved.state l (drift_run c store past).store ≡ leaves store (taken (drift_run c store (l ∷ past)))
    unfolding drift_run
    owed l past h f =
        sym (law.judged c (drift_run c store past).moved.state l (drift_run c store past).store (still-room past f) (in_range past f) h (drift_move c (drift_run c store past).moved.state l (drift_run c store past).store) refl)

    -- "first list becomes the baseline"
    pub first-list : (l : List Float) → length l ≤ most → drift_run c store (l ∷ []) ≡ judging (length l) 0 None None (l ++ drop (length l) store)
    unfolding drift_run drift_move
    first-list l h = ap (judging (length l) 0 None None) (laid-fits l store (omega arith))

    -- "a changed length resets baseline and streak, no event"
    pub other_length : (l last : List Float) (past : List (List Float)) → length l ≤ most → Few (last ∷ past) → (length last ≡ length l → ⊥)
        → drift_run c store (l ∷ last ∷ past) ≡ judging (length l) 0 None None (l ++ drop (length l) (drift_run c store (last ∷ past)).store)
    unfolding drift_run
    other_length l last past h f differ =
        let base = (drift_run c store (last ∷ past)).store in
        let r : most ≤ length base = still-room (last ∷ past) f in
        sym (law.other_length c (drift_run c store (last ∷ past)).moved.state l base (begun 0 l base) (length last) (set last past) differ refl)
        ∙ ap (judging (length l) 0 None None) (laid-fits l base (omega arith))
