-- The quality detector over a history from fresh, its settings accepted: what document 01 says of it. Assumes nothing.
use Rattle.std.specs.Prelude.{Option}
use mathlib.Core.Path.{◌≡◌, refl, sym, ap, ◌∙◌}
use mathlib.Core.Bool.{Bool, true, false, not, ◌&&◌, ◌||◌, cond}
use mathlib.Core.List.{List, [], ◌∷◌}
use Prim.Native.Nat.{ℕ, suc, ◌+◌, ◌≤◌, ◌<◌, min}
use native.Mathlib.Omega.{arith}
use native.Mathlib.Numerals.{add-one}
use borrow.Author.Tests.{le-leb, lt-leb, eq-eqb, ne_eqb, leb-true, leb-false, eqb-true, eqb-false}
use lib.Dec.{leb, eqb}
use lib.Ieee.{Float, binary32, lt, sub}
use Rattle.floats.specs.Clamp.{one32, clamp_of}
use Rattle.rvcsi_core.proofs.Tested.{known}
use Rattle.detectors.specs.declared.Judgement.{Judgement}
use Rattle.detectors.specs.declared.quality.QualityConfig.{QualityConfig}
use Rattle.detectors.specs.declared.quality.QualityState.{QualityState}
use Rattle.detectors.specs.declared.Moved.{Moved}
use Rattle.rvcsi_core.specs.declared.event.CsiEventKind.{CsiEventKind}
use Rattle.rvcsi_core.specs.declared.event.CsiEventKind.TheVariants.{SignalQualityDropped, CalibrationRequired}
use Rattle.detectors.specs.Answers.{Said, said, taken}
use Rattle.detectors.specs.Quality.{quality_accepted, quality_in, quality_move, quality_run, first_says, second_says, quality_new, quality_step, said_if, low, good, top, result}
use Rattle.detectors.specs.History.{lows, one, times}
use Rattle.detectors.proofs.Accepted.{quality_settings}
use Rattle.detectors.proofs.Ranges.{quality_begins, quality-stays}

-- ---- one count of at least 1, at most `most`: n low windows came before this one
module _ (count most n : ℕ) (some : 0 < count) (fits : count ≤ most) where
  mark : (leb count n || leb count (min (n + 1) most)) ≡ leb count (n + 1)
  mark = known (leb count n)
      (λ e. rw e (sym (le-leb count (n + 1) (omega (arith, leb-true count n e)))))
      (λ e. rw e (same (leb count (n + 1)) refl))
    where
      same : (b : Bool) → leb count (n + 1) ≡ b → leb count (min (n + 1) most) ≡ leb count (n + 1)
      same true e = rw e (le-leb count (min (n + 1) most) (omega (arith, leb-true count (n + 1) e)))
      same false e = rw e (lt-leb count (min (n + 1) most) (omega (arith, leb-false count (n + 1) e)))

  due : (not (leb count n) && leb count (min (n + 1) most)) ≡ eqb (n + 1) count
  due = known (leb count n)
      (λ e. rw e (sym (ne_eqb (n + 1) count (λ g. omega (arith, leb-true count n e, g)))))
      (λ e. rw e (same (leb count (n + 1)) refl (leb-false count n e)))
    where
      same : (b : Bool) → leb count (n + 1) ≡ b → n < count → leb count (min (n + 1) most) ≡ eqb (n + 1) count
      same true e h = rw (eq-eqb (n + 1) count (omega (arith, leb-true count (n + 1) e))) (le-leb count (min (n + 1) most) (omega (arith, leb-true count (n + 1) e)))
      same false e h = rw (ne_eqb (n + 1) count (λ g. omega (arith, leb-false count (n + 1) e, g))) (lt-leb count (min (n + 1) most) (omega (arith, leb-false count (n + 1) e)))

module _ (c : QualityConfig) (ok : quality_accepted c ≡ true) where
  in_range : (past : List Float) → quality_in c (quality_run c past).state ≡ true
  unfolding quality_run
  in_range [] = quality_begins c ok
  in_range (q ∷ past) = quality-stays c (quality_run c past).state (in_range past) q

  -- Reply 0 is owed: the settings are taken, and the state is the run's before any window
  pub made : quality_new c ≡ taken (quality_run c []).state
  unfolding quality_new quality_run
  made = rw ok

  -- after any history a window is taken, and the answer is the run's
  pub owed : (q : Float) (past : List Float) → quality_step c (quality_run c past).state q ≡ taken (result (quality_run c (q ∷ past)))
  unfolding quality_step quality_run
  owed q past = rw (in_range past)

  -- the state after n low windows in a row
  abbrev after-lows : ℕ → QualityState
  after-lows n = record { low_streak = min n (top c); dropped_emitted = leb c.debounce_windows n; calib_emitted = leb c.calib_windows n }

  abbrev at_place : ℕ → Float → Moved QualityState
  at_place n x = record { state = after-lows n; first = said_if (eqb n c.debounce_windows) SignalQualityDropped x; second = said_if (eqb n c.calib_windows) CalibrationRequired x }

  abbrev some-debounce : 0 < c.debounce_windows
  some-debounce = (quality_settings c ok).debounce-some

  abbrev some-calib : 0 < c.calib_windows
  some-calib = (quality_settings c ok).calib-some

  none : (x : Float) → good ≡ at_place 0 x
  none x = rw (lt-leb c.debounce_windows 0 some-debounce, lt-leb c.calib_windows 0 some-calib, ne_eqb 0 c.debounce_windows (λ e. omega (arith, some-debounce, e)), ne_eqb 0 c.calib_windows (λ e. omega (arith, some-calib, e)), zero-min)
    where
      zero-min : min 0 (top c) ≡ 0
      zero-min = omega arith

  more : (n : ℕ) (x : Float) → low c (after-lows n) (min (min n (top c) + 1) (top c)) x ≡ at_place (n + 1) x
  more n x = rw (up, mark c.debounce_windows (top c) n some-debounce (omega arith), mark c.calib_windows (top c) n some-calib (omega arith), due c.debounce_windows (top c) n some-debounce (omega arith), due c.calib_windows (top c) n some-calib (omega arith))
    where
      up : min (min n (top c) + 1) (top c) ≡ min (n + 1) (top c)
      up = omega arith

  move-is : (n : ℕ) (q : Float) → quality_move c (after-lows n) q ≡ at_place (cond (lt q c.drop_threshold) (n + 1) 0) (clamp_of (sub binary32 one32 q))
  unfolding quality_move
  move-is n q = go (lt q c.drop_threshold)
    where
      go : (b : Bool) → cond b (low c (after-lows n) (min (min n (top c) + 1) (top c)) (clamp_of (sub binary32 one32 q))) good ≡ at_place (cond b (n + 1) 0) (clamp_of (sub binary32 one32 q))
      go true = more n (clamp_of (sub binary32 one32 q))
      go false = none (clamp_of (sub binary32 one32 q))

  state-is : (past : List Float) → (quality_run c past).state ≡ after-lows (lows c past)
  unfolding quality_run lows
  state-is [] = ap (λ (m : Moved QualityState). m.state) (none one32)
  state-is (q ∷ past) = rw (state-is past) (ap (λ (m : Moved QualityState). m.state) (move-is (lows c past) q))

  placed : (q : Float) (past : List Float) → quality_run c (q ∷ past) ≡ at_place (lows c (q ∷ past)) (clamp_of (sub binary32 one32 q))
  unfolding quality_run lows
  placed q past = rw (state-is past) (move-is (lows c past) q)

  -- Dropped comes at a window exactly when it is the debounce-th of its stretch of low windows, with 1 - q
  pub dropped-exactly : (q : Float) (past : List Float) → (quality_run c (q ∷ past)).first ≡ said_if (eqb (lows c (q ∷ past)) c.debounce_windows) SignalQualityDropped (clamp_of (sub binary32 one32 q))
  dropped-exactly q past = ap (λ (m : Moved QualityState). m.first) (placed q past)

  -- and calibration when it is the calib-th
  pub calibration-exactly : (q : Float) (past : List Float) → (quality_run c (q ∷ past)).second ≡ said_if (eqb (lows c (q ∷ past)) c.calib_windows) CalibrationRequired (clamp_of (sub binary32 one32 q))
  calibration-exactly q past = ap (λ (m : Moved QualityState). m.second) (placed q past)

-- ---- "once each until a window isn't low": in a stretch of n low windows 0 before the count is reached, 1 from then on
abbrev reached : Bool → ℕ
reached true = 1
reached false = 0

next : (count n : ℕ) → reached (eqb (n + 1) count) + reached (leb count n) ≡ reached (leb count (n + 1))
next count n = go (eqb (n + 1) count) (leb count n) (leb count (n + 1)) refl refl refl
  where
    go : (a b d : Bool) → eqb (n + 1) count ≡ a → leb count n ≡ b → leb count (n + 1) ≡ d → reached a + reached b ≡ reached d
    go true true d e f g = absurd (omega (arith, eqb-true (n + 1) count e, leb-true count n f))
    go true false true e f g = refl
    go true false false e f g = absurd (omega (arith, eqb-true (n + 1) count e, leb-false count (n + 1) g))
    go false true true e f g = refl
    go false true false e f g = absurd (omega (arith, leb-true count n f, leb-false count (n + 1) g))
    go false false true e f g = absurd (eqb-false (n + 1) count e (omega (arith, leb-false count n f, leb-true count (n + 1) g)))
    go false false false e f g = refl

module _ (c : QualityConfig) (count : ℕ) (some : 0 < count) (says : List Float → Said)
    (is : (q : Float) (past : List Float) → one (says (q ∷ past)) ≡ reached (eqb (lows c (q ∷ past)) count)) where
  counted : (past : List Float) → times says (lows c past) past ≡ reached (leb count (lows c past))
  unfolding lows times
  counted [] = rw (lt-leb count 0 some)
  counted (q ∷ past) = go (lt q c.drop_threshold) refl (counted past)
    where
      low-now : lt q c.drop_threshold ≡ true → times says (lows c past) past ≡ reached (leb count (lows c past)) → reached (eqb (lows c (q ∷ past)) count) + times says (lows c past) past ≡ reached (leb count (suc (lows c past)))
      low-now e h = rw (e, h, ← add-one (lows c past)) (next count (lows c past))

      go : (b : Bool) → lt q c.drop_threshold ≡ b → times says (lows c past) past ≡ reached (leb count (lows c past)) → times says (cond b (lows c past + 1) 0) (q ∷ past) ≡ reached (leb count (cond b (lows c past + 1) 0))
      go true e h = rw (add-one (lows c past)) (ap (λ (x : ℕ). x + times says (lows c past) past) (is q past) ∙ low-now e h)
      go false e h = rw (lt-leb count 0 some)

  once : (past : List Float) → times says (lows c past) past ≤ 1
  once past = rw (counted past) (go (leb count (lows c past)))
    where
      go : (b : Bool) → reached b ≤ 1
      go true = omega arith
      go false = omega arith

one_if : (b : Bool) (k : CsiEventKind) (x : Float) → one (said (said_if b k x)) ≡ reached b
one_if true k x = refl
one_if false k x = refl

module _ (c : QualityConfig) (ok : quality_accepted c ≡ true) where
  -- at most one dropped in a stretch of low windows
  pub dropped-once : (past : List Float) → times (first_says c) (lows c past) past ≤ 1
  dropped-once past =
      once c c.debounce_windows (quality_settings c ok).debounce-some (first_says c)
      (λ q l. ap (λ (j : Option Judgement). one (said j)) (dropped-exactly c ok q l) ∙ one_if (eqb (lows c (q ∷ l)) c.debounce_windows) _ (clamp_of (sub binary32 one32 q))) past

  -- and at most one calibration
  pub calibration-once : (past : List Float) → times (second_says c) (lows c past) past ≤ 1
  calibration-once past =
      once c c.calib_windows (quality_settings c ok).calib-some (second_says c)
      (λ q l. ap (λ (j : Option Judgement). one (said j)) (calibration-exactly c ok q l) ∙ one_if (eqb (lows c (q ∷ l)) c.calib_windows) _ (clamp_of (sub binary32 one32 q))) past
