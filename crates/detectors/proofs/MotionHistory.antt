-- The motion detector over a history from fresh, its settings accepted: what document 01 says of it. Assumes nothing.
use mathlib.Core.Path.{◌≡◌, refl, ap}
use mathlib.Core.Bool.{Bool, true, false}
use mathlib.Core.Logic.{◌⊎◌, ◌↔◌}
use mathlib.Core.List.{List, [], ◌∷◌}
use Prim.Native.Nat.{ℕ, ◌+◌, ◌≤◌, ◌<◌}
use native.Mathlib.Omega.{arith}
use lib.Dec.{T}
use lib.ListN.{length, get_or}
use lib.Ieee.{Float, nan, lt}
use Rattle.floats.proofs.Order.{le_trans, lt_not_le, lt_le}
use Rattle.detectors.specs.declared.motion.MotionConfig.{MotionConfig}
use Rattle.detectors.specs.declared.motion.MotionState.{MotionState}
use Rattle.detectors.specs.Common.{over_twice}
use Rattle.detectors.specs.Answers.{quiet, said, event, motion-detected, motion-settled, taken}
use Rattle.detectors.specs.Hysteresis.{Turn, still, rose, fell, Moved}
use Rattle.detectors.specs.Motion.{motion_accepted, motion_in, motion_said, motion_move, motion_run, moving_after, motion_says, motion_new, motion_step, settled_of, result}
use Rattle.detectors.specs.History.{since, LastMet, events, Alternating}
use Rattle.detectors.proofs.Accepted.{motion_settings}
use Rattle.detectors.proofs.Ranges.{motion_begins, motion-stays}
use Rattle.detectors.proofs.Switch as switch
use Rattle.detectors.proofs.Switch.{run, spoken}

module _ (c : MotionConfig) where
  abbrev high : Float → Bool
  high m = lt c.on_threshold m

  abbrev low : Float → Bool
  low m = lt m c.off_threshold

  abbrev detected : Float → Float
  detected m = over_twice m c.on_threshold

  abbrev settled : Float → Float
  settled m = settled_of c.on_threshold m

  -- ---- it is a switch
  abbrev pub as-switch : List Float → Moved
  as-switch past = run c.debounce_windows c.debounce_windows high low past

  pub same-state : (past : List Float) → (motion_run c past).state ≡ record { moving = (as-switch past).on; streak = (as-switch past).streak }
  unfolding motion_run motion_move run
  same-state [] = refl
  same-state (m ∷ past) = rw (same-state past)

  same-said : (t : Turn) (m : Float) → said (motion_said t c.on_threshold m) ≡ spoken motion-detected motion-settled detected settled t m
  same-said still m = refl
  same-said rose m = refl
  same-said fell m = refl

  same-says : (m : Float) (past : List Float) → motion_says c (m ∷ past) ≡ spoken motion-detected motion-settled detected settled (as-switch (m ∷ past)).turn m
  unfolding motion_run motion_move run
  same-says m past = rw (same-state past) (same-said (as-switch (m ∷ past)).turn m)

  same-on : (past : List Float) → moving_after c past ≡ (as-switch past).on
  same-on past = ap (λ (s : MotionState). s.moving) (same-state past)

  two-kinds : motion-detected ≡ motion-settled → ⊥
  two-kinds e = let z : ◌≡◌ {A = ℕ} 0 1 = cc in omega arith

  module _ (ok : motion_accepted c ≡ true) where
    in_range : (past : List Float) → motion_in c (motion_run c past).state ≡ true
    unfolding motion_run
    in_range [] = motion_begins c ok
    in_range (m ∷ past) = motion-stays c (motion_run c past).state (in_range past) m

    -- Reply 0 is owed: the settings are taken, and the state is the run's before any window
    pub made : motion_new c ≡ taken (motion_run c []).state
    unfolding motion_new motion_run
    made = rw ok

    -- after any history a window is taken, and the answer is the run's
    pub owed : (m : Float) (past : List Float) → motion_step c (motion_run c past).state m ≡ taken (result (motion_run c (m ∷ past)))
    unfolding motion_step motion_run
    owed m past = rw (in_range past)

    -- As for presence, "strict both ways, m > on and m < off. Confidence m/(2*on)": while settled
    pub detected-exactly : (m : Float) (past : List Float) → (motion_says c (m ∷ past) ≡ event motion-detected (over_twice m c.on_threshold))
        ↔ ((moving_after c past ≡ false) × LastMet (λ x. lt c.on_threshold x) c.debounce_windows (since (motion_says c) past + 1) (m ∷ past))
    detected-exactly m past = rw (same-on past)
        (switch.fires c.debounce_windows c.debounce_windows high low motion-detected motion-settled two-kinds detected settled (motion_says c) same-says (motion_settings c ok).some false m past)

    -- "settling gives 1 less that": while moving
    pub settled-exactly : (m : Float) (past : List Float) → (motion_says c (m ∷ past) ≡ event motion-settled (settled_of c.on_threshold m))
        ↔ ((moving_after c past ≡ true) × LastMet (λ x. lt x c.off_threshold) c.debounce_windows (since (motion_says c) past + 1) (m ∷ past))
    settled-exactly m past = rw (same-on past)
        (switch.fires c.debounce_windows c.debounce_windows high low motion-detected motion-settled two-kinds detected settled (motion_says c) same-says (motion_settings c ok).some true m past)

    not-both : (m : Float) → T (low m) → T (high m) → ⊥
    not-both m l h =
        lt_not_le c.off_threshold c.on_threshold (motion_settings c ok).apart
        (le_trans c.on_threshold m c.off_threshold (lt_le c.on_threshold m h) (lt_le m c.off_threshold l))

    -- any debounce_windows in a row under off leave it settled
    pub left-settled : (past : List Float) → c.debounce_windows ≤ length past → ((i : ℕ) → i < c.debounce_windows → T (lt (get_or past i nan) c.off_threshold)) → moving_after c past ≡ false
    left-settled past l m = rw (same-on past) (switch.low_run c.debounce_windows c.debounce_windows high low (motion_settings c ok).some not-both past l m)

  -- detected and settled alternate, detected first
  pub alternate : (past : List Float) → Alternating motion-detected motion-settled (moving_after c past) (events (motion_says c) past)
  alternate past = rw (same-on past) (switch.alternate c.debounce_windows c.debounce_windows high low motion-detected motion-settled two-kinds detected settled (motion_says c) same-says past)

  -- and nothing but these two is said
  pub only : (m : Float) (past : List Float)
      → (motion_says c (m ∷ past) ≡ quiet) ⊎ ((motion_says c (m ∷ past) ≡ event motion-detected (over_twice m c.on_threshold)) ⊎ (motion_says c (m ∷ past) ≡ event motion-settled (settled_of c.on_threshold m)))
  only = switch.only c.debounce_windows c.debounce_windows high low motion-detected motion-settled two-kinds detected settled (motion_says c) same-says
