-- The presence detector over a history from fresh, its settings accepted: what document 01 says of it. Assumes nothing.
use mathlib.Core.Path.{◌≡◌, refl, ap}
use mathlib.Core.Bool.{Bool, true, false}
use mathlib.Core.Logic.{◌⊎◌, ◌↔◌}
use mathlib.Core.List.{List, [], ◌∷◌}
use Prim.Native.Nat.{ℕ, ◌+◌, ◌≤◌, ◌<◌}
use native.Mathlib.Omega.{arith}
use lib.Dec.{T}
use lib.ListN.{length, get_or}
use lib.Ieee.{Float, nan, binary32, le, sub}
use Rattle.floats.specs.Clamp.{one32, clamp_of}
use Rattle.floats.proofs.Order.{le_trans, lt_not_le}
use Rattle.detectors.specs.declared.presence.PresenceConfig.{PresenceConfig}
use Rattle.detectors.specs.declared.presence.PresenceState.{PresenceState}
use Rattle.detectors.specs.Answers.{quiet, said, event, presence-started, presence-ended, taken}
use Rattle.detectors.specs.Hysteresis.{Turn, still, rose, fell, Moved}
use Rattle.detectors.specs.Presence.{presence_accepted, presence_in, presence_said, presence_move, presence_run, present_after, presence_says, presence_new, presence_step, result}
use Rattle.detectors.specs.History.{since, LastMet, events, Alternating}
use Rattle.detectors.proofs.Accepted.{presence_settings}
use Rattle.detectors.proofs.Ranges.{presence_begins, presence-stays}
use Rattle.detectors.proofs.Switch as switch
use Rattle.detectors.proofs.Switch.{run, spoken}

module _ (c : PresenceConfig) where
  abbrev high : Float → Bool
  high p = le c.on_threshold p

  abbrev low : Float → Bool
  low p = le p c.off_threshold

  abbrev ended : Float → Float
  ended p = clamp_of (sub binary32 one32 p)

  -- ---- it is a switch
  abbrev pub as-switch : List Float → Moved
  as-switch past = run c.enter_windows c.exit_windows high low past

  pub same-state : (past : List Float) → (presence_run c past).state ≡ record { present = (as-switch past).on; streak = (as-switch past).streak }
  unfolding presence_run presence_move run
  same-state [] = refl
  same-state (p ∷ past) = rw (same-state past)

  same-said : (t : Turn) (p : Float) → said (presence_said t p) ≡ spoken presence-started presence-ended clamp_of ended t p
  same-said still p = refl
  same-said rose p = refl
  same-said fell p = refl

  same-says : (p : Float) (past : List Float) → presence_says c (p ∷ past) ≡ spoken presence-started presence-ended clamp_of ended (as-switch (p ∷ past)).turn p
  unfolding presence_run presence_move run
  same-says p past = rw (same-state past) (same-said (as-switch (p ∷ past)).turn p)

  pub same-on : (past : List Float) → present_after c past ≡ (as-switch past).on
  same-on past = ap (λ (s : PresenceState). s.present) (same-state past)

  two-kinds : presence-started ≡ presence-ended → ⊥
  two-kinds e = let z : ◌≡◌ {A = ℕ} 0 1 = cc in omega arith

  module _ (ok : presence_accepted c ≡ true) where
    in_range : (past : List Float) → presence_in c (presence_run c past).state ≡ true
    unfolding presence_run
    in_range [] = presence_begins c ok
    in_range (p ∷ past) = presence-stays c (presence_run c past).state (in_range past) p

    -- Reply 0 is owed: the settings are taken, and the state is the run's before any window
    pub made : presence_new c ≡ taken (presence_run c []).state
    unfolding presence_new presence_run
    made = rw ok

    -- after any history a window is taken, and the answer is the run's
    pub owed : (p : Float) (past : List Float) → presence_step c (presence_run c past).state p ≡ taken (result (presence_run c (p ∷ past)))
    unfolding presence_step presence_run
    owed p past = rw (in_range past)

    -- "An event fires exactly when the last enter (exit) windows, all after the previous event, met the limit. Started (p) ..": while absent
    pub started-exactly : (p : Float) (past : List Float) → (presence_says c (p ∷ past) ≡ event presence-started (clamp_of p))
        ↔ ((present_after c past ≡ false) × LastMet (λ q. le c.on_threshold q) c.enter_windows (since (presence_says c) past + 1) (p ∷ past))
    started-exactly p past = rw (same-on past)
        (switch.fires c.enter_windows c.exit_windows high low presence-started presence-ended two-kinds clamp_of ended (presence_says c) same-says (presence_settings c ok).some false p past)

    -- ".. and Ended (1 - p)": while present
    pub ended-exactly : (p : Float) (past : List Float) → (presence_says c (p ∷ past) ≡ event presence-ended (clamp_of (sub binary32 one32 p)))
        ↔ ((present_after c past ≡ true) × LastMet (λ q. le q c.off_threshold) c.exit_windows (since (presence_says c) past + 1) (p ∷ past))
    ended-exactly p past = rw (same-on past)
        (switch.fires c.enter_windows c.exit_windows high low presence-started presence-ended two-kinds clamp_of ended (presence_says c) same-says (presence_settings c ok).some true p past)

    -- no score is at or above on and at or under off
    not-both : (p : Float) → T (low p) → T (high p) → ⊥
    not-both p l h = lt_not_le c.off_threshold c.on_threshold (presence_settings c ok).apart (le_trans c.on_threshold p c.off_threshold h l)

    -- "Any exit_windows in a row at or under off leave it absent."
    pub left-absent : (past : List Float) → c.exit_windows ≤ length past → ((i : ℕ) → i < c.exit_windows → T (le (get_or past i nan) c.off_threshold)) → present_after c past ≡ false
    left-absent past l m = rw (same-on past) (switch.low_run c.enter_windows c.exit_windows high low (presence_settings c ok).some not-both past l m)

  -- "Started .. and Ended .. alternate, Started first."
  pub alternate : (past : List Float) → Alternating presence-started presence-ended (present_after c past) (events (presence_says c) past)
  alternate past = rw (same-on past) (switch.alternate c.enter_windows c.exit_windows high low presence-started presence-ended two-kinds clamp_of ended (presence_says c) same-says past)

  -- and nothing but these two is said
  pub only : (p : Float) (past : List Float)
      → (presence_says c (p ∷ past) ≡ quiet) ⊎ ((presence_says c (p ∷ past) ≡ event presence-started (clamp_of p)) ⊎ (presence_says c (p ∷ past) ≡ event presence-ended (clamp_of (sub binary32 one32 p))))
  only = switch.only c.enter_windows c.exit_windows high low presence-started presence-ended two-kinds clamp_of ended (presence_says c) same-says
