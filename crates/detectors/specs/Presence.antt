-- The presence detector.
use Rattle.std.specs.Prelude.{Bool, false, ◌&&◌, List, [], ◌∷◌, ltb, Float, Option, None}
use Rattle.std.specs.Float.{binary32}
use Rattle.std.specs.Float.Ieee.{of_bits, le, sub}
use Rattle.floats.specs.Clamp.{one32, clamp_of}
use Rattle.detectors.specs.declared.Judgement.{Judgement}
use Rattle.rvcsi_core.specs.declared.event.CsiEventKind.TheVariants.{PresenceStarted, PresenceEnded}
use Rattle.detectors.specs.declared.presence.PresenceConfig.{PresenceConfig}
use Rattle.detectors.specs.declared.presence.PresenceState.{PresenceState}
use Rattle.detectors.specs.declared.Moved as Code
use Rattle.detectors.specs.Common.{limits_ok, counts_ok}
use Rattle.detectors.specs.Answers.{Said, said, speaks, further, Result, Answer, taken, unless}
use Rattle.detectors.specs.Replies.{Made, Reply, on_paper_made, on_paper}
use Rattle.detectors.specs.Hysteresis.{Turn, still, rose, fell, Moved, for, move}

-- "presence 0.7, 0.45, enter 2, exit 3"
unfoldable pub presence_default : PresenceConfig
presence_default =
    record { on_threshold = of_bits binary32 0x3f33_3333; off_threshold = of_bits binary32 0x3ee6_6666; enter_windows = 2; exit_windows = 3 }

-- "all other counts are at least 1; every threshold .. from 0 to 1,000,000; on above off"
unfoldable pub presence_accepted : PresenceConfig → Bool
presence_accepted c = limits_ok c.on_threshold c.off_threshold && counts_ok c.enter_windows c.exit_windows

-- "State out of range: settings that 1 refuses; .. streak not below its count"
unfoldable pub presence_in : PresenceConfig → PresenceState → Bool
presence_in c s = presence_accepted c && ltb s.streak (for s.present c.enter_windows c.exit_windows)

abbrev pub presence_fresh : PresenceState
presence_fresh = record { present = false; streak = 0 }

-- "Started (p) and Ended (1 - p)"
abbrev pub presence_said : Turn → Float → Option Judgement
presence_said still p = None
presence_said rose p = speaks PresenceStarted (clamp_of p)
presence_said fell p = speaks PresenceEnded (clamp_of (sub binary32 one32 p))

abbrev pub presence_told : Moved → Float → Code.Moved PresenceState
presence_told m p = record { state = record { present = m.on; streak = m.streak }; first = presence_said m.turn p; second = None }

-- "p >= on counts when absent, p <= off when present; any other score, NaN too, sets the streak to 0."
unfoldable pub presence_move : PresenceConfig → PresenceState → Float → Code.Moved PresenceState
presence_move c s p =
    presence_told (move c.enter_windows c.exit_windows (le c.on_threshold p) (le p c.off_threshold) s.present s.streak) p

-- The detector after a history of scores from fresh, newest first: its state, and what it said of the newest
unfoldable pub presence_run : PresenceConfig → List Float → Code.Moved PresenceState
presence_run c [] = record { state = presence_fresh; first = None; second = None }
presence_run c (p ∷ past) = presence_move c (presence_run c past).state p

abbrev pub present_after : PresenceConfig → List Float → Bool
present_after c past = (presence_run c past).state.present

abbrev pub presence_says : PresenceConfig → List Float → Said
presence_says c past = said (presence_run c past).first

-- ---- on paper

-- 1 "settings not accepted"
unfoldable pub presence_new : PresenceConfig → Answer PresenceState
presence_new c = unless (presence_accepted c) 1 (taken presence_fresh)

abbrev pub paper_made : Made PresenceState → Answer PresenceState
paper_made r = on_paper_made r

abbrev pub result : Code.Moved PresenceState → Result PresenceState
result m = record { state = m.state; judgements = said m.first ∷ further m.second }

-- 14 "state out of range"
unfoldable pub presence_step : PresenceConfig → PresenceState → Float → Answer (Result PresenceState)
presence_step c s p = unless (presence_in c s) 14 (taken (result (presence_move c s p)))

abbrev pub paper : Reply PresenceState → Answer (Result PresenceState)
paper r = on_paper result r
