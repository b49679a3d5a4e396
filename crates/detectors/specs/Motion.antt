-- The motion detector.
use Rattle.std.specs.Prelude.{Bool, false, ◌&&◌, List, [], ◌∷◌, leb, ltb, Float, Option, None}
use Rattle.std.specs.Float.{binary32}
use Rattle.std.specs.Float.Ieee.{of_bits, lt, sub}
use Rattle.floats.specs.Clamp.{one32, clamp_of}
use Rattle.detectors.specs.declared.Judgement.{Judgement}
use Rattle.rvcsi_core.specs.declared.event.CsiEventKind.TheVariants.{MotionDetected, MotionSettled}
use Rattle.detectors.specs.declared.motion.MotionConfig.{MotionConfig}
use Rattle.detectors.specs.declared.motion.MotionState.{MotionState}
use Rattle.detectors.specs.declared.Moved as Code
use Rattle.detectors.specs.Common.{limits_ok, over_twice}
use Rattle.detectors.specs.Answers.{Said, said, speaks, further, Result, Answer, taken, unless}
use Rattle.detectors.specs.Replies.{Made, Reply, on_paper_made, on_paper}
use Rattle.detectors.specs.Hysteresis.{Turn, still, rose, fell, Moved, move}

-- "motion 0.05, 0.02, debounce 2"
unfoldable pub motion_default : MotionConfig
motion_default = record { on_threshold = of_bits binary32 0x3d4c_cccd; off_threshold = of_bits binary32 0x3ca3_d70a; debounce_windows = 2 }

-- "all other counts are at least 1; every threshold .. from 0 to 1,000,000; on above off"
unfoldable pub motion_accepted : MotionConfig → Bool
motion_accepted c = limits_ok c.on_threshold c.off_threshold && leb 1 c.debounce_windows

-- "State out of range: settings that 1 refuses; .. streak not below its count"
unfoldable pub motion_in : MotionConfig → MotionState → Bool
motion_in c s = motion_accepted c && ltb s.streak c.debounce_windows

abbrev pub motion_fresh : MotionState
motion_fresh = record { moving = false; streak = 0 }

-- "settling gives 1 less that"
unfoldable pub settled_of : Float → Float → Float
settled_of on m = clamp_of (sub binary32 one32 (over_twice m on))

-- "Confidence m/(2*on)"
abbrev pub motion_said : Turn → Float → Float → Option Judgement
motion_said still on m = None
motion_said rose on m = speaks MotionDetected (over_twice m on)
motion_said fell on m = speaks MotionSettled (settled_of on m)

abbrev pub motion_told : Moved → Float → Float → Code.Moved MotionState
motion_told r on m = record { state = record { moving = r.on; streak = r.streak }; first = motion_said r.turn on m; second = None }

-- "strict both ways, m > on and m < off"; one count for both
unfoldable pub motion_move : MotionConfig → MotionState → Float → Code.Moved MotionState
motion_move c s m =
    let n = c.debounce_windows in
    motion_told (move n n (lt c.on_threshold m) (lt m c.off_threshold) s.moving s.streak) c.on_threshold m

-- The detector after a history of motion energies from fresh, newest first: its state, and what it said of the newest
unfoldable pub motion_run : MotionConfig → List Float → Code.Moved MotionState
motion_run c [] = record { state = motion_fresh; first = None; second = None }
motion_run c (m ∷ past) = motion_move c (motion_run c past).state m

abbrev pub moving_after : MotionConfig → List Float → Bool
moving_after c past = (motion_run c past).state.moving

abbrev pub motion_says : MotionConfig → List Float → Said
motion_says c past = said (motion_run c past).first

-- ---- on paper

-- 1 "settings not accepted"
unfoldable pub motion_new : MotionConfig → Answer MotionState
motion_new c = unless (motion_accepted c) 1 (taken motion_fresh)

abbrev pub paper_made : Made MotionState → Answer MotionState
paper_made r = on_paper_made r

abbrev pub result : Code.Moved MotionState → Result MotionState
result m = record { state = m.state; judgements = said m.first ∷ further m.second }

-- 14 "state out of range"
unfoldable pub motion_step : MotionConfig → MotionState → Float → Answer (Result MotionState)
motion_step c s m = unless (motion_in c s) 14 (taken (result (motion_move c s m)))

abbrev pub paper : Reply MotionState → Answer (Result MotionState)
paper r = on_paper result r
