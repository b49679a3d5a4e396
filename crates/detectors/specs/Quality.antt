-- The quality detector.
use Rattle.std.specs.Prelude.{Bool, true, false, not, ◌&&◌, ◌||◌, cond, List, [], ◌∷◌, ℕ, ◌+◌, min, max, leb, Float, Option, None}
use Rattle.std.specs.Float.{binary32}
use Rattle.std.specs.Float.Ieee.{of_bits, lt, sub}
use Rattle.floats.specs.Clamp.{one32, clamp_of}
use Rattle.rvcsi_core.specs.Settings.{threshold_ok}
use Rattle.detectors.specs.declared.Judgement.{Judgement}
use Rattle.rvcsi_core.specs.declared.event.CsiEventKind.{CsiEventKind}
use Rattle.rvcsi_core.specs.declared.event.CsiEventKind.TheVariants.{SignalQualityDropped, CalibrationRequired}
use Rattle.detectors.specs.declared.quality.QualityConfig.{QualityConfig}
use Rattle.detectors.specs.declared.quality.QualityState.{QualityState}
use Rattle.detectors.specs.declared.Moved.{Moved}
use Rattle.detectors.specs.Common.{counts_ok}
use Rattle.detectors.specs.Answers.{Said, said, speaks, Result, Answer, taken, unless}
use Rattle.detectors.specs.Replies.{Made, Reply, on_paper_made, on_paper}

-- "quality drop 0.4, debounce 2, calib 4"
unfoldable pub quality_default : QualityConfig
quality_default = record { drop_threshold = of_bits binary32 0x3ecc_cccd; debounce_windows = 2; calib_windows = 4 }

-- "all other counts are at least 1; every threshold .. from 0 to 1,000,000"
unfoldable pub quality_accepted : QualityConfig → Bool
quality_accepted c = threshold_ok c.drop_threshold && counts_ok c.debounce_windows c.calib_windows

-- "the larger count"
abbrev pub top : QualityConfig → ℕ
top c = max c.debounce_windows c.calib_windows

-- "State out of range: settings that 1 refuses; .. quality streak above the larger of its two counts"
unfoldable pub quality_in : QualityConfig → QualityState → Bool
quality_in c s = quality_accepted c && leb s.low_streak (top c)

abbrev pub quality_fresh : QualityState
quality_fresh = record { low_streak = 0; dropped_emitted = false; calib_emitted = false }

-- what is said where it is due
abbrev pub said_if : Bool → CsiEventKind → Float → Option Judgement
said_if true k x = speaks k x
said_if false k x = None

-- a low window: `up` is the new streak, `x` the confidence; "dropped, then calibration .., once each"
abbrev pub low : QualityConfig → QualityState → ℕ → Float → Moved QualityState
low c s up x =
    record {
      state =
          record {
            low_streak = up;
            dropped_emitted = s.dropped_emitted || leb c.debounce_windows up;
            calib_emitted = s.calib_emitted || leb c.calib_windows up;
          };
      first = said_if (not s.dropped_emitted && leb c.debounce_windows up) SignalQualityDropped x;
      second = said_if (not s.calib_emitted && leb c.calib_windows up) CalibrationRequired x;
    }

-- "until a window isn't low"
abbrev pub good : Moved QualityState
good = record { state = quality_fresh; first = None; second = None }

-- "q < drop raises the streak (held at the larger count ..)"; "(both 1 - q)"
unfoldable pub quality_move : QualityConfig → QualityState → Float → Moved QualityState
quality_move c s q =
    cond (lt q c.drop_threshold) (low c s (min (s.low_streak + 1) (top c)) (clamp_of (sub binary32 one32 q))) good

-- The detector after a history of quality scores from fresh, newest first: its state, and what it said of the newest
unfoldable pub quality_run : QualityConfig → List Float → Moved QualityState
quality_run c [] = good
quality_run c (q ∷ past) = quality_move c (quality_run c past).state q

abbrev pub first_says : QualityConfig → List Float → Said
first_says c past = said (quality_run c past).first

abbrev pub second_says : QualityConfig → List Float → Said
second_says c past = said (quality_run c past).second

-- ---- on paper

-- 1 "settings not accepted"
unfoldable pub quality_new : QualityConfig → Answer QualityState
quality_new c = unless (quality_accepted c) 1 (taken quality_fresh)

abbrev pub paper_made : Made QualityState → Answer QualityState
paper_made r = on_paper_made r

abbrev pub result : Moved QualityState → Result QualityState
result m = record { state = m.state; judgements = said m.first ∷ said m.second ∷ [] }

-- 14 "state out of range"
unfoldable pub quality_step : QualityConfig → QualityState → Float → Answer (Result QualityState)
quality_step c s q = unless (quality_in c s) 14 (taken (result (quality_move c s q)))

abbrev pub paper : Reply QualityState → Answer (Result QualityState)
paper r = on_paper result r
