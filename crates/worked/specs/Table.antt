-- "Table of proved examples": T1 to T12, in the paper's words and order; then the recording of "Records and listing". Definitions only.
use Rattle.std.specs.Prelude.{ℕ, List, [], ◌∷◌, replicate, Float}
use Rattle.std.specs.Float.{nan, binary32}
use Rattle.std.specs.Float.Ieee.{of_bits}
use Rattle.buffer_rules.specs.Settings.{defaults}
use Rattle.buffer_rules.specs.declared.WindowBufferConfig.{WindowBufferConfig}
use Rattle.detectors.specs.Answers.{presence-started, presence-ended, motion-detected, baseline-changed, quality-dropped, anomaly, calibration}
use Rattle.detectors.specs.Presence.{presence_default}
use Rattle.detectors.specs.Motion.{motion_default}
use Rattle.detectors.specs.Quality.{quality_default}
use Rattle.drift.specs.Settings.{drift_default}
use Rattle.drift.specs.declared.BaselineDriftConfig.{BaselineDriftConfig}
use Rattle.worked.specs.Rows.{Name, T1, T2, T3, T4, T5, T6, T7, T8, T9, T10, T11, T12, listing, Frame, Question, presence, motion, quality, drift, frames, pairs, z, recording, event, distance, mean, variance, energy, end, scale, score, listed, Seen, at, Row}

-- ---- the numbers, by their f32 patterns
abbrev f32 : ℕ → Float
f32 = of_bits binary32

abbrev x0 : Float
x0 = f32 0

abbrev x0·05 : Float
x0·05 = f32 0x3d4c_cccd

abbrev x0·125 : Float
x0·125 = f32 0x3e00_0000

abbrev x0·25 : Float
x0·25 = f32 0x3e80_0000

abbrev x0·5 : Float
x0·5 = f32 0x3f00_0000

abbrev x0·7 : Float
x0·7 = f32 0x3f33_3333

abbrev x0·75 : Float
x0·75 = f32 0x3f40_0000

abbrev x1 : Float
x1 = f32 0x3f80_0000

abbrev x2 : Float
x2 = f32 0x4000_0000

abbrev x3 : Float
x3 = f32 0x4040_0000

abbrev x4 : Float
x4 = f32 0x4080_0000

abbrev x5 : Float
x5 = f32 0x40a0_0000

abbrev x8 : Float
x8 = f32 0x4100_0000

abbrev minus17 : Float
minus17 = f32 0xc188_0000

-- four of one value
abbrev four : Float → List Float
four x = replicate 4 x

-- ---- the settings: the defaults but for what is said
abbrev drift-windows : ℕ → BaselineDriftConfig
drift-windows n =
    record { drift_threshold = drift_default.drift_threshold; drift_windows = n; anomaly_threshold = drift_default.anomaly_threshold; ewma_alpha = drift_default.ewma_alpha }

abbrev max-frames : ℕ → WindowBufferConfig
max-frames n =
    record { max_frames = n; max_duration_ns = defaults.max_duration_ns; presence_threshold = defaults.presence_threshold }

-- ---- the windows before a row: none for a fresh detector, and two scores above on for one that is present
abbrev fresh : {A : Type 0} → List A
fresh = []

abbrev present : List Float
present = x0·75 ∷ x0·75 ∷ []

abbrev frame : List Float → List Float → List Float → ℕ → Frame
frame a p q t = record { amplitudes = a; phases = p; pairs = q; time = t }

-- ---- the rows: what is asked, and what comes out
abbrev row : Name → Question → List Seen → Row
row name asks due = record { name = name; asks = asks; due = due }

unfoldable pub table : List Row
table =
    -- "T1 presence 0.7, 0.7: Started at the second."
    row T1 (presence presence_default fresh (x0·7 ∷ x0·7 ∷ []))
    (at 2 (event presence-started x0·7) ∷ [])
    -- "T2 0.75, 0.5, 0.75, 0.75: at the fourth."
    ∷ row T2 (presence presence_default fresh (x0·75 ∷ x0·5 ∷ x0·75 ∷ x0·75 ∷ []))
    (at 4 (event presence-started x0·75) ∷ [])
    -- "T3 present, then 0.25, 0.25, NaN, 0.25, 0.25, 0.25: Ended at the sixth."
    ∷ row T3 (presence presence_default present (x0·25 ∷ x0·25 ∷ nan ∷ x0·25 ∷ x0·25 ∷ x0·25 ∷ []))
    (at 6 (event presence-ended x0·75) ∷ [])
    -- "T4 motion 0.05 three times: none."
    ∷ row T4 (motion motion_default fresh (x0·05 ∷ x0·05 ∷ x0·05 ∷ []))
    []
    -- "T5 0.125 twice: confidence 1."
    ∷ row T5 (motion motion_default fresh (x0·125 ∷ x0·125 ∷ []))
    (at 2 (event motion-detected x1) ∷ [])
    -- "T6 quality 0.25 seven times: dropped at 2, calibration at 4, both 0.75."
    ∷ row T6 (quality quality_default fresh (replicate 7 x0·25))
    (at 2 (event quality-dropped x0·75) ∷ at 4 (event calibration x0·75) ∷ [])
    -- "T7 drift [2,2,2,2] then [4,4,4,4]: distance 1, no anomaly."
    ∷ row T7 (drift drift_default fresh (four x2 ∷ four x4 ∷ []))
    (at 2 (distance x1) ∷ [])
    -- "T8 drift_windows 1, [2,2,2,2] then [8,8,8,8]: distance 3, anomaly, then baseline, both confidence 1."
    ∷ row T8 (drift (drift-windows 1) fresh (four x2 ∷ four x8 ∷ []))
    (at 2 (distance x3) ∷ at 2 (event anomaly x1) ∷ at 2 (event baseline-changed x1) ∷ [])
    -- "T9 amplitudes four 3s then four 5s, phases 1 then 3, no pairs, times 100, 100, max_frames 2: mean 4, variance 1, motion 0.5, end 101."
    ∷ row T9 (frames (max-frames 2) (frame (four x3) (four x1) [] 100 ∷ frame (four x5) (four x3) [] 100 ∷ []))
    (at 2 (mean (four x4)) ∷ at 2 (variance (four x1)) ∷ at 2 (energy x0·5) ∷ at 2 (end 101) ∷ [])
    -- "T10 one pair (3,4): scale 5."
    ∷ row T10 (pairs (x3 ∷ x4 ∷ []))
    (at 1 (scale x5) ∷ [])
    -- "T11 z 0: 0.5."
    ∷ row T11 (z x0)
    (at 1 (score x0·5) ∷ [])
    -- "T12 z -17: 0."
    ∷ row T12 (z minus17)
    (at 1 (score x0) ∷ [])
    -- "That record with times 0, 1, 2, 3 seconds gives all of: .. 0,1,quality-dropped,3000000000,3f400000"
    ∷ row listing (recording (0 ∷ 1 ∷ 2 ∷ 3 ∷ []))
    (at 4 (listed 0 1 quality-dropped 3000000000 x0·75) ∷ [])
    ∷ []
