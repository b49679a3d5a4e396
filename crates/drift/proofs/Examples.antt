-- The update of a baseline, by computation. Assumes nothing.
use Rattle.std.specs.Prelude.{Some, None}
use mathlib.Core.Path.{◌≡◌, refl}
use mathlib.Core.List.{List, ◌++◌}
use Prim.Native.Nat.{ℕ}
use lib.ListN.{replicate}
use lib.Ieee.{Float, binary32, of_bits, of_int, add, sub, mul, div, le, lt, round}
use Rattle.floats.specs.Sqrt.{sqrt, root_of, halves, whole, digit}
use Rattle.floats.specs.Convert.{convert}
use Rattle.lists.specs.Fold.{sum_to}
use Rattle.lists.specs.Tab.{tab}
use Rattle.drift.specs.Settings.{drift_default}
use Rattle.drift.specs.Distance.{distance_of, root_mean, relative_to}
use Rattle.drift.specs.Drift.{drift_move, weighed, measured, anomaly_if, streak_of, judging}

-- four values of this pattern
abbrev four : ℕ → List Float
four n = replicate 4 (of_bits binary32 n)

-- a list of 4s moves a baseline of 2s to 2.2, whatever follows it in the store
pub moved_tenth : (rest : List Float)
    → drift_move drift_default (record { baseline = Some 4; drift_streak = 0 }) (four 0x4080_0000) (four 0x4000_0000 ++ rest) ≡ judging 4 1 None None (four 0x400c_cccd ++ rest)
unfolding drift_move measured weighed distance_of root_mean relative_to anomaly_if streak_of sqrt root_of halves whole digit convert sum_to tab add sub mul div of_int round of_bits le lt
moved_tenth rest = refl
