-- What the detectors share: limits and counts that are accepted, and the confidence that compares with twice a threshold.
use Rattle.std.specs.Prelude.{Bool, ◌&&◌, ℕ, leb, Float}
use Rattle.std.specs.Float.{binary32}
use Rattle.std.specs.Float.Ieee.{of_bits, lt, mul, div}
use Rattle.floats.specs.Clamp.{clamp_of}
use Rattle.rvcsi_core.specs.Settings.{threshold_ok}

abbrev pub two32 : Float
two32 = of_bits binary32 0x4000_0000

-- two thresholds, "on above off"
unfoldable pub limits_ok : Float → Float → Bool
limits_ok on off = threshold_ok on && (threshold_ok off && lt off on)

-- "all other counts are at least 1"
abbrev pub counts_ok : ℕ → ℕ → Bool
counts_ok a b = leb 1 a && leb 1 b

-- "Confidence m/(2*on)", "distance/(2*its threshold)"; "every confidence is clamped to 0..1"
unfoldable pub over_twice : Float → Float → Float
over_twice x limit = clamp_of (div binary32 x (mul binary32 two32 limit))
