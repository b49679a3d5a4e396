-- The numbers of 01 that more than one crate names. Definitions only.
use Rattle.std.specs.Prelude.{ℕ, Float}
use Rattle.std.specs.Float.{binary32}
use Rattle.std.specs.Float.Ieee.{of_bits}

-- "0 to 256 subcarriers .., 0 to 256 I/Q pairs": the most values of a list, and the places of a row of a store
abbrev pub most_values : ℕ
most_values = 256

-- "max_frames 2 to 16": the most frames of a window, and the rows of a store
abbrev pub most_frames : ℕ
most_frames = 16

-- "4,096 amplitudes, 4,096 phases"
abbrev pub store_places : ℕ
store_places = 4096

-- 2^64-1
abbrev pub largest : ℕ
largest = 0xffff_ffff_ffff_ffff

-- "1e-3" in f32
abbrev pub thousandth : Float
thousandth = of_bits binary32 0x3a83_126f
