-- What every threshold must be. Definitions only.
use Rattle.std.specs.Prelude.{Bool, ◌&&◌, Float}
use Rattle.std.specs.Float.{binary32}
use Rattle.std.specs.Float.Ieee.{of_bits, le}
use Rattle.floats.specs.Clamp.{zero32}

-- 1,000,000
abbrev pub million : Float
million = of_bits binary32 0x4974_2400

-- "every threshold, presence_threshold included, is finite and from 0 to 1,000,000": a NaN or an infinity does not lie there
unfoldable pub threshold_ok : Float → Bool
threshold_ok t = le zero32 t && le t million
