-- The range of a score. Definitions only.
use Rattle.std.specs.Prelude.{Bool, ◌&&◌, Float}
use Rattle.std.specs.Float.Ieee.{le}
use Rattle.floats.specs.Clamp.{zero32, one32}

-- "from 0 to 1"; a NaN is not
unfoldable pub score_ok : Float → Bool
score_ok x = le zero32 x && le x one32
