-- The squares of f32 values and of f32 differences, taken in f64. Definitions only.
use Rattle.std.specs.Prelude.{ℕ, List, get_or, Float}
use Rattle.std.specs.Float.{nan, binary32, binary64}
use Rattle.std.specs.Float.Ieee.{sub, mul}

abbrev pub square : Float → Float
square x = mul binary64 x x

-- of the value at place k
abbrev pub square_at : List Float → ℕ → Float
square_at l k = square (get_or l k nan)

-- "f32 differences widened", squared
abbrev pub square_away : Float → Float → Float
square_away x y = square (sub binary32 x y)

-- of the values at place k
abbrev pub away_at : List Float → List Float → ℕ → Float
away_at l m k = square_away (get_or l k nan) (get_or m k nan)
