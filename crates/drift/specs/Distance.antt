-- How far a list is from the baseline, which stands in its store from place 0.
use Rattle.std.specs.Prelude.{cond, List, ℕ, eqb, pos, length, Float}
use Rattle.std.specs.Float.{binary32, binary64}
use Rattle.std.specs.Float.Ieee.{le, div, of_int, of_bits}
use Rattle.floats.specs.Clamp.{zero32}
use Rattle.floats.specs.Convert.{convert}
use Rattle.floats.specs.Sqrt.{sqrt}
use Rattle.lists.specs.Fold.{sum_to}
use Rattle.lists.specs.Squares.{square_at, away_at}

-- "root(sum of squares)/root(n)", narrowed; "n = 0 gives 0"
unfoldable pub root_mean : Float → ℕ → Float
root_mean sum n =
    cond (eqb n 0) zero32 (convert binary32 (div binary64 (sqrt binary64 sum) (sqrt binary64 (of_int binary64 (pos n)))))

-- the distance of the list from the first values of the store, as many as the list has
abbrev pub rms_distance : List Float → List Float → Float
rms_distance cur base = root_mean (sum_to binary64 (away_at cur base) (length cur)) (length cur)

-- the RMS of the first n
abbrev pub rms_of : List Float → ℕ → Float
rms_of l n = root_mean (sum_to binary64 (square_at l) n) n

-- 1e-3 in f32
abbrev pub flat : Float
flat = of_bits binary32 0x3a83_126f

-- "absolute when baseline RMS <= 1e-3, else relative (divided by that RMS)"
unfoldable pub relative_to : Float → Float → Float
relative_to size d = cond (le size flat) d (div binary32 d size)

unfoldable pub distance_of : List Float → List Float → Float
distance_of cur base = relative_to (rms_of base (length cur)) (rms_distance cur base)
