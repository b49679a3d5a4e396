-- A value taken to the format f, as IEEE 754's convertFormat has it: the nearest value of f, a tie to the even one. Definitions only.
use Rattle.std.specs.Prelude.{◌*◌, Float}
use Rattle.std.specs.Float.{nan, inf, fin, Format}
use Rattle.std.specs.Float.Ieee.{up, down, round}

-- a NaN and an infinity stay; a finite value is rounded once, with its sign
unfoldable pub convert : Format → Float → Float
unfolding round
convert f nan = nan
convert f (inf s) = inf s
convert f (fin s m e) = round f s (m * up e) (down e)
