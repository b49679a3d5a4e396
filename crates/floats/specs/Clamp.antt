-- A value brought into 0..1, as Rust's `clamp(0.0, 1.0)` does it. Definitions only.
use Rattle.std.specs.Prelude.{cond, from_bits, Float}
use Rattle.std.specs.Float.{binary32}
use Rattle.std.specs.Float.Ieee.{lt}

abbrev pub zero32 : Float
zero32 = from_bits binary32 0

abbrev pub one32 : Float
one32 = from_bits binary32 0x3f80_0000

-- below 0 it is 0, above 1 it is 1, and anything else, a NaN too, stays
unfoldable pub clamp_of : Float → Float
clamp_of x = cond (lt x zero32) zero32 (cond (lt one32 x) one32 x)
