-- The rule of a frame's flag. Definitions only.
use Rattle.std.specs.Prelude.{Bool, eqb}
use Rattle.rvcsi_core.specs.declared.frame.CsiFrame.{CsiFrame}

-- "a frame is exposable exactly when its flag is 1"
abbrev pub exposable : CsiFrame → Bool
exposable f = eqb f.exposable 1
