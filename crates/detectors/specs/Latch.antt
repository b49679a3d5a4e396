-- The code's switch after a window, as the machine has it.
use Rattle.std.specs.Prelude.{Option, Some, None}
use Rattle.detectors.specs.declared.hysteresis.Latch.{Latch}
use Rattle.detectors.specs.declared.hysteresis.Turn as Code
use Rattle.detectors.specs.declared.hysteresis.Turn.TheVariants.{Rose, Fell}
use Rattle.detectors.specs.Hysteresis.{Turn, still, rose, fell, Moved}

abbrev pub turn_of : Option Code.Turn → Turn
turn_of None = still
turn_of (Some Rose) = rose
turn_of (Some Fell) = fell

abbrev pub latched : Latch → Moved
latched r = record { on = r.on; streak = r.streak; turn = turn_of r.turn }
