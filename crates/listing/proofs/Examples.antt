-- 01's example lines, by computation, and lines at the limits.
-- Assumes nothing.
use mathlib.Core.Path.{◌≡◌, refl}
use mathlib.Core.List.{[], ◌∷◌}
use lib.Ieee.{binary32, of_bits, to_bits}
use Rattle.rvcsi_core.specs.declared.event.CsiEvent.{CsiEvent}
use Rattle.rvcsi_core.specs.declared.event.CsiEventKind.TheVariants.{SignalQualityDropped}
use Rattle.listing.specs.Text.{digits, trimmed, decimal}
use Rattle.listing.specs.Lines.{event_line, stop_line, end_line}
use Rattle.listing.specs.Counting.{counts}

-- event 0 of window 1, at three seconds, confidence 0.75
abbrev dropped : CsiEvent
dropped = record {
  event_id = 0;
  kind = SignalQualityDropped;
  session_id = 1;
  source_id = 1;
  timestamp_ns = 3000000000;
  confidence = of_bits binary32 0x3f400000;
  window_id = 1;
}

-- `0,1,quality-dropped,3000000000,3f400000`
pub event_line_lem : event_line dropped ≡ 48 ∷ 44 ∷ 49 ∷ 44 ∷ 113 ∷ 117 ∷ 97 ∷ 108 ∷ 105 ∷ 116 ∷ 121 ∷ 45 ∷ 100 ∷ 114 ∷ 111 ∷ 112 ∷ 112 ∷ 101 ∷ 100 ∷ 44 ∷ 51 ∷ 48 ∷ 48 ∷ 48 ∷ 48 ∷ 48 ∷ 48 ∷ 48 ∷ 48 ∷ 48 ∷ 44 ∷ 51 ∷ 102 ∷ 52 ∷ 48 ∷ 48 ∷ 48 ∷ 48 ∷ 48 ∷ 10 ∷ []
unfolding digits trimmed event_line of_bits to_bits
event_line_lem = refl

-- `stop,8,0`
pub stop_line_lem : stop_line 8 0 ≡ 115 ∷ 116 ∷ 111 ∷ 112 ∷ 44 ∷ 56 ∷ 44 ∷ 48 ∷ 10 ∷ []
unfolding digits trimmed stop_line
stop_line_lem = refl

-- `end,4,2,0`
pub end_line_lem : end_line (counts 4 2 0) ≡ 101 ∷ 110 ∷ 100 ∷ 44 ∷ 52 ∷ 44 ∷ 50 ∷ 44 ∷ 48 ∷ 10 ∷ []
unfolding digits trimmed end_line
end_line_lem = refl

-- `0`
pub zero : decimal 0 ≡ 48 ∷ []
unfolding digits trimmed
zero = refl

-- `18446744073709551615`
pub most : decimal 0xffff_ffff_ffff_ffff ≡ 49 ∷ 56 ∷ 52 ∷ 52 ∷ 54 ∷ 55 ∷ 52 ∷ 52 ∷ 48 ∷ 55 ∷ 51 ∷ 55 ∷ 48 ∷ 57 ∷ 53 ∷ 53 ∷ 49 ∷ 54 ∷ 49 ∷ 53 ∷ []
unfolding digits trimmed
most = refl
