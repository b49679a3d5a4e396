-- The lines of a listing, as 01 shows them. A text is its ASCII codes. Definitions only.
use Rattle.std.specs.Prelude.{ℕ, ◌+◌, ◌≤◌, ◌≡◌, List, [], ◌∷◌, ◌++◌, length}
use Rattle.std.proofs.lemmas.List.Edits.{sets}
use Rattle.std.specs.Float.{binary32}
use Rattle.std.specs.Float.Ieee.{to_bits}
use Rattle.rvcsi_core.specs.declared.event.CsiEvent.{CsiEvent}
use Rattle.rvcsi_core.specs.declared.event.CsiEventKind.{CsiEventKind}
use Rattle.rvcsi_core.specs.declared.event.CsiEventKind.TheVariants.{PresenceStarted, PresenceEnded, MotionDetected, MotionSettled, BaselineChanged, SignalQualityDropped, AnomalyDetected, CalibrationRequired}
use Rattle.listing.specs.Text.{decimal, hex}
use Rattle.listing.specs.declared.Counts.{Counts}

abbrev pub comma : ℕ
comma = 44

abbrev pub newline : ℕ
newline = 10

-- `event,window,kind,time,confidence` and the line's end
abbrev pub heading_line : List ℕ
heading_line = 101 ∷ 118 ∷ 101 ∷ 110 ∷ 116 ∷ 44 ∷ 119 ∷ 105 ∷ 110 ∷ 100 ∷ 111 ∷ 119 ∷ 44 ∷ 107 ∷ 105 ∷ 110 ∷ 100 ∷ 44 ∷ 116 ∷ 105 ∷ 109 ∷ 101 ∷ 44 ∷ 99 ∷ 111 ∷ 110 ∷ 102 ∷ 105 ∷ 100 ∷ 101 ∷ 110 ∷ 99 ∷ 101 ∷ 10 ∷ []

-- "Kinds: presence-started, presence-ended, motion-detected, motion-settled, baseline-changed, quality-dropped, anomaly, calibration."
abbrev pub word : CsiEventKind → List ℕ
word PresenceStarted = 112 ∷ 114 ∷ 101 ∷ 115 ∷ 101 ∷ 110 ∷ 99 ∷ 101 ∷ 45 ∷ 115 ∷ 116 ∷ 97 ∷ 114 ∷ 116 ∷ 101 ∷ 100 ∷ []
word PresenceEnded = 112 ∷ 114 ∷ 101 ∷ 115 ∷ 101 ∷ 110 ∷ 99 ∷ 101 ∷ 45 ∷ 101 ∷ 110 ∷ 100 ∷ 101 ∷ 100 ∷ []
word MotionDetected = 109 ∷ 111 ∷ 116 ∷ 105 ∷ 111 ∷ 110 ∷ 45 ∷ 100 ∷ 101 ∷ 116 ∷ 101 ∷ 99 ∷ 116 ∷ 101 ∷ 100 ∷ []
word MotionSettled = 109 ∷ 111 ∷ 116 ∷ 105 ∷ 111 ∷ 110 ∷ 45 ∷ 115 ∷ 101 ∷ 116 ∷ 116 ∷ 108 ∷ 101 ∷ 100 ∷ []
word BaselineChanged = 98 ∷ 97 ∷ 115 ∷ 101 ∷ 108 ∷ 105 ∷ 110 ∷ 101 ∷ 45 ∷ 99 ∷ 104 ∷ 97 ∷ 110 ∷ 103 ∷ 101 ∷ 100 ∷ []
word SignalQualityDropped = 113 ∷ 117 ∷ 97 ∷ 108 ∷ 105 ∷ 116 ∷ 121 ∷ 45 ∷ 100 ∷ 114 ∷ 111 ∷ 112 ∷ 112 ∷ 101 ∷ 100 ∷ []
word AnomalyDetected = 97 ∷ 110 ∷ 111 ∷ 109 ∷ 97 ∷ 108 ∷ 121 ∷ []
word CalibrationRequired = 99 ∷ 97 ∷ 108 ∷ 105 ∷ 98 ∷ 114 ∷ 97 ∷ 116 ∷ 105 ∷ 111 ∷ 110 ∷ []

-- a number and the byte behind it
abbrev pub field : ℕ → ℕ → List ℕ
field n behind = decimal n ++ (behind ∷ [])

-- a kind and a comma
abbrev pub kind_field : CsiEventKind → List ℕ
kind_field k = word k ++ (comma ∷ [])

-- the bits of a confidence and the line's end
abbrev pub bits_field : ℕ → List ℕ
bits_field bits = hex bits ++ (newline ∷ [])

-- event, window, kind, time, and the bits of the confidence
unfoldable pub event_line : CsiEvent → List ℕ
event_line e =
    field e.event_id comma ++ field e.window_id comma ++ kind_field e.kind ++ field e.timestamp_ns comma ++ bits_field (to_bits binary32 e.confidence)

-- `stop,number,offset`
unfoldable pub stop_line : ℕ → ℕ → List ℕ
stop_line number offset = (115 ∷ 116 ∷ 111 ∷ 112 ∷ 44 ∷ []) ++ field number comma ++ field offset newline

-- "the end line: accepted, windows, skipped"
unfoldable pub end_line : Counts → List ℕ
end_line c = (101 ∷ 110 ∷ 100 ∷ 44 ∷ []) ++ field c.accepted comma ++ field c.windows comma ++ field c.skipped newline

-- bs, of at most n bytes, written from `at` on over d, which becomes d', and the place after them
pub record Placed (d : List ℕ) (at : ℕ) (bs : List ℕ) (n : ℕ) (d' : List ℕ) (r : ℕ) : Type 0 where
  pub place : r ≡ at + length bs
  pub few : length bs ≤ n
  pub same : d' ≡ sets d at bs
