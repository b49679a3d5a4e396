-- The frame and the lists that a record hands to the pipeline. Definitions only.
use Rattle.std.specs.Prelude.{ℕ, ◌*◌, ◌/◌, min, Bool, true, false, List, length, take, from_bits, Float}
use Rattle.std.specs.Float.{binary32}
use Rattle.records.specs.Records.{flag_number}
use Rattle.records.specs.declared.Header.{Header}
use Rattle.rvcsi_core.specs.declared.frame.CsiFrame.{CsiFrame}
use Rattle.buffer_rules.specs.Paper.{Returns, nothing, place, window, Answer}

-- the frame of a record: its flag is a number, its quality the float of its bits
abbrev pub frame_of : Header → CsiFrame
frame_of h = record {
  session_id = h.session;
  source_id = h.source;
  timestamp_ns = h.time;
  exposable = flag_number h.exposable;
  subcarrier_count = h.subcarriers;
  pair_count = h.pairs;
  quality_score = from_bits binary32 h.quality;
}

-- the first n of a list, or all that there are
abbrev pub first_of : ℕ → List Float → List Float
first_of n l = take (min n (length l)) l

-- the first m pairs of a list, or all that there are
abbrev pub pairs_of : ℕ → List Float → List Float
pairs_of m l = take (2 * min m (length l / 2)) l

abbrev pub returns_window : Returns → Bool
returns_window nothing = false
returns_window (place k) = false
returns_window (window w n) = true

-- does this answer close a window?
abbrev pub closes : Answer → Bool
closes a = returns_window a.returns
