-- What a row of the table asks, and what it says comes out. Definitions only.
use Rattle.std.specs.Prelude.{ℕ, List, Float}
use Rattle.buffer_rules.specs.declared.WindowBufferConfig.{WindowBufferConfig}
use Rattle.detectors.specs.Answers.{Kind}
use Rattle.detectors.specs.declared.presence.PresenceConfig.{PresenceConfig}
use Rattle.detectors.specs.declared.motion.MotionConfig.{MotionConfig}
use Rattle.detectors.specs.declared.quality.QualityConfig.{QualityConfig}
use Rattle.drift.specs.declared.BaselineDriftConfig.{BaselineDriftConfig}

-- the rows' names
pub data Name : Type 0 where
  T1 T2 T3 T4 T5 T6 T7 T8 T9 T10 T11 T12 listing : Name

-- a frame's lists and its time
pub record Frame : Type 0 where
  pub amplitudes : List Float
  pub phases : List Float
  pub pairs : List Float
  pub time : ℕ

-- Settings, and what is handed in, oldest first. A detector has two lists of windows, each window by what the detector reads of it: those
-- before the row begins (none, where it is fresh), then the row's own, which are numbered from 1.
pub data Question : Type 0 where
  presence : PresenceConfig → List Float → List Float → Question
  motion : MotionConfig → List Float → List Float → Question
  quality : QualityConfig → List Float → List Float → Question
  drift : BaselineDriftConfig → List (List Float) → List (List Float) → Question
  frames : WindowBufferConfig → List Frame → Question
  -- the pairs of one frame
  pairs : List Float → Question
  -- a z for the logistic table
  z : Float → Question
  -- the record of "Records and listing" at these times, in seconds
  recording : List ℕ → Question

-- one thing that comes out
pub data Fact : Type 0 where
  -- an event's kind and confidence
  event : Kind → Float → Fact
  -- how far a list was from the baseline
  distance : Float → Fact
  -- of a window that closed
  mean variance : List Float → Fact
  energy : Float → Fact
  end : ℕ → Fact
  -- of a frame, and of a z
  scale score : Float → Fact
  -- a line of the listing: event, window, kind, time, confidence
  listed : ℕ → ℕ → Kind → ℕ → Float → Fact
  -- a refusal, by its reply number
  refused : ℕ → Fact

-- where in the run it came out: at which window, frame, or other thing handed in
pub data Seen : Type 0 where
  at : ℕ → Fact → Seen

pub record Row : Type 0 where
  pub name : Name
  pub asks : Question
  pub due : List Seen
