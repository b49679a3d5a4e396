-- A batch of events, numbered in order.
use Rattle.std.specs.Prelude.{cond, List, [], ◌∷◌, ℕ, zero, suc, ◌+◌, ◌≤◌, min, ltb, set, replicate, length, Option, Some, None}
use Rattle.floats.specs.Clamp.{zero32}
use Rattle.rvcsi_core.specs.declared.window.CsiWindow.{CsiWindow}
use Rattle.rvcsi_core.specs.declared.event.CsiEvent.{CsiEvent}
use Rattle.rvcsi_core.specs.declared.event.CsiEventKind.TheVariants as kind
use Rattle.detectors.specs.declared.Judgement.{Judgement}
use Rattle.slots.specs.Limits.{most, last}
use Rattle.slots.specs.declared.Batch.{Batch}

-- what a judgement says, if anything: "a judgement is quiet or an event carrying its confidence"
abbrev pub heard : Option Judgement → List Judgement
heard None = []
heard (Some j) = j ∷ []

-- "Event time is the window's end, evidence its number"
abbrev pub event_of : CsiWindow → ℕ → Judgement → CsiEvent
event_of w n t =
    record {
      event_id = n;
      kind = t.kind;
      session_id = w.session_id;
      source_id = w.source_id;
      timestamp_ns = w.end_ns;
      confidence = t.confidence;
      window_id = w.window_id;
    }

-- events numbered from n
unfoldable pub numbered : CsiWindow → ℕ → List Judgement → List CsiEvent
numbered w n [] = []
numbered w n (t ∷ ts) = event_of w n t ∷ numbered w (n + 1) ts

-- what stands behind the events of a batch
abbrev pub none : CsiEvent
none =
    record {
      event_id = 0;
      kind = kind.PresenceStarted;
      session_id = 0;
      source_id = 0;
      timestamp_ns = 0;
      confidence = zero32;
      window_id = 0;
    }

-- k places: the events of the list, then empty ones
unfoldable pub fill : ℕ → List CsiEvent → List CsiEvent
fill zero l = []
fill (suc k) [] = none ∷ fill k []
fill (suc k) (e ∷ l) = e ∷ fill k l

-- "a batch of at most six"
abbrev pub batch_of : List CsiEvent → Batch
batch_of l = record { events = fill most l; count = min (length l) most }

-- ---- as the code makes it

-- the next event number leaves room for a batch
pub record Numbers (first : ℕ) : Type 0 where
  pub room : first ≤ last

abbrev pub nothing : Batch
nothing = record { events = replicate most none; count = 0 }

abbrev pub added : CsiWindow → ℕ → Batch → Judgement → Batch
added w n b t =
    cond (ltb b.count most)
    (record { events = set b.events b.count (event_of w (n + b.count) t); count = b.count + 1 }) b

abbrev pub joined : CsiWindow → ℕ → Batch → List Judgement → Batch
joined w n b [] = b
joined w n b (t ∷ ts) = joined w n (added w n b t) ts

unfoldable pub pushed : CsiWindow → ℕ → Batch → Option Judgement → Batch
pushed w n b t = joined w n b (heard t)
