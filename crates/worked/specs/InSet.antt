-- The same detector in a set, added by `add`, the set given windows by `judge`: all that a call left goes into the next. Definitions only.
use Rattle.std.specs.Prelude.{List, [], ◌++◌, map, take, replicate, Float}
use Rattle.floats.specs.Clamp.{zero32, one32}
use Rattle.rvcsi_core.specs.Counters.{fresh_ids}
use Rattle.rvcsi_core.specs.declared.event.CsiEvent.{CsiEvent}
use Rattle.detectors.specs.Answers.{kind_of}
use Rattle.slots.specs.declared.Detector.{Detector}
use Rattle.slots.specs.declared.Detector.TheVariants.{Presence, Motion, Quality, Drift}
use Rattle.slots.specs.declared.DetectorConfig.{DetectorConfig}
use Rattle.slots.specs.declared.Batch.{Batch}
use Rattle.slots.specs.Slots.{detector_at}
use Rattle.slots.specs.Adding.{Adding, no_detectors, add_of}
use Rattle.slots.specs.Batches.{batch_of}
use Rattle.slots.specs.Judging.{Outcome, judge_of}
use Rattle.slots.specs.Runs.{Turn}
use Rattle.worked.specs.Rows.{Fact, event}
use Rattle.worked.specs.Runs.{Reply, numbered}
use Rattle.worked.specs.Alone.{distances}

-- the events of a batch
abbrev pub batched : Batch → List Fact
batched b = map (λ (e : CsiEvent). event (kind_of e.kind) e.confidence) (take b.count b.events)

-- the distance that drift judges a list by
abbrev pub measures : Detector → List Float → List Float → List Fact
measures (Presence c s) l store = []
measures (Motion c s) l store = []
measures (Quality c s) l store = []
measures (Drift c s) l store = distances s.baseline l store

-- a set of one, over a store that holds x everywhere
abbrev pub started : Float → Adding → Reply Outcome
started x a =
    numbered a.number (record { number = 0; ids = fresh_ids; set = a.set; batch = batch_of []; store = replicate 256 x }) []

unfoldable pub set_new : Float → DetectorConfig → Reply Outcome
set_new x c = started x (add_of no_detectors c)

abbrev pub judged : List Fact → Outcome → Reply Outcome
judged facts o = numbered o.number o (facts ++ batched o.batch)

unfoldable pub judge_on : Outcome → Turn → Reply Outcome
judge_on o t =
    judged (measures (detector_at o.set.slots 0) t.means o.store)
    (judge_of o.ids o.set t.window t.means o.store)

-- ---- a window by what one detector reads of it; the others' numbers are still

abbrev pub turn : Float → Float → Float → List Float → Turn
turn p m q means =
    record {
      window =
          record {
            window_id = 0;
            session_id = 1;
            source_id = 1;
            start_ns = 0;
            end_ns = 1;
            frame_count = 1;
            motion_energy = m;
            presence_score = p;
            quality_score = q;
          };
      means = means;
    }

abbrev pub by_presence : Float → Turn
by_presence p = turn p zero32 one32 []

abbrev pub by_motion : Float → Turn
by_motion m = turn zero32 m one32 []

abbrev pub by_quality : Float → Turn
by_quality q = turn zero32 zero32 q []

abbrev pub by_means : List Float → Turn
by_means l = turn zero32 zero32 one32 l
