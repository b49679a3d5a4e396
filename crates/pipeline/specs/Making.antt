-- Making a pipeline, and adding a detector to it.
use Rattle.std.specs.Prelude.{Result, ℕ, cond, [], ◌∷◌}
use Rattle.buffer_rules.specs.Settings.{settings_ok, defaults}
use Rattle.buffer_rules.specs.State.{fresh_of}
use Rattle.buffer_rules.specs.Paper.{made_number, made}
use Rattle.buffer_rules.specs.declared.WindowBufferConfig.{WindowBufferConfig}
use Rattle.buffer_rules.specs.declared.WindowBuffer.{WindowBuffer}
use Rattle.buffer_rules.specs.declared.NotAccepted.{NotAccepted}
use Rattle.detectors.specs.Presence.{presence_default, presence_fresh}
use Rattle.detectors.specs.Motion.{motion_default, motion_fresh}
use Rattle.detectors.specs.Quality.{quality_default, quality_fresh}
use Rattle.drift.specs.Settings.{drift_default, drift_fresh}
use Rattle.slots.specs.Adding.{no_detectors, Adding, addition_number, add_of}
use Rattle.slots.specs.declared.Detector.{Detector}
use Rattle.slots.specs.declared.Detector.TheVariants.{Presence, Motion, Quality, Drift}
use Rattle.slots.specs.declared.DetectorConfig.{DetectorConfig}
use Rattle.slots.specs.declared.Detectors.{Detectors}
use Rattle.slots.specs.declared.Slot.{Slot}
use Rattle.pipeline.specs.Recents.{none_kept}
use Rattle.pipeline.specs.Whole.{pipeline_ok}
use Rattle.pipeline.specs.declared.EventPipeline.{EventPipeline}
use Rattle.pipeline.specs.declared.Added.{Added}

-- the reply's number, and the pipeline beside it
pub record Numbered : Type 0 where
  pub number : ℕ
  pub pipeline : EventPipeline

abbrev pub numbered : ℕ → EventPipeline → Numbered
numbered n p = record { number = n; pipeline = p }

-- ---- making

abbrev pub makes : Result EventPipeline (NotAccepted EventPipeline) → Numbered
makes r = numbered (made_number r) (made r)

-- a buffer, with no detector and no recent window
abbrev pub around : WindowBuffer → EventPipeline
around b = record { buffer = b; detectors = no_detectors; recent = none_kept }

-- no frame pending, no detector, no recent window; 1 "settings not accepted"
unfoldable pub new_of : ℕ → ℕ → WindowBufferConfig → Numbered
new_of session source c =
    numbered (cond (settings_ok c) 0 1) (record { buffer = fresh_of session source c; detectors = no_detectors; recent = none_kept })

abbrev pub slot_of : Detector → Slot
slot_of d = record { detector = d }

-- the four detectors with their defaults: presence, motion, quality, drift
unfoldable pub default_detectors : Detectors
default_detectors =
    record {
      slots =
          slot_of (Presence presence_default presence_fresh)
          ∷ slot_of (Motion motion_default motion_fresh)
          ∷ slot_of (Quality quality_default quality_fresh)
          ∷ slot_of (Drift drift_default drift_fresh)
          ∷ [];
      count = 4;
    }

-- "buffer 16 frames, 1,000,000,000 ns, threshold 0.02"
unfoldable pub defaults_of : ℕ → ℕ → EventPipeline
defaults_of session source = record { buffer = fresh_of session source defaults; detectors = default_detectors; recent = none_kept }

-- ---- adding

abbrev pub adds : Added → Numbered
adds r = numbered (addition_number r.reply) r.pipeline

abbrev pub with_detectors : EventPipeline → Detectors → EventPipeline
with_detectors p d = record { buffer = p.buffer; detectors = d; recent = p.recent }

abbrev pub from_set : EventPipeline → Adding → Numbered
from_set p a = numbered a.number (with_detectors p a.set)

-- "Adding: 14, 1, 15"; 14 looks at the whole state
unfoldable pub add_detector_of : EventPipeline → DetectorConfig → Numbered
add_detector_of p c = cond (pipeline_ok p) (from_set p (add_of p.detectors c)) (numbered 14 p)
