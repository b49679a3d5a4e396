-- A detector is added behind the others.
use Rattle.std.specs.Prelude.{Bool, true, false, ℕ, ◌+◌, ltb, set, replicate, Result, Ok, Err}
use Rattle.floats.specs.Clamp.{zero32}
use Rattle.lists.specs.All.{all_to}
use Rattle.detectors.specs.Presence.{presence_accepted, presence_fresh}
use Rattle.detectors.specs.Motion.{motion_accepted, motion_fresh}
use Rattle.detectors.specs.Quality.{quality_accepted, quality_fresh}
use Rattle.drift.specs.Settings.{drift_accepted, drift_fresh}
use Rattle.slots.specs.Limits.{places}
use Rattle.slots.specs.declared.DetectorConfig.{DetectorConfig}
use Rattle.slots.specs.declared.DetectorConfig.TheVariants as given
use Rattle.slots.specs.declared.Detector.{Detector}
use Rattle.slots.specs.declared.Detector.TheVariants.{Presence, Motion, Quality, Drift}
use Rattle.slots.specs.declared.Slot.{Slot}
use Rattle.slots.specs.declared.Detectors.{Detectors}
use Rattle.slots.specs.declared.AddRefusal.{AddRefusal}
use Rattle.slots.specs.declared.AddRefusal.TheVariants.{OutOfRange, NotAccepted, KindThere}
use Rattle.slots.specs.declared.Adding as Code
use Rattle.slots.specs.Slots.{other_at, set_ok}

-- what stands in a slot that no detector was added to
abbrev pub unused : Slot
unused =
    record {
      detector =
          Presence (record { on_threshold = zero32; off_threshold = zero32; enter_windows = 0; exit_windows = 0 })
          presence_fresh;
    }

unfoldable pub no_detectors : Detectors
no_detectors = record { slots = replicate places unused; count = 0 }

-- not 1, "settings not accepted"
abbrev pub config_accepted : DetectorConfig → Bool
config_accepted (given.Presence c) = presence_accepted c
config_accepted (given.Motion c) = motion_accepted c
config_accepted (given.Quality c) = quality_accepted c
config_accepted (given.Drift c) = drift_accepted c

-- a fresh detector
abbrev pub made_of : DetectorConfig → Detector
made_of (given.Presence c) = Presence c presence_fresh
made_of (given.Motion c) = Motion c motion_fresh
made_of (given.Quality c) = Quality c quality_fresh
made_of (given.Drift c) = Drift c drift_fresh

-- 01's number of a reply
abbrev pub addition_number : Result (Unit {0}) AddRefusal → ℕ
addition_number (Ok u) = 0
addition_number (Err OutOfRange) = 14
addition_number (Err NotAccepted) = 1
addition_number (Err KindThere) = 15

-- the reply's number, and the set after it
pub record Adding : Type 0 where
  pub number : ℕ
  pub set : Detectors

abbrev pub adding : Code.Adding → Adding
adding r = record { number = addition_number r.reply; set = r.set }

abbrev pub left : ℕ → Detectors → Adding
left n s = record { number = n; set = s }

-- the set with the detector, or the set as it was with a refusal's number
abbrev pub added_to : Detectors → Result Detectors AddRefusal → Adding
added_to s (Ok t) = left 0 t
added_to s (Err e) = left (addition_number (Err e)) s

abbrev pub unless : Bool → Adding → Adding → Adding
unless true v rest = rest
unless false v rest = v

-- 15 "kind already added" (or no place is left, which four kinds rule out: `Four`); else it stands behind the others
unfoldable pub put_of : Detectors → Detector → Adding
put_of s d =
    unless (all_to (other_at s.slots d) s.count) (left 15 s)
    (unless (ltb s.count places) (left 15 s)
    (left 0 (record { slots = set s.slots s.count (record { detector = d }); count = s.count + 1 })))

-- "Adding: 14, 1, 15"; a refusal leaves the set as it was
unfoldable pub add_of : Detectors → DetectorConfig → Adding
add_of s c = unless (set_ok s) (left 14 s) (unless (config_accepted c) (left 1 s) (put_of s (made_of c)))
