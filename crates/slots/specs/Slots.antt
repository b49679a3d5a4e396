-- Detectors in slots, in order of adding.
use Rattle.std.specs.Prelude.{◌≡◌, Bool, true, false, not, ◌&&◌, List, ◌++◌, ℕ, ◌≤◌, ◌+◌, min, leb, eqb, get_or, take, drop, replicate, Float, Option, None}
use Rattle.std.specs.Float.{nan}
use Rattle.lists.specs.All.{all_to}
use Rattle.lists.specs.Tab.{tab}
use Rattle.rvcsi_core.specs.declared.window.CsiWindow.{CsiWindow}
use Rattle.detectors.specs.declared.Judgement.{Judgement}
use Rattle.detectors.specs.declared.Moved.{Moved}
use Rattle.detectors.specs.declared.presence.PresenceState.{PresenceState}
use Rattle.detectors.specs.declared.presence.PresenceConfig.{PresenceConfig}
use Rattle.detectors.specs.declared.motion.MotionState.{MotionState}
use Rattle.detectors.specs.declared.motion.MotionConfig.{MotionConfig}
use Rattle.detectors.specs.declared.quality.QualityState.{QualityState}
use Rattle.detectors.specs.declared.quality.QualityConfig.{QualityConfig}
use Rattle.drift.specs.declared.BaselineDriftConfig.{BaselineDriftConfig}
use Rattle.detectors.specs.Presence.{presence_in, presence_move}
use Rattle.detectors.specs.Motion.{motion_in, motion_move}
use Rattle.detectors.specs.Quality.{quality_in, quality_move}
use Rattle.drift.specs.Drift.{drift_in, drift_move, Drifted}
use Rattle.slots.specs.Limits.{places, part}
use Rattle.slots.specs.declared.Detector.{Detector}
use Rattle.slots.specs.declared.Detector.TheVariants.{Presence, Motion, Quality, Drift}
use Rattle.slots.specs.declared.DetectorKind.{DetectorKind}
use Rattle.slots.specs.declared.DetectorKind.TheVariants as kinds
use Rattle.slots.specs.declared.Slot.{Slot}
use Rattle.slots.specs.declared.Detectors.{Detectors}
use Rattle.slots.specs.declared.Kinds.{Kinds}

-- ---- one detector

-- its settings are accepted and its state is in range
abbrev pub detector_in : Detector → Bool
detector_in (Presence c s) = presence_in c s
detector_in (Motion c s) = motion_in c s
detector_in (Quality c s) = quality_in c s
detector_in (Drift c s) = drift_in c s

-- a detector's kind
abbrev pub kind_of : Detector → DetectorKind
kind_of (Presence c s) = kinds.Presence
kind_of (Motion c s) = kinds.Motion
kind_of (Quality c s) = kinds.Quality
kind_of (Drift c s) = kinds.Drift

-- "a kind number and four state records"
abbrev pub kind_number : Detector → ℕ
kind_number (Presence c s) = 0
kind_number (Motion c s) = 1
kind_number (Quality c s) = 2
kind_number (Drift c s) = 3

-- a detector after a window: itself, what it says in order, and its baseline's list
pub record Step : Type 0 where
  pub detector : Detector
  pub first : Option Judgement
  pub second : Option Judgement
  pub baseline : List Float

abbrev pub stepped : Moved Detector → List Float → Step
stepped r l = record { detector = r.state; first = r.first; second = r.second; baseline = l }

abbrev pub by_presence : PresenceConfig → Moved PresenceState → List Float → Step
by_presence c m l = record { detector = Presence c m.state; first = m.first; second = None; baseline = l }

abbrev pub by_motion : MotionConfig → Moved MotionState → List Float → Step
by_motion c m l = record { detector = Motion c m.state; first = m.first; second = None; baseline = l }

abbrev pub by_quality : QualityConfig → Moved QualityState → List Float → Step
by_quality c m l = record { detector = Quality c m.state; first = m.first; second = m.second; baseline = l }

abbrev pub by_drift : BaselineDriftConfig → Drifted → Step
by_drift c m =
    record {
      detector = Drift c m.moved.state;
      first = m.moved.first;
      second = m.moved.second;
      baseline = m.store;
    }

-- presence goes by the window's score, motion by its energy, quality by its quality, drift by the mean list
unfoldable pub step_of : CsiWindow → List Float → Detector → List Float → Step
step_of w means (Presence c s) l = by_presence c (presence_move c s w.presence_score) l
step_of w means (Motion c s) l = by_motion c (motion_move c s w.motion_energy) l
step_of w means (Quality c s) l = by_quality c (quality_move c s w.quality_score) l
step_of w means (Drift c s) l = by_drift c (drift_move c s means l)

-- what a step needs: a list of n, a baseline's list of m
pub record Ready (d : Detector) (n m : ℕ) : Type 0 where
  pub fine : detector_in d ≡ true
  pub few : n ≤ part
  pub room : part ≤ m

-- ---- the set

-- where the baseline of slot i begins: one place serves, since no kind comes twice
abbrev pub place_of : ℕ → ℕ
place_of i = 0

-- the values from a place, and the store with others there; the rest stays
abbrev pub part_of : ℕ → List Float → List Float
part_of at store = take part (drop at store)

abbrev pub with_part : ℕ → List Float → List Float → List Float
with_part at store l = take at store ++ (l ++ drop (at + part) store)

-- read beyond a list's end, which no rule does
abbrev pub blank : Slot
blank =
    record {
      detector =
          Presence (record { on_threshold = nan; off_threshold = nan; enter_windows = 0; exit_windows = 0 })
          (record { present = false; streak = 0 });
    }

abbrev pub detector_at : List Slot → ℕ → Detector
detector_at l i = (get_or l i blank).detector

abbrev pub in_at : List Slot → ℕ → Bool
in_at l i = detector_in (detector_at l i)

-- the detector at i is of another kind than d
abbrev pub other_at : List Slot → Detector → ℕ → Bool
other_at l d i = not (eqb (kind_number (detector_at l i)) (kind_number d))

-- the detector at i is of another kind than each before it
abbrev pub fresh_at : List Slot → ℕ → Bool
fresh_at l i = all_to (other_at l (detector_at l i)) i

-- "State out of range: .. a kind twice", or a detector that is
unfoldable pub set_ok : Detectors → Bool
set_ok s = leb s.count places && (all_to (in_at s.slots) s.count && all_to (fresh_at s.slots) s.count)

abbrev pub kind_at : List Slot → ℕ → ℕ
kind_at l i = kind_number (detector_at l i)

-- "in order of adding"; places behind the kinds hold 0
unfoldable pub kinds_of : Detectors → Kinds
kinds_of s =
    let n = min s.count places in
    record { numbers = tab (kind_at s.slots) n ++ drop n (replicate places 0); count = n }
