-- Every event of a batch is valid. Assumes nothing.
use Rattle.std.specs.Prelude.{Option, Some, None, Ok}
use mathlib.Core.Path.{◌≡◌, sym, subst}
use mathlib.Core.Bool.{true, ◌&&◌}
use mathlib.Core.List.{List, [], ◌∷◌, ◌++◌}
use Prim.Native.Nat.{ℕ, zero, suc, ◌+◌, ◌≤◌, ◌<◌}
use native.Mathlib.Omega.{arith}
use lib.Dec.{T, ltb}
use lib.Ieee.{Float, binary32, fits, of_bits, le}
use lib.ListN.{length}
use Rattle.std.proofs.lemmas.Bool.{and_parts}
use Rattle.rvcsi_core.specs.Score.{score_ok}
use Rattle.rvcsi_core.specs.Event.{event_validity_of}
use Rattle.rvcsi_core.specs.declared.window.CsiWindow.{CsiWindow}
use Rattle.rvcsi_core.specs.declared.event.CsiEvent.{CsiEvent}
use Rattle.rvcsi_core.specs.declared.ids.Ids.{Ids}
use Rattle.rvcsi_core.proofs.Valid.{event_valid}
use Rattle.detectors.specs.declared.Judgement.{Judgement}
use Rattle.detectors.specs.Answers.{said, Valid}
use Rattle.detectors.specs.Motion.{motion_accepted, motion_in}
use Rattle.detectors.proofs.Confidence.{presence_valid, motion_valid, quality_valid}
use Rattle.drift.specs.Settings.{drift_accepted}
use Rattle.drift.specs.Drift.{length_ok, drift_in}
use Rattle.drift.proofs.Confidence.{drift-valid}
use Rattle.slots.specs.Limits.{most}
use Rattle.slots.specs.declared.Detector.{Detector}
use Rattle.slots.specs.declared.Detector.TheVariants.{Presence, Motion, Quality, Drift}
use Rattle.slots.specs.declared.Slot.{Slot}
use Rattle.slots.specs.declared.Detectors.{Detectors}
use Rattle.slots.specs.Slots.{detector_in, step_of, place_of, part_of, detector_at, in_at}
use Rattle.slots.specs.Batches.{heard, event_of, none, numbered, fill}
use Rattle.slots.specs.Judging.{hear_to, Outcome, judge_of}
use Rattle.slots.proofs.Places.{its_own}
use Rattle.slots.proofs.Owed.{Held, set_in, by-reply}

-- ---- one detector

-- its thresholds are f32 values, as those of the code are
abbrev pub Single : Detector → Type 0
Single (Presence c s) = Unit
Single (Motion c s) = T (fits binary32 c.on_threshold)
Single (Quality c s) = Unit
Single (Drift c s) = Unit

abbrev pub AllSound : List Judgement → Type 0
AllSound [] = Unit
AllSound (t ∷ ts) = T (score_ok t.confidence) × AllSound ts

heard_sound : (j : Option Judgement) → Valid (said j) → AllSound (heard j)
heard_sound None v = tt
heard_sound (Some j) v = (v, tt)

both_sound : (a b : List Judgement) → AllSound a → AllSound b → AllSound (a ++ b)
both_sound [] b p q = q
both_sound (t ∷ a) b p q = (p.0, both_sound a b p.1 q)

step_sound : (d : Detector) (w : CsiWindow) (means l : List Float) → Single d → detector_in d ≡ true → Valid (said (step_of w means d l).first) × Valid (said (step_of w means d l).second)
unfolding step_of motion_in drift_in
step_sound (Presence c s) w means l f h = (presence_valid c s w.presence_score, tt)
step_sound (Motion c s) w means l f h = (motion_valid c (and_parts (motion_accepted c) (ltb s.streak c.debounce_windows) h).0 f s w.motion_energy, tt)
step_sound (Quality c s) w means l f h = quality_valid c s w.quality_score
step_sound (Drift c s) w means l f h =
    drift-valid c (and_parts (drift_accepted c) (length_ok s.baseline) (and_parts (drift_accepted c && length_ok s.baseline) (ltb s.drift_streak c.drift_windows) h).0).0 s means l

-- a step leaves the settings
pub step_single : (d : Detector) (w : CsiWindow) (means l : List Float) → Single d → Single (step_of w means d l).detector
unfolding step_of
step_single (Presence c s) w means l f = f
step_single (Motion c s) w means l f = f
step_single (Quality c s) w means l f = f
step_single (Drift c s) w means l f = f

-- ---- all of them
module _ (w : CsiWindow) (means : List Float) (slots : List Slot) (store : List Float) where
  pub said-sound : (n : ℕ) → ((i : ℕ) → i < n → Single (detector_at slots i)) → ((i : ℕ) → i < n → in_at slots i ≡ true) → AllSound (hear_to (step_of w means) slots store n).said
  unfolding hear_to
  said-sound zero f h = tt
  said-sound (suc n) f h =
      let l = part_of (place_of n) (hear_to (step_of w means) slots store n).store in
      let r = step_of w means (detector_at slots n) l in
      let v = step_sound (detector_at slots n) w means l (f n (omega arith)) (h n (omega arith)) in
      both_sound (hear_to (step_of w means) slots store n).said (heard r.first ++ heard r.second) (said-sound n (λ i b. f i (omega arith)) (λ i b. h i (omega arith)))
      (both_sound (heard r.first) (heard r.second) (heard_sound r.first v.0) (heard_sound r.second v.1))

-- ---- the batch
abbrev pub AllValid : List CsiEvent → Type 0
AllValid [] = Unit
AllValid (e ∷ l) = (event_validity_of e ≡ Ok tt) × AllValid l

pub numbered_valid : (w : CsiWindow) (n : ℕ) (ts : List Judgement) → AllSound ts → AllValid (numbered w n ts)
unfolding numbered
numbered_valid w n [] s = tt
numbered_valid w n (t ∷ ts) s = (event_valid (event_of w n t) s.0, numbered_valid w (n + 1) ts s.1)

none_valid : event_validity_of none ≡ Ok tt
unfolding score_ok le of_bits
none_valid = event_valid none tt

-- every place of the batch passes, the empty ones too
pub fill_valid : (k : ℕ) (l : List CsiEvent) → AllValid l → AllValid (fill k l)
unfolding fill
fill_valid zero l v = tt
fill_valid (suc k) [] v = (none_valid, fill_valid k [] tt)
fill_valid (suc k) (e ∷ l) v = (v.0, fill_valid k l v.1)

-- ---- a judged window

-- every detector's thresholds are f32 values
abbrev pub AllSingle : Detectors → Type 0
AllSingle s = (k : ℕ) → k < s.count → Single (detector_at s.slots k)

module _ (i : Ids) (s : Detectors) (w : CsiWindow) (means store : List Float) (h : Held s) (f : AllSingle s) where
  -- EVERY EVENT IS VALID
  pub judge-valid : AllValid (judge_of i s w means store).batch.events
  judge-valid =
      let said = (hear_to (step_of w means) s.slots store s.count).said in
      by-reply (λ (o : Outcome). AllValid o.batch.events) i s w means store
      (λ r. fill_valid most (numbered w i.event said) (numbered_valid w i.event said (said-sound w means s.slots store s.count f (set_in s h.ok).all_in)))
      (λ n. fill_valid most [] tt)

  pub judge-single : AllSingle (judge_of i s w means store).set
  judge-single =
      let room : s.count ≤ length s.slots = omega (arith, (set_in s h.ok).few, h.long) in
      by-reply (λ (o : Outcome). AllSingle o.set) i s w means store
      (λ r k b. subst Single (sym (its_own (step_of w means) s.slots store s.count k b room)) (step_single (detector_at s.slots k) w means _ (f k b)))
      (λ n. f)
