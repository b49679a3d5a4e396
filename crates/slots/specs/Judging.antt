-- A window judged by the whole set.
use Rattle.std.specs.Prelude.{◌≡◌, Bool, true, false, cond, List, [], ◌++◌, ℕ, zero, suc, ◌+◌, ◌≤◌, leb, eqb, set, length, Float, Result, Ok, Err}
use Rattle.lists.specs.All.{all_to}
use Rattle.rvcsi_core.specs.declared.window.CsiWindow.{CsiWindow}
use Rattle.rvcsi_core.specs.declared.ids.Ids.{Ids}
use Rattle.slots.specs.Limits.{places, part, room_of, last}
use Rattle.detectors.specs.declared.Judgement.{Judgement}
use Rattle.slots.specs.declared.Detector.{Detector}
use Rattle.slots.specs.declared.Detectors.{Detectors}
use Rattle.slots.specs.declared.Slot.{Slot}
use Rattle.slots.specs.declared.Batch.{Batch}
use Rattle.slots.specs.declared.Round as Code
use Rattle.slots.specs.declared.Refusal.{Refusal}
use Rattle.slots.specs.declared.Refusal.TheVariants.{StoreShort, OutOfRange, TooLong, NoNumber}
use Rattle.slots.specs.declared.Judged.{Judged}
use Rattle.slots.specs.Slots.{Step, step_of, place_of, part_of, with_part, detector_at, in_at, set_ok}
use Rattle.slots.specs.Batches.{heard, numbered, batch_of, nothing, pushed}

-- ---- the rule: slot after slot

-- what a window has changed so far: the slots, what was said in order, the baselines' store
pub record Heard : Type 0 where
  pub slots : List Slot
  pub said : List Judgement
  pub store : List Float

-- slot i after its detector's step, on the part of the store that is its own
abbrev pub heard_with : Step → ℕ → Heard → Heard
heard_with s i h =
    record {
      slots = set h.slots i (record { detector = s.detector });
      said = h.said ++ (heard s.first ++ heard s.second);
      store = with_part (place_of i) h.store s.baseline;
    }

abbrev pub Stepping : Type 0
Stepping = Detector → List Float → Step

-- the first n slots, "in order of adding", each by a step
unfoldable pub hear_to : Stepping → List Slot → List Float → ℕ → Heard
hear_to step slots store zero = record { slots = slots; said = []; store = store }
hear_to step slots store (suc i) =
    let h = hear_to step slots store i in
    heard_with (step (detector_at slots i) (part_of (place_of i) h.store)) i h

-- ---- the reply

-- reply 0, or a refusal
abbrev pub Reply : Type 0
Reply = Result (Unit {0}) Refusal

-- 01's number of a reply
abbrev pub paper : Reply → ℕ
paper (Ok u) = 0
paper (Err StoreShort) = 13
paper (Err OutOfRange) = 14
paper (Err TooLong) = 5
paper (Err NoNumber) = 8

abbrev pub unless : Bool → ℕ → ℕ → ℕ
unless true n rest = rest
unless false n rest = n

-- 13 "lent store short: .. 256 baseline", 14 "state out of range", 5 "a count above 256", 8 "the next event number is above 2^64-7"
unfoldable pub verdict_of : Ids → Detectors → ℕ → ℕ → ℕ
verdict_of i s n room =
    unless (leb room_of room) 13 (unless (set_ok s) 14 (unless (leb n part) 5 (unless (leb i.event last) 8 0)))

-- the reply's number, and all that is left by it
pub record Outcome : Type 0 where
  pub number : ℕ
  pub ids : Ids
  pub set : Detectors
  pub batch : Batch
  pub store : List Float

abbrev pub outcome : Judged → List Float → Outcome
outcome r l = record { number = paper r.reply; ids = r.ids; set = r.set; batch = r.batch; store = l }

-- a refusal leaves everything
abbrev pub refused_with : ℕ → Ids → Detectors → List Float → Outcome
refused_with n i s store = record { number = n; ids = i; set = s; batch = batch_of []; store = store }

-- the events have the numbers from the counter on; "the event counter [rises] by the events returned"
abbrev pub done : Ids → ℕ → CsiWindow → Heard → Outcome
done i count w h =
    let b = batch_of (numbered w i.event h.said) in
    record {
      number = 0;
      ids = record { window = i.window; event = i.event + b.count };
      set = record { slots = h.slots; count = count };
      batch = b;
      store = h.store;
    }

-- reply 0 where the verdict is 0
unfoldable pub judge_of : Ids → Detectors → CsiWindow → List Float → List Float → Outcome
judge_of i s w means store =
    let v = verdict_of i s (length means) (length store) in
    cond (eqb v 0) (done i s.count w (hear_to (step_of w means) s.slots store s.count)) (refused_with v i s store)

-- ---- as the code makes it: with the batch in place of what was said
pub record Round : Type 0 where
  pub slots : List Slot
  pub batch : Batch
  pub store : List Float

abbrev pub round : Code.Round → List Float → Round
round r l = record { slots = r.slots; batch = r.batch; store = l }

abbrev pub round_with : CsiWindow → ℕ → Step → ℕ → Round → Round
round_with w first s i r =
    record {
      slots = set r.slots i (record { detector = s.detector });
      batch = pushed w first (pushed w first r.batch s.first) s.second;
      store = with_part (place_of i) r.store s.baseline;
    }

abbrev pub one_of : Stepping → CsiWindow → ℕ → Detector → ℕ → Round → Round
one_of step w first d i r = round_with w first (step d (part_of (place_of i) r.store)) i r

unfoldable pub judge_to : Stepping → CsiWindow → ℕ → List Slot → List Float → ℕ → Round
judge_to step w first slots store zero = record { slots = slots; batch = nothing; store = store }
judge_to step w first slots store (suc i) =
    one_of step w first (detector_at slots i) i (judge_to step w first slots store i)

-- what the whole needs: a list of k, a store of m
pub record AllReady (slots : List Slot) (n first k m : ℕ) : Type 0 where
  pub count : n ≤ places
  pub fine : all_to (in_at slots) n ≡ true
  pub numbers : first ≤ last
  pub few : k ≤ part
  pub room : room_of ≤ m
