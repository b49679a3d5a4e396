-- The loop over the slots, and the whole of `judge`. Assumes nothing.
use Rattle.std.specs.Prelude.{Ok, Err}
use mathlib.Core.Path.{◌≡◌, refl, sym, ap, ◌∙◌}
use mathlib.Core.Bool.{Bool, true, false, ◌&&◌}
use mathlib.Core.List.{List, ◌++◌, append_assoc}
use Prim.Native.Nat.{ℕ, zero, suc, ◌+◌, ◌-◌, ◌≤◌, ◌<◌, min}
use native.Mathlib.Numerals.{add-one}
use native.Mathlib.Omega.{arith}
use borrow.Author.Tests.{le-leb, lt-leb, leb-true}
use borrow.Rule.Slice.PartMut.{put_mid, mid_of, Post-is}
use lib.Dec.{leb, eqb}
use lib.ListN.{set, length, take, drop, replicate}
use lib.Ieee.{Float}
use Rattle.lists.specs.All.{all_to}
use Rattle.lists.specs.Tab.{tab}
use Rattle.std.proofs.lemmas.Bool.{and_parts}
use Rattle.lists.proofs.All.{all_each}
use Rattle.rvcsi_core.specs.declared.window.CsiWindow.{CsiWindow}
use Rattle.rvcsi_core.specs.declared.ids.Ids.{Ids}
use Rattle.slots.specs.Limits.{places, most, part, room_of, last}
use Rattle.slots.specs.declared.Detector.{Detector}
use Rattle.slots.specs.declared.Detectors.{Detectors}
use Rattle.slots.specs.declared.Slot.{Slot}
use Rattle.slots.specs.declared.Batch.{Batch}
use Rattle.detectors.specs.declared.Judgement.{Judgement}
use Rattle.detectors.specs.declared.Moved.{Moved}
use Rattle.slots.specs.declared.Round as Code
use Rattle.slots.specs.declared.Refusal.{Refusal}
use Rattle.slots.specs.declared.Refusal.TheVariants.{StoreShort, OutOfRange, TooLong, NoNumber}
use Rattle.slots.specs.Slots.{Step, stepped, step_of, place_of, part_of, with_part, detector_at, in_at, fresh_at, set_ok, kind_at, kinds_of, Ready}
use Rattle.slots.specs.Batches.{heard, numbered, batch_of, nothing, pushed}
use Rattle.slots.specs.Judging.{Stepping, Heard, heard_with, hear_to, unless, Reply, paper, verdict_of, judge_of, Round, round, round_with, one_of, judge_to, AllReady}
use Rattle.slots.proofs.Pushes.{nothing_is, pushed_is}

-- ---- a part lent and back
module _ (at e : ℕ) (is-end : e ≡ at + part) (xs : List Float) where
  part-is : mid_of at (e - at) xs ≡ part_of at xs
  part-is = let p : e - at ≡ part = omega arith in ap (λ (k : ℕ). take k (drop at xs)) p

  back_is : (ys : List Float) → put_mid at (e - at) xs ys ≡ with_part at xs ys
  back_is ys = ap (λ (z : List Float). take at xs ++ (ys ++ z)) (Post-is at e xs (omega arith) ∙ ap (λ (k : ℕ). drop k xs) is-end)

-- one slot
pub one : (step : Stepping) (w : CsiWindow) (first : ℕ) (d : Detector) (i : ℕ) (g : Code.Round) (xs ys : List Float) (s : Moved Detector) (p q : Batch) (at e : ℕ) → at ≡ place_of i → e ≡ at + part
    → stepped s ys ≡ step d (mid_of at (e - at) xs) → p ≡ pushed w first g.batch s.first → q ≡ pushed w first p s.second
    → record { slots = set g.slots i (record { detector = s.state }); batch = q; store = put_mid at (e - at) xs ys } ≡ one_of step w first d i (round g xs)
one step w first d i g xs ys s p q at e a b c f h =
    let st : put_mid at (e - at) xs ys ≡ with_part (place_of i) xs ys = back_is at e b xs ys ∙ ap (λ (k : ℕ). with_part k xs ys) a in
    let bt : q ≡ pushed w first (pushed w first g.batch s.first) s.second = rw (h, f) in
    let sp : stepped s ys ≡ step d (part_of (place_of i) xs) = c ∙ ap (step d) (part-is at e b xs ∙ ap (λ (k : ℕ). part_of k xs) a) in
    let first-half : record { slots = set g.slots i (record { detector = s.state }); batch = q; store = put_mid at (e - at) xs ys } ≡ round_with w first (stepped s ys) i (round g xs)
    = λ t. record { slots = set g.slots i (record { detector = s.state }); batch = bt t; store = st t } in
    first-half ∙ ap (λ (z : Step). round_with w first z i (round g xs)) sp

-- ---- the loop
pub record Turned (step : Stepping) (w : CsiWindow) (first : ℕ) (slots : List Slot) (store₀ : List Float) (i : ℕ) (g : Code.Round) (store : List Float) : Type 0 where
  pub long : length store ≡ length store₀
  pub is : round g store ≡ judge_to step w first slots store₀ i

module _ {step : Stepping} {w : CsiWindow} {first : ℕ} {slots : List Slot} {store₀ : List Float} where
  pub turned_none : (b : Batch) → b ≡ nothing → Turned step w first slots store₀ 0 (record { slots = slots; batch = b }) store₀
  unfolding judge_to
  turned_none b e = record { long = refl; is = λ t. record { slots = slots; batch = e t; store = store₀ } }

  pub turned_more : {i : ℕ} {g g' : Code.Round} {store store' : List Float} {d : Detector} → Turned step w first slots store₀ i g store → d ≡ detector_at slots i → length store' ≡ length store
      → round g' store' ≡ one_of step w first d i (round g store) → Turned step w first slots store₀ (i + 1) g' store'
  unfolding judge_to
  turned_more {i} {g} {g'} {store} {store'} {d} t e l h =
      record { long = l ∙ t.long; is = h ∙ rw (add-one, e) (ap (one_of step w first (detector_at slots i) i) t.is) }

  pub turned-done : {i n : ℕ} {g : Code.Round} {store : List Float} → Turned step w first slots store₀ i g store → i ≡ n → round g store ≡ judge_to step w first slots store₀ n
  turned-done t e = rw e at t.is

pub ready_at : {slots : List Slot} {n first k m : ℕ} {d : Detector} (i : ℕ) → AllReady slots n first k m → i < n → d ≡ detector_at slots i → Ready d k part
ready_at {slots} {n} {first} {k} {m} {d} i r h e = record { fine = rw e (all_each (in_at slots) n r.fine i h); few = r.few; room = omega arith }

-- ---- the batch of the code is that of the rule
module _ (step : Stepping) (w : CsiWindow) (first : ℕ) (slots : List Slot) (store : List Float) where
  abbrev as-round : Heard → Round
  as-round h = record { slots = h.slots; batch = batch_of (numbered w first h.said); store = h.store }

  with-step : (s : Step) (i : ℕ) (h : Heard) → round_with w first s i (as-round h) ≡ as-round (heard_with s i h)
  with-step s i h =
      let b : pushed w first (pushed w first (batch_of (numbered w first h.said)) s.first) s.second ≡ batch_of (numbered w first (h.said ++ (heard s.first ++ heard s.second)))
      = ap (λ (x : Batch). pushed w first x s.second) (pushed_is w first h.said s.first) ∙ pushed_is w first (h.said ++ heard s.first) s.second
      ∙ ap (λ (l : List Judgement). batch_of (numbered w first l)) (append_assoc h.said (heard s.first) (heard s.second)) in
      λ t. record { slots = set h.slots i (record { detector = s.detector }); batch = b t; store = with_part (place_of i) h.store s.baseline }

  pub hears : (n : ℕ) → judge_to step w first slots store n ≡ as-round (hear_to step slots store n)
  unfolding judge_to hear_to numbered
  hears zero = λ t. record { slots = slots; batch = nothing_is t; store = store }
  hears (suc i) =
      let h = hear_to step slots store i in
      ap (one_of step w first (detector_at slots i) i) (hears i) ∙ with-step (step (detector_at slots i) (part_of (place_of i) h.store)) i h

-- ---- the verdict
module _ (ids : Ids) (s : Detectors) (n m : ℕ) where
  pub short : m < room_of → 13 ≡ verdict_of ids s n m
  unfolding verdict_of
  short h = rw (lt-leb room_of m h)

  pub bad : room_of ≤ m → set_ok s ≡ false → 14 ≡ verdict_of ids s n m
  unfolding verdict_of
  bad h e = rw (le-leb room_of m h, e)

  pub long : room_of ≤ m → set_ok s ≡ true → part < n → 5 ≡ verdict_of ids s n m
  unfolding verdict_of
  long h e g = rw (le-leb room_of m h, e, lt-leb n part g)

  pub none_left : room_of ≤ m → set_ok s ≡ true → n ≤ part → last < ids.event → 8 ≡ verdict_of ids s n m
  unfolding verdict_of
  none_left h e g f = rw (le-leb room_of m h, e, le-leb n part g, lt-leb ids.event last f)

  pub fine : room_of ≤ m → set_ok s ≡ true → n ≤ part → ids.event ≤ last → 0 ≡ verdict_of ids s n m
  unfolding verdict_of
  fine h e g f = rw (le-leb room_of m h, e, le-leb n part g, le-leb ids.event last f)

unless_fine : (b : Bool) (k rest : ℕ) → 0 < k → unless b k rest ≡ 0 → (b ≡ true) × (rest ≡ 0)
unless_fine true k rest p e = (refl, e)
unless_fine false k rest p e = absurd (omega arith)

pub set_ready : (s : Detectors) → set_ok s ≡ true → (s.count ≤ places) × (all_to (in_at s.slots) s.count ≡ true)
unfolding set_ok
set_ready s e =
    let a = and_parts (leb s.count places) (all_to (in_at s.slots) s.count && all_to (fresh_at s.slots) s.count) e in
    (leb-true _ _ a.0, (and_parts (all_to (in_at s.slots) s.count) (all_to (fresh_at s.slots) s.count) a.1).0)

pub all_ready : (ids : Ids) (s : Detectors) (n m : ℕ) (v : Reply) → paper v ≡ verdict_of ids s n m → v ≡ Ok tt → AllReady s.slots s.count ids.event n m
unfolding verdict_of
all_ready ids s n m v e f =
    let e1 = unless_fine (leb room_of m) 13 _ (omega arith) (sym e ∙ ap paper f) in
    let e2 = unless_fine (set_ok s) 14 _ (omega arith) e1.1 in
    let e3 = unless_fine (leb n part) 5 _ (omega arith) e2.1 in
    let e4 = unless_fine (leb ids.event last) 8 0 (omega arith) e3.1 in
    let r = set_ready s e2.0 in
    record { count = r.0; fine = r.1; numbers = leb-true _ _ e4.0; few = leb-true _ _ e3.0; room = leb-true _ _ e1.0 }

-- a refusal has a number above 0
refusal_some : (why : Refusal) → eqb (paper (Err why)) 0 ≡ false
refusal_some StoreShort = refl
refusal_some OutOfRange = refl
refusal_some TooLong = refl
refusal_some NoNumber = refl

-- ---- the whole
module _ (ids : Ids) (s : Detectors) (w : CsiWindow) (means store : List Float) (v : Reply) (is-v : paper v ≡ verdict_of ids s (length means) (length store)) where
  pub refused : (why : Refusal) (b : Batch) → v ≡ Err why → b ≡ nothing → record { number = paper (Err why); ids = ids; set = s; batch = b; store = store } ≡ judge_of ids s w means store
  unfolding judge_of
  refused why b e h = rw (sym is-v ∙ ap paper e, refusal_some why) (λ t. record { number = paper (Err why); ids = ids; set = s; batch = (h ∙ nothing_is) t; store = store })

  pub judged : v ≡ Ok tt → (g : Code.Round) (l : List Float) → round g l ≡ judge_to (step_of w means) w ids.event s.slots store s.count
      → record { number = 0; ids = record { window = ids.window; event = ids.event + g.batch.count }; set = record { slots = g.slots; count = s.count }; batch = g.batch; store = l } ≡ judge_of ids s w means store
  unfolding judge_of
  judged e g l h = rw (sym is-v ∙ ap paper e)
      (ap (λ (r : Round). record { number = 0; ids = record { window = ids.window; event = ids.event + r.batch.count }; set = record { slots = r.slots; count = s.count }; batch = r.batch; store = r.store })
      (h ∙ hears (step_of w means) w ids.event s.slots store s.count))

pub few_events : (step : Stepping) (w : CsiWindow) (first : ℕ) (slots : List Slot) (store l : List Float) (n : ℕ) (g : Code.Round) → round g l ≡ judge_to step w first slots store n → g.batch.count ≤ most
few_events step w first slots store l n g h =
    let e : g.batch.count ≡ min (length (numbered w first (hear_to step slots store n).said)) most = ap (λ (r : Round). r.batch.count) (h ∙ hears step w first slots store n) in
    omega arith

-- the kinds as the code writes them
pub kinds_are : (s : Detectors) (n : ℕ) (l : List ℕ) → n ≡ min s.count places → l ≡ tab (kind_at s.slots) n ++ drop n (replicate places 0) → record { numbers = l; count = n } ≡ kinds_of s
unfolding kinds_of
kinds_are s n l e h = rw (h, e)
