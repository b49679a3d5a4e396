-- Reply 0 is owed: a fresh set is in range, adding and judging leave it in range, and a set in range is judged. Assumes nothing.
use Rattle.std.specs.Prelude.{Ok}
use mathlib.Core.Path.{◌≡◌, refl, sym, ap, subst, ◌∙◌}
use mathlib.Core.Bool.{Bool, true, false, ◌&&◌, cond}
use mathlib.Core.List.{List}
use Prim.Native.Nat.{ℕ, zero, suc, ◌+◌, ◌≤◌, ◌<◌}
use native.Mathlib.Omega.{arith}
use borrow.Author.Tests.{le-leb, leb-true, ltb-true}
use lib.Dec.{T, leb, ltb, eqb, eqb→eq}
use lib.ListN.{length, set, length-set, length-append, length-take, length-drop}
use lib.Seq.{get_or-set_same, get_or-set_other}
use lib.Ieee.{Float}
use Rattle.lists.specs.All.{all_to}
use Rattle.lists.proofs.All.{all_each}
use Rattle.std.proofs.lemmas.Bool.{and_parts}
use Rattle.rvcsi_core.specs.declared.window.CsiWindow.{CsiWindow}
use Rattle.rvcsi_core.specs.declared.ids.Ids.{Ids}
use Rattle.detectors.proofs.Ranges.{presence-stays, presence_begins, motion-stays, motion_begins, quality-stays, quality_begins}
use Rattle.drift.proofs.Ranges.{drift_stays, drift_begins, move_length}
use Rattle.slots.specs.Limits.{places, part, room_of, last}
use Rattle.slots.specs.declared.Detector.{Detector}
use Rattle.slots.specs.declared.Detector.TheVariants.{Presence, Motion, Quality, Drift}
use Rattle.slots.specs.declared.DetectorConfig.{DetectorConfig}
use Rattle.slots.specs.declared.DetectorConfig.TheVariants as given
use Rattle.slots.specs.declared.Detectors.{Detectors}
use Rattle.slots.specs.declared.Slot.{Slot}
use Rattle.slots.specs.Slots.{detector_in, kind_number, step_of, place_of, part_of, with_part, detector_at, in_at, other_at, fresh_at, set_ok, blank}
use Rattle.slots.specs.Adding.{no_detectors, config_accepted, made_of, Adding, unless, left, put_of, add_of}
use Rattle.slots.specs.Judging.{hear_to, verdict_of, Outcome, done, refused_with, judge_of, AllReady}
use Rattle.slots.proofs.Places.{as_many, its_own}
use Rattle.slots.proofs.Taken.{all_true}
use Rattle.slots.proofs.Rounds.{fine, all_ready}

-- ---- a set as a record of its two lists of tests
pub record SetIn (slots : List Slot) (n : ℕ) : Type 0 where
  pub few : n ≤ places
  pub all_in : (i : ℕ) → i < n → in_at slots i ≡ true
  pub apart : (i : ℕ) → i < n → (j : ℕ) → j < i → other_at slots (detector_at slots i) j ≡ true

pub set_in : (s : Detectors) → set_ok s ≡ true → SetIn s.slots s.count
unfolding set_ok
set_in s h =
    let a = and_parts (leb s.count places) (all_to (in_at s.slots) s.count && all_to (fresh_at s.slots) s.count) h in
    let b = and_parts (all_to (in_at s.slots) s.count) (all_to (fresh_at s.slots) s.count) a.1 in
    record {
      few = leb-true _ _ a.0;
      all_in = all_each (in_at s.slots) s.count b.0;
      apart = λ i l. all_each (other_at s.slots (detector_at s.slots i)) i (all_each (fresh_at s.slots) s.count b.1 i l);
    }

pub in_set : (s : Detectors) → SetIn s.slots s.count → set_ok s ≡ true
unfolding set_ok
in_set s g =
    rw (
      le-leb s.count places g.few,
      all_true (in_at s.slots) s.count g.all_in,
      all_true (fresh_at s.slots) s.count (λ i l. all_true (other_at s.slots (detector_at s.slots i)) i (g.apart i l)),
    )

-- ---- fresh
pub none_in : set_ok no_detectors ≡ true
unfolding no_detectors
none_in = in_set no_detectors (record { few = lib.Dec.lit≤ tt; all_in = λ i l. absurd (omega arith); apart = λ i l. absurd (omega arith) })

-- ---- adding
made_in : (c : DetectorConfig) → config_accepted c ≡ true → detector_in (made_of c) ≡ true
made_in (given.Presence c) h = presence_begins c h
made_in (given.Motion c) h = motion_begins c h
made_in (given.Quality c) h = quality_begins c h
made_in (given.Drift c) h = drift_begins c h

module _ (slots : List Slot) (n : ℕ) (d : Detector) (long : n < length slots) where
  abbrev more : List Slot
  more = set slots n (record { detector = d })

  at-end : detector_at more n ≡ d
  at-end = ap (λ (x : Slot). x.detector) (get_or-set_same slots n (record { detector = d }) blank long)

  before : (i : ℕ) → i < n → detector_at more i ≡ detector_at slots i
  before i b = ap (λ (x : Slot). x.detector) (get_or-set_other slots n i (record { detector = d }) blank (λ e. absurd (omega arith)))

  -- what holds of each below, and of the new one, holds of each
  each-or-new : (P : ℕ → Type 0) → ((i : ℕ) → i < n → P i) → P n → (i : ℕ) → i < n + 1 → P i
  each-or-new P p q i b = mathlib.Core.Logic.⊎_elim (λ (e : i ≡ n). subst P (sym e) q) (λ (l : i < n). p i l) (native.Mathlib.Nat.eq-or-lt_of_le {n = i} {m = n} (omega arith))

  pub added-in : SetIn slots n → n < places → detector_in d ≡ true → all_to (other_at slots d) n ≡ true → SetIn more (n + 1)
  added-in g room ok new =
      record {
        few = omega arith;
        all_in = each-or-new (λ i. in_at more i ≡ true) (λ i b. rw (before i b) (g.all_in i b)) (rw at-end ok);
        apart =
            each-or-new (λ i. (j : ℕ) → j < i → other_at more (detector_at more i) j ≡ true)
            (λ i b j l. rw (before i b, before j (omega arith)) (g.apart i b j l))
            (λ j l. rw (at-end, before j l) (all_each (other_at slots d) n new j l));
      }

-- a property of the set after `unless`, by which way it went
pub by_test : (P : Detectors → Type 0) (b : Bool) (v rest : Adding) → P v.set → (b ≡ true → P rest.set) → P (unless b v rest).set
by_test P true v rest p q = q refl
by_test P false v rest p q = p

-- a set in range, with its four places
pub record Held (s : Detectors) : Type 0 where
  pub ok : set_ok s ≡ true
  pub long : length s.slots ≡ places

put_held : (s : Detectors) (d : Detector) → Held s → detector_in d ≡ true → Held (put_of s d).set
unfolding put_of
put_held s d h ok =
    by_test Held (all_to (other_at s.slots d) s.count) _ _ h
    (λ new. by_test Held (ltb s.count places) (left 15 s) _ h
    (λ room.
    let r : s.count < places = ltb-true _ _ room in
    record {
      ok = in_set _ (added-in s.slots s.count d (omega (arith, h.long)) (set_in s h.ok) r ok new);
      long = length-set s.slots s.count (record { detector = d }) ∙ h.long;
    }))

pub add_held : (s : Detectors) (c : DetectorConfig) → Held s → Held (add_of s c).set
unfolding add_of
add_held s c h =
    by_test Held (set_ok s) _ _ h (λ e. by_test Held (config_accepted c) (left 1 s) _ h (λ ok. put_held s (made_of c) h (made_in c ok)))

pub none_held : Held no_detectors
unfolding no_detectors
none_held = record { ok = none_in; long = refl }

-- ---- judging
step_stays : (d : Detector) (w : CsiWindow) (means l : List Float) → length means ≤ part → detector_in d ≡ true → detector_in (step_of w means d l).detector ≡ true
unfolding step_of
step_stays (Presence c s) w means l few h = presence-stays c s h w.presence_score
step_stays (Motion c s) w means l few h = motion-stays c s h w.motion_energy
step_stays (Quality c s) w means l few h = quality-stays c s h w.quality_score
step_stays (Drift c s) w means l few h = drift_stays c s means l few h

step_kind : (d : Detector) (w : CsiWindow) (means l : List Float) → kind_number (step_of w means d l).detector ≡ kind_number d
unfolding step_of
step_kind (Presence c s) w means l = refl
step_kind (Motion c s) w means l = refl
step_kind (Quality c s) w means l = refl
step_kind (Drift c s) w means l = refl

module _ (w : CsiWindow) (means : List Float) (slots : List Slot) (store : List Float) (n : ℕ) (few : length means ≤ part) (room : n ≤ length slots) where
  abbrev after : List Slot
  after = (hear_to (step_of w means) slots store n).slots

  in-stays : (i : ℕ) → i < n → in_at slots i ≡ true → in_at after i ≡ true
  in-stays i b h = rw (its_own (step_of w means) slots store n i b room) (step_stays (detector_at slots i) w means _ few h)

  kind-stays : (i : ℕ) → i < n → kind_number (detector_at after i) ≡ kind_number (detector_at slots i)
  kind-stays i b = ap kind_number (its_own (step_of w means) slots store n i b room) ∙ step_kind (detector_at slots i) w means _

  pub heard-in : SetIn slots n → SetIn after n
  heard-in g =
      record {
        few = g.few;
        all_in = λ i b. in-stays i b (g.all_in i b);
        apart = λ i b j l. rw (kind-stays j (omega arith), kind-stays i b) (g.apart i b j l);
      }

pub heard_held : (s : Detectors) (w : CsiWindow) (means store : List Float) → Held s → length means ≤ part
    → Held (record { slots = (hear_to (step_of w means) s.slots store s.count).slots; count = s.count })
heard_held s w means store h few =
    let g = set_in s h.ok in
    record {
      ok = in_set _ (heard-in w means s.slots store s.count few (omega (arith, g.few, h.long)) g);
      long = as_many (step_of w means) s.slots store s.count ∙ h.long;
    }

-- the store keeps its length
step_length : (d : Detector) (w : CsiWindow) (means l : List Float) → length means ≤ length l → length (step_of w means d l).baseline ≡ length l
unfolding step_of
step_length (Presence c s) w means l few = refl
step_length (Motion c s) w means l few = refl
step_length (Quality c s) w means l few = refl
step_length (Drift c s) w means l few = move_length c s means l few

put_length : (at : ℕ) (store l : List Float) → at + part ≤ length store → length l ≡ part → length (with_part at store l) ≡ length store
put_length at store l room e = simp (length-append, length-take, length-drop) (omega arith)

part_length : (at : ℕ) (store : List Float) → at + part ≤ length store → length (part_of at store) ≡ part
part_length at store room = simp (length-take, length-drop) (omega arith)

pub store_stays : (w : CsiWindow) (means : List Float) (slots : List Slot) (store : List Float) → length means ≤ part → ((i : ℕ) → place_of i + part ≤ length store) → (n : ℕ)
    → length (hear_to (step_of w means) slots store n).store ≡ length store
unfolding hear_to
store_stays w means slots store few room zero = refl
store_stays w means slots store few room (suc n) =
    let h = hear_to (step_of w means) slots store n in
    let k : length h.store ≡ length store = store_stays w means slots store few room n in
    let r : place_of n + part ≤ length h.store = omega (arith, k, room n) in
    let p : length (part_of (place_of n) h.store) ≡ part = part_length (place_of n) h.store r in
    let s = step_of w means (detector_at slots n) (part_of (place_of n) h.store) in
    put_length (place_of n) h.store s.baseline r (step_length (detector_at slots n) w means (part_of (place_of n) h.store) (omega arith) ∙ p) ∙ k

-- a window with a list of at most 256 is judged, while there are numbers
pub owed : (i : Ids) (s : Detectors) (w : CsiWindow) (means store : List Float) → room_of ≤ length store → set_ok s ≡ true → length means ≤ part → i.event ≤ last
    → judge_of i s w means store ≡ done i s.count w (hear_to (step_of w means) s.slots store s.count)
unfolding judge_of
owed i s w means store room h few n = rw (← fine i s (length means) (length store) room h few n)

-- what holds of a window judged, and of one refused, holds of the reply
module _ (P : Outcome → Type 0) (i : Ids) (s : Detectors) (w : CsiWindow) (means store : List Float) where
  pub by-reply : (AllReady s.slots s.count i.event (length means) (length store) → P (done i s.count w (hear_to (step_of w means) s.slots store s.count)))
      → ((n : ℕ) → P (refused_with n i s store)) → P (judge_of i s w means store)
  unfolding judge_of
  by-reply p q = go (eqb v 0) refl
    where
      v : ℕ
      v = verdict_of i s (length means) (length store)

      go : (b : Bool) → b ≡ eqb v 0 → P (cond b (done i s.count w (hear_to (step_of w means) s.slots store s.count)) (refused_with v i s store))
      go true e = p (all_ready i s (length means) (length store) (Ok tt) (sym (eqb→eq v 0 (subst T e tt))) refl)
      go false e = q v

-- whatever the reply, a set in range stays in range, and the store keeps its length
pub judge_held : (i : Ids) (s : Detectors) (w : CsiWindow) (means store : List Float) → Held s → Held (judge_of i s w means store).set
judge_held i s w means store h =
    by-reply (λ (o : Outcome). Held o.set) i s w means store (λ r. heard_held s w means store h r.few) (λ n. h)

pub judge_length : (i : Ids) (s : Detectors) (w : CsiWindow) (means store : List Float) → length (judge_of i s w means store).store ≡ length store
judge_length i s w means store =
    by-reply (λ (o : Outcome). length o.store ≡ length store) i s w means store (λ r. store_stays w means s.slots store r.few (λ i. r.room) s.count) (λ n. refl)

-- "the event counter [rises] by the events returned", the window counter stays
pub judge_counts : (i : Ids) (s : Detectors) (w : CsiWindow) (means store : List Float)
    → ((judge_of i s w means store).ids.window ≡ i.window) × ((judge_of i s w means store).ids.event ≡ i.event + (judge_of i s w means store).batch.count)
judge_counts i s w means store =
    by-reply (λ (o : Outcome). (o.ids.window ≡ i.window) × (o.ids.event ≡ i.event + o.batch.count)) i s w means store (λ r. (refl, refl)) (λ n. (refl, omega arith))
