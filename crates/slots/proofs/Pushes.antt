-- A batch as the code makes it is the batch of the list of events. Assumes nothing.
use Rattle.std.specs.Prelude.{Option, Some, None}
use mathlib.Core.Path.{◌≡◌, refl, sym, ap, ◌∙◌}
use mathlib.Core.Bool.{Bool, true, false, cond}
use mathlib.Core.List.{List, [], ◌∷◌, ◌++◌, append-nil}
use Prim.Native.Nat.{ℕ, zero, suc, ◌+◌, ◌≤◌, ◌<◌, min}
use native.Mathlib.Nat.{not-suc-le-zero, le_of_suc-le-suc}
use native.Mathlib.Omega.{arith}
use borrow.Author.Tests.{lt-ltb, le-ltb, ltb-true, ltb-false}
use lib.Dec.{ltb}
use lib.ListN.{set, length, replicate, length-append}
use Rattle.rvcsi_core.specs.declared.window.CsiWindow.{CsiWindow}
use Rattle.rvcsi_core.specs.declared.event.CsiEvent.{CsiEvent}
use Rattle.slots.specs.Limits.{most}
use Rattle.slots.specs.declared.Batch.{Batch}
use Rattle.detectors.specs.declared.Judgement.{Judgement}
use Rattle.slots.specs.Batches.{heard, event_of, none, numbered, fill, batch_of, nothing, added, pushed}

-- ---- the code's push
module _ (w : CsiWindow) (n : ℕ) (b : Batch) (t : Option Judgement) where
  pub quiet : t ≡ None → b ≡ pushed w n b t
  unfolding pushed
  quiet e = rw e

  module _ (j : Judgement) (e : t ≡ Some j) where
    pub stored : b.count < most → record { events = set b.events b.count (event_of w (n + b.count) j); count = b.count + 1 } ≡ pushed w n b t
    unfolding pushed
    stored h = rw (e, lt-ltb b.count most h)

    pub full : most ≤ b.count → b ≡ pushed w n b t
    unfolding pushed
    full h = rw (e, le-ltb b.count most h)

-- ---- the list
numbered_behind : (w : CsiWindow) (n : ℕ) (l : List Judgement) (j : Judgement) → numbered w n (l ++ (j ∷ [])) ≡ numbered w n l ++ (event_of w (n + length l) j ∷ [])
unfolding numbered
numbered_behind w n [] j = ap (λ (k : ℕ). event_of w k j ∷ []) (omega arith)
numbered_behind w n (x ∷ l) j =
    ap (λ (t : List CsiEvent). event_of w n x ∷ t) (numbered_behind w (n + 1) l j ∙ ap (λ (k : ℕ). numbered w (n + 1) l ++ (event_of w k j ∷ [])) (omega arith))

pub numbered_length : (w : CsiWindow) (n : ℕ) (l : List Judgement) → length (numbered w n l) ≡ length l
unfolding numbered
numbered_length w n [] = refl
numbered_length w n (x ∷ l) = ap suc (numbered_length w (n + 1) l)

fill_more : (k : ℕ) (l : List CsiEvent) (e : CsiEvent) → length l < k → set (fill k l) (length l) e ≡ fill k (l ++ (e ∷ []))
unfolding fill
fill_more zero l e h = absurd (not-suc-le-zero h)
fill_more (suc k) [] e h = refl
fill_more (suc k) (x ∷ l) e h = ap (λ (t : List CsiEvent). x ∷ t) (fill_more k l e (le_of_suc-le-suc h))

fill_full : (k : ℕ) (l : List CsiEvent) (e : CsiEvent) → k ≤ length l → fill k l ≡ fill k (l ++ (e ∷ []))
unfolding fill
fill_full zero l e h = refl
fill_full (suc k) [] e h = absurd (not-suc-le-zero h)
fill_full (suc k) (x ∷ l) e h = ap (λ (t : List CsiEvent). x ∷ t) (fill_full k l e (le_of_suc-le-suc h))

fill_none : (k : ℕ) → replicate k none ≡ fill k []
unfolding fill
fill_none zero = refl
fill_none (suc k) = ap (λ (t : List CsiEvent). none ∷ t) (fill_none k)

pub nothing_is : nothing ≡ batch_of []
nothing_is = ap (λ (l : List CsiEvent). record { events = l; count = 0 }) (fill_none most)

-- one more event, by whether there is room
one_more : (l : List CsiEvent) (e : CsiEvent) → length l < most → record { events = set (fill most l) (length l) e; count = length l + 1 } ≡ batch_of (l ++ (e ∷ []))
one_more l e h =
    let p : length l + 1 ≡ min (length (l ++ (e ∷ []))) most = omega (arith, length-append l (e ∷ [])) in
    λ i. record { events = fill_more most l e h i; count = p i }

no_more : (l : List CsiEvent) (e : CsiEvent) → most ≤ length l → batch_of l ≡ batch_of (l ++ (e ∷ []))
no_more l e h =
    let p : min (length l) most ≡ min (length (l ++ (e ∷ []))) most = omega (arith, length-append l (e ∷ [])) in
    λ i. record { events = fill_full most l e h i; count = p i }

within : (l : List CsiEvent) (e : ℕ → CsiEvent) (t : Bool) → t ≡ ltb (length l) most
    → cond (ltb (min (length l) most) most) (record { events = set (fill most l) (min (length l) most) (e (min (length l) most)); count = min (length l) most + 1 }) (batch_of l) ≡ batch_of (l ++ (e (length l) ∷ []))
within l e true g =
    let h : length l < most = ltb-true _ _ (sym g) in
    let m : min (length l) most ≡ length l = omega arith in
    rw (m, lt-ltb (length l) most h) (one_more l (e (length l)) h)
within l e false g =
    let h : most ≤ length l = ltb-false _ _ (sym g) in
    let m : min (length l) most ≡ most = omega arith in
    rw (le-ltb (min (length l) most) most (omega arith)) (no_more l (e (length l)) h)

one : (w : CsiWindow) (n : ℕ) (ts : List Judgement) (t : Judgement) → added w n (batch_of (numbered w n ts)) t ≡ batch_of (numbered w n (ts ++ (t ∷ [])))
one w n ts t =
    within (numbered w n ts) (λ k. event_of w (n + k) t) _ refl
    ∙ ap batch_of (ap (λ (k : ℕ). numbered w n ts ++ (event_of w (n + k) t ∷ [])) (numbered_length w n ts) ∙ sym (numbered_behind w n ts t))

-- WHAT IS SAID JOINS THE LIST
pub pushed_is : (w : CsiWindow) (n : ℕ) (ts : List Judgement) (t : Option Judgement) → pushed w n (batch_of (numbered w n ts)) t ≡ batch_of (numbered w n (ts ++ heard t))
unfolding pushed
pushed_is w n ts None = ap (λ (l : List Judgement). batch_of (numbered w n l)) (sym (append-nil ts))
pushed_is w n ts (Some j) = one w n ts j
