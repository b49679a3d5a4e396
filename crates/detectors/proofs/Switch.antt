-- What a switch does over a history, for any limits and counts of at least 1: presence and motion are each one. Assumes nothing.
use mathlib.Core.Path.{◌≡◌, refl, sym, ap, subst, ◌∙◌}
use mathlib.Core.Bool.{Bool, true, false}
use mathlib.Core.Logic.{◌⊎◌, inl, inr, ⊎_elim, ◌↔◌}
use mathlib.Core.List.{List, [], ◌∷◌}
use Prim.Native.Nat.{ℕ, zero, suc, ◌+◌, ◌≤◌, ◌<◌, zero-le}
use native.Mathlib.Nat.{not-suc-le-zero, le_of_suc-le-suc}
use native.Mathlib.Numerals.{add-one}
use native.Mathlib.Omega.{arith}
use borrow.Author.Tests.{leb-true, leb-false}
use lib.Dec.{T, leb}
use lib.ListN.{length, get_or}
use lib.Ieee.{Float, nan}
use Rattle.detectors.specs.Answers.{Kind, Said, quiet, event}
use Rattle.detectors.specs.Hysteresis.{Turn, still, rose, fell, Moved, for, turned, moved, move}
use Rattle.detectors.specs.History.{after, since, LastMet, noted, events, Alternating}
use Rattle.rvcsi_core.proofs.Tested.{shown, fails, is_false}
use Rattle.std.proofs.lemmas.Float.{T_from_true}
use Rattle.detectors.proofs.Ranges.{below}

-- The switch after a history, newest first. It starts off, with streak 0.
unfoldable pub run : ℕ → ℕ → (Float → Bool) → (Float → Bool) → List Float → Moved
unfolding move
run enter exit hi lo [] = record { on = false; streak = 0; turn = still }
run enter exit hi lo (p ∷ past) = move enter exit (hi p) (lo p) (run enter exit hi lo past).on (run enter exit hi lo past).streak

-- what is said at a turn
abbrev pub spoken : Kind → Kind → (Float → Float) → (Float → Float) → Turn → Float → Said
spoken up down f g still p = quiet
spoken up down f g rose p = event up (f p)
spoken up down f g fell p = event down (g p)

-- ---- one window
module _ (lim : Bool → Float → Bool) (says : Turn → Float → Said) (says-still : (p : Float) → says still p ≡ quiet)
    (says-turned : (b : Bool) (p : Float) (n : ℕ) → after (says (turned b) p) n ≡ 0) where
  -- What a streak k says of a history whose last event is n windows back, with the switch at b: the k newest windows met the limit, all after that
  -- event; and the next older one, if it came after that event, did not
  record Kept (b : Bool) (k n : ℕ) (past : List Float) : Type 0 where
    within : k ≤ n
    met : (i : ℕ) → i < k → T (lim b (get_or past i nan))
    stops : (k ≡ n) ⊎ (T (lim b (get_or past k nan)) → ⊥)

  one_more : (b : Bool) (k : ℕ) (p : Float) (past : List Float) → T (lim b p) → ((i : ℕ) → i < k → T (lim b (get_or past i nan))) → (i : ℕ) → i < k + 1 → T (lim b (get_or (p ∷ past) i nan))
  one_more b k p past t f zero h = t
  one_more b k p past t f (suc i) h = f i (omega arith)

  older : (p : Float) (n : ℕ) → after (says still p) n ≡ n + 1
  older p n = rw (says-still p)

  kept_step : (b : Bool) (k n : ℕ) (p : Float) (past : List Float) (x y : Bool) → lim b p ≡ x → Kept b k n past
      → Kept (moved b x y k).on (moved b x y k).streak (after (says (moved b x y k).turn p) n) (p ∷ past)
  kept_step b k n p past false y e h = record { within = zero-le; met = λ i l. absurd (not-suc-le-zero l); stops = inr (fails e) }
  kept_step b k n p past true false e h = record {
    within = omega (arith, h.within, older p n);
    met = one_more b k p past (T_from_true _ e) h.met;
    stops = ⊎_elim (λ (q : k ≡ n). inl (ap (λ (z : ℕ). z + 1) q ∙ sym (older p n))) (λ (q : T (lim b (get_or past k nan)) → ⊥). inr (subst (λ (z : ℕ). T (lim b (get_or (p ∷ past) z nan)) → ⊥) (sym (add-one k)) q)) h.stops;
  }
  kept_step b k n p past true true e h = record { within = zero-le; met = λ i l. absurd (not-suc-le-zero l); stops = inl (sym (says-turned b p n)) }

  not-still : (b : Bool) → still ≡ turned b → ⊥
  not-still false e = let z : ◌≡◌ {A = ℕ} 0 1 = cc in omega arith
  not-still true e = let z : ◌≡◌ {A = ℕ} 0 1 = cc in omega arith

  -- a turn at p: both ways
  turn-met : (b : Bool) (k n c : ℕ) (p : Float) (past : List Float) (x y : Bool) → lim b p ≡ x → leb c (k + 1) ≡ y → Kept b k n past → (moved b x y k).turn ≡ turned b → LastMet (lim b) c (n + 1) (p ∷ past)
  turn-met b k n c p past false y e f h t = absurd (not-still b t)
  turn-met b k n c p past true false e f h t = absurd (not-still b t)
  turn-met b k n c p past true true e f h t =
      record { after-event = omega (arith, leb-true c (k + 1) f, h.within); met = λ i l. one_more b k p past (T_from_true _ e) h.met i (omega (arith, leb-true c (k + 1) f)) }

  met-turn : (b : Bool) (k n c : ℕ) (p : Float) (past : List Float) (x y : Bool) → lim b p ≡ x → leb c (k + 1) ≡ y → 0 < c → Kept b k n past → LastMet (lim b) c (n + 1) (p ∷ past) → (moved b x y k).turn ≡ turned b
  met-turn b k n c p past false y e f s h m = absurd (fails e (m.met 0 s))
  met-turn b k n c p past true false e f s h m =
      let l : k + 1 < c = leb-false c (k + 1) f in
      absurd (⊎_elim (λ (q : k ≡ n). omega (arith, m.after-event)) (λ (q : T (lim b (get_or past k nan)) → ⊥). q (m.met (suc k) (omega arith))) h.stops)
  met-turn b k n c p past true true e f s h m = refl

-- ---- a history
module _ (enter exit : ℕ) (hi lo : Float → Bool) where
  abbrev limit : Bool → Float → Bool
  limit b p = for b (hi p) (lo p)

  -- the streak stays below its count
  pub below_count : ((b : Bool) → 0 < for b enter exit) → (past : List Float) → (run enter exit hi lo past).streak < for (run enter exit hi lo past).on enter exit
  unfolding run move
  below_count some [] = some false
  below_count some (p ∷ past) =
      let m = run enter exit hi lo past in
      below enter exit some m.on (limit m.on p) m.streak

  -- Where no window meets both limits, and the n newest windows meet the low one: a switch that is on has counted them all
  lows-step : (b : Bool) (k n : ℕ) (x y : Bool) → (b ≡ false → x ≡ false) → (b ≡ true → x ≡ true) → (b ≡ true → n ≤ k) → (moved b x y k).on ≡ true → n + 1 ≤ (moved b x y k).streak
  lows-step false k n false y f t h e = let z : ◌≡◌ {A = ℕ} 0 1 = cc in omega arith
  lows-step true k n false y f t h e = let z : false ≡ true = t refl in let w : ◌≡◌ {A = ℕ} 0 1 = cc in omega arith
  lows-step b k n true false f t h e = omega (arith, h e)
  lows-step false k n true true f t h e = let z : true ≡ false = f refl in let w : ◌≡◌ {A = ℕ} 0 1 = cc in omega arith
  lows-step true k n true true f t h e = let z : ◌≡◌ {A = ℕ} 0 1 = cc in omega arith

  lows : ((p : Float) → T (lo p) → T (hi p) → ⊥) → (n : ℕ) (past : List Float) → n ≤ length past → ((i : ℕ) → i < n → T (lo (get_or past i nan))) → (run enter exit hi lo past).on ≡ true → n ≤ (run enter exit hi lo past).streak
  unfolding run move
  lows apart zero past l m e = zero-le
  lows apart (suc n) [] l m e = absurd (not-suc-le-zero l)
  lows apart (suc n) (p ∷ past) l m e =
      let r = run enter exit hi lo past in
      subst (λ (z : ℕ). z ≤ (run enter exit hi lo (p ∷ past)).streak) (add-one n)
      (lows-step r.on r.streak n (limit r.on p) (leb (for r.on enter exit) (r.streak + 1)) (high r.on) (low r.on) (lows apart n past (le_of_suc-le-suc l) (λ i q. m (suc i) (omega arith))) e)
    where
      high : (b : Bool) → b ≡ false → limit b p ≡ false
      high b q = rw q (is_false (hi p) (apart p (m 0 (omega arith))))

      low : (b : Bool) → b ≡ true → limit b p ≡ true
      low b q = rw q (shown (lo p) (m 0 (omega arith)))

  -- any `exit` windows in a row that meet the low limit leave it off
  pub low_run : ((b : Bool) → 0 < for b enter exit) → ((p : Float) → T (lo p) → T (hi p) → ⊥) → (past : List Float) → exit ≤ length past → ((i : ℕ) → i < exit → T (lo (get_or past i nan))) → (run enter exit hi lo past).on ≡ false
  low_run some apart past l m = go (run enter exit hi lo past).on (lows apart exit past l m) (below_count some past)
    where
      go : (b : Bool) → (b ≡ true → exit ≤ (run enter exit hi lo past).streak) → (run enter exit hi lo past).streak < for b enter exit → b ≡ false
      go false f g = refl
      go true f g = absurd (let z : exit ≤ (run enter exit hi lo past).streak = f refl in omega arith)

-- ---- its events: a detector that says what the switch's turns say
module _ (enter exit : ℕ) (hi lo : Float → Bool) (up down : Kind) (differ : up ≡ down → ⊥) (f g : Float → Float) (says : List Float → Said)
    (is : (p : Float) (past : List Float) → says (p ∷ past) ≡ spoken up down f g (run enter exit hi lo (p ∷ past)).turn p) where
  still-quiet : (p : Float) → spoken up down f g still p ≡ quiet
  still-quiet p = refl

  turned-event : (b : Bool) (p : Float) (n : ℕ) → after (spoken up down f g (turned b) p) n ≡ 0
  turned-event false p n = refl
  turned-event true p n = refl

  kept : (past : List Float) → Kept (limit enter exit hi lo) (spoken up down f g) still-quiet turned-event (run enter exit hi lo past).on (run enter exit hi lo past).streak (since says past) past
  unfolding run since move
  kept [] = record { within = zero-le; met = λ i l. absurd (not-suc-le-zero l); stops = inl refl }
  kept (p ∷ past) =
      let m = run enter exit hi lo past in
      rw (is p past)
      (kept_step (limit enter exit hi lo) (spoken up down f g) still-quiet turned-event m.on m.streak (since says past) p past (limit enter exit hi lo m.on p) (leb (for m.on enter exit) (m.streak + 1)) refl (kept past))

  -- the turns alternate
  alternate-step : (b : Bool) (k : ℕ) (p : Float) (x y : Bool) (l : List Said) → Alternating up down b l → Alternating up down (moved b x y k).on (noted (spoken up down f g (moved b x y k).turn p) l)
  alternate-step b k p false y l h = h
  alternate-step b k p true false l h = h
  alternate-step false k p true true l h = (refl, h)
  alternate-step true k p true true l h = (refl, h)

  pub alternate : (past : List Float) → Alternating up down (run enter exit hi lo past).on (events says past)
  unfolding run events move
  alternate [] = tt
  alternate (p ∷ past) =
      let m = run enter exit hi lo past in
      rw (is p past)
      (alternate-step m.on m.streak p (limit enter exit hi lo m.on p) (leb (for m.on enter exit) (m.streak + 1)) (events says past) (alternate past))

  -- an event at p tells the turn, and a turn the switch before it
  tells : (t : Turn) (x : Bool) (p : Float) → spoken up down f g t p ≡ event (for x up down) (for x (f p) (g p)) → t ≡ turned x
  tells still x p e = let z : ◌≡◌ {A = ℕ} 0 1 = cc in absurd (omega arith)
  tells rose false p e = refl
  tells rose true p e = let z : up ≡ down = cc in absurd (differ z)
  tells fell false p e = let z : up ≡ down = cc in absurd (differ z)
  tells fell true p e = refl

  told : (t : Turn) (x : Bool) (p : Float) → t ≡ turned x → spoken up down f g t p ≡ event (for x up down) (for x (f p) (g p))
  told t false p e = rw e
  told t true p e = rw e

  which : (b x y z : Bool) (k : ℕ) → (moved b x y k).turn ≡ turned z → b ≡ z
  which false x y false k e = refl
  which true x y true k e = refl
  which false false y true k e = let z : ◌≡◌ {A = ℕ} 0 1 = cc in absurd (omega arith)
  which false true false true k e = let z : ◌≡◌ {A = ℕ} 0 1 = cc in absurd (omega arith)
  which false true true true k e = let z : ◌≡◌ {A = ℕ} 0 1 = cc in absurd (omega arith)
  which true false y false k e = let z : ◌≡◌ {A = ℕ} 0 1 = cc in absurd (omega arith)
  which true true false false k e = let z : ◌≡◌ {A = ℕ} 0 1 = cc in absurd (omega arith)
  which true true true false k e = let z : ◌≡◌ {A = ℕ} 0 1 = cc in absurd (omega arith)

  -- a turn comes exactly when the windows of its count, all after the previous event, met the limit in force
  rule : ((b : Bool) → 0 < for b enter exit) → (x : Bool) (p : Float) (past : List Float)
      → ((run enter exit hi lo (p ∷ past)).turn ≡ turned x) ↔ (((run enter exit hi lo past).on ≡ x) × LastMet (limit enter exit hi lo x) (for x enter exit) (since says past + 1) (p ∷ past))
  unfolding run move
  rule some x p past =
      let m = run enter exit hi lo past in
      let t = limit enter exit hi lo m.on p in (
        λ e. (let b = which m.on t (leb (for m.on enter exit) (m.streak + 1)) x m.streak e in (
          b,
          subst (λ (z : Bool). (moved m.on t (leb (for m.on enter exit) (m.streak + 1)) m.streak).turn ≡ turned z → LastMet (limit enter exit hi lo z) (for z enter exit) (since says past + 1) (p ∷ past)) b
              (turn-met (limit enter exit hi lo) (spoken up down f g) still-quiet turned-event m.on m.streak (since says past) (for m.on enter exit) p past t (leb (for m.on enter exit) (m.streak + 1)) refl refl (kept past)) e,
        )),
        λ w. subst (λ (z : Bool). LastMet (limit enter exit hi lo z) (for z enter exit) (since says past + 1) (p ∷ past) → (moved m.on t (leb (for m.on enter exit) (m.streak + 1)) m.streak).turn ≡ turned z) w.0
            (met-turn (limit enter exit hi lo) (spoken up down f g) still-quiet turned-event m.on m.streak (since says past) (for m.on enter exit) p past t (leb (for m.on enter exit) (m.streak + 1)) refl refl (some m.on) (kept past)) w.1,
      )

  -- THE RULE for one kind of event: x false is the first kind, which leaves a switch that was off, x true the second
  pub fires : ((b : Bool) → 0 < for b enter exit) → (x : Bool) (p : Float) (past : List Float)
      → (says (p ∷ past) ≡ event (for x up down) (for x (f p) (g p))) ↔ (((run enter exit hi lo past).on ≡ x) × LastMet (limit enter exit hi lo x) (for x enter exit) (since says past + 1) (p ∷ past))
  fires some x p past = (
    λ e. (rule some x p past).0 (tells (run enter exit hi lo (p ∷ past)).turn x p (sym (is p past) ∙ e)),
    λ w. is p past ∙ told (run enter exit hi lo (p ∷ past)).turn x p ((rule some x p past).1 w),
  )

  -- and nothing else is said
  pub only : (p : Float) (past : List Float) → (says (p ∷ past) ≡ quiet) ⊎ ((says (p ∷ past) ≡ event up (f p)) ⊎ (says (p ∷ past) ≡ event down (g p)))
  only p past = go (run enter exit hi lo (p ∷ past)).turn (is p past)
    where
      go : (t : Turn) → says (p ∷ past) ≡ spoken up down f g t p → (says (p ∷ past) ≡ quiet) ⊎ ((says (p ∷ past) ≡ event up (f p)) ⊎ (says (p ∷ past) ≡ event down (g p)))
      go still e = inl e
      go rose e = inr (inl e)
      go fell e = inr (inr e)
