-- No judgement carries a NaN, and every confidence is from 0 to 1, whatever the list, the store and the state. Assumes nothing.
use Rattle.std.specs.Prelude.{Option, None}
use mathlib.Core.Path.{◌≡◌, refl, sym, ap, subst, ◌∙◌}
use mathlib.Core.Bool.{Bool, true, false, not, ◌&&◌, cond}
use mathlib.Core.List.{List, [], ◌∷◌}
use Prim.Native.Nat.{ℕ, zero, suc, ◌+◌, ◌*◌, ◌<◌, ◌^◌}
use native.Mathlib.Nat.{mul-pos, zero-mul, mul-zero}
use native.Mathlib.Omega.{arith}
use borrow.Author.Tests.{ne_eqb, leb-true}
use lib.IntN.{ℤ, pos}
use lib.Dec.{T, leb, ltb, lt→ltb}
use lib.ListN.{length}
use lib.Ieee.{Float, nan, inf, fin, Format, binary32, of_bits, le, lt, eq, is_nan, mul, div, round, units, odd, up, down, prec, low, unlike}
use lib.Ieee.Fits.{round_is, up_pos, down_pos}
use lib.Ieee.Order.{round_mono}
use lib.Ieee.Positive.{mul_mono}
use lib.Ieee.Scale.{finite, overflow}
use Rattle.floats.specs.Clamp.{zero32}
use Rattle.floats.proofs.Order as order
use Rattle.floats.proofs.Exact.{some, div_number}
use Rattle.floats.proofs.Numbers.{not-false}
use Rattle.std.proofs.lemmas.Bool.{and_parts, cond_both}
use Rattle.rvcsi_core.specs.Score.{score_ok}
use Rattle.rvcsi_core.specs.Settings.{million}
use Rattle.rvcsi_core.proofs.Tested.{shown, is_false}
use Rattle.std.proofs.lemmas.Float.{T_from_true}
use Rattle.rvcsi_core.proofs.Valid.{clamped_score}
use Rattle.detectors.specs.Common.{two32, over_twice}
use Rattle.detectors.specs.Answers.{speaks, Said, said, Valid, Result, Answer, taken, refusal, unless}
use Rattle.detectors.specs.declared.Judgement.{Judgement}
use Rattle.rvcsi_core.specs.declared.event.CsiEventKind.TheVariants.{AnomalyDetected}
use Rattle.detectors.proofs.Confidence.{le_numbers}
use Rattle.drift.specs.declared.BaselineDriftConfig.{BaselineDriftConfig}
use Rattle.drift.specs.declared.DriftState.{DriftState}
use Rattle.drift.specs.Settings.{drift_accepted}
use Rattle.drift.specs.Drift.{most, length_ok, drift_in, Drifted, anomaly_if, streak_of, weighed, measured, drift_move, leaves, drift_step}
use Rattle.drift.proofs.Thresholds.{Threshold, settings}
use Rattle.drift.proofs.Ranges.{each_way}

-- ---- a value above 0 is a number other than 0

above_some : (x : Float) → T (lt zero32 x) → (is_nan x ≡ false) × T (some x)
unfolding is_nan lt of_bits
above_some nan p = absurd p
above_some (inf s) p = (refl, tt)
above_some (fin true m e) p = absurd p
above_some (fin false zero e) p = absurd (simp zero-mul at p)
above_some (fin false (suc m) e) p = (refl, rw (ne_eqb (suc m) 0 (λ e. omega (arith, e))) tt)

quotient_number : (f : Format) (x y : Float) → T (lt zero32 x) → T (finite y) → T (not (is_nan (div f x y)))
quotient_number f x y p q = let s = above_some x p in not-false (is_nan (div f x y)) (div_number f x y s.0 q (rw (shown (some x) s.1) tt))

-- ---- twice an accepted threshold is finite

finite_between : (lo z hi : Float) → T (finite lo) → T (finite hi) → T (le lo z) → T (le z hi) → T (finite z)
unfolding le lt eq
finite_between nan z hi p q l h = absurd p
finite_between (inf s) z hi p q l h = absurd p
finite_between (fin s m e) nan hi p q l h = absurd l
finite_between (fin s m e) (inf true) hi p q l h = absurd l
finite_between (fin s m e) (inf false) nan p q l h = absurd q
finite_between (fin s m e) (inf false) (inf t) p q l h = absurd q
finite_between (fin s m e) (inf false) (fin t n d) p q l h = absurd h
finite_between (fin s m e) (fin t n d) hi p q l h = tt

from_zero : (a b : ℕ) → 0 < b → T (le (round binary32 false 0 1) (round binary32 false a b))
from_zero a b h = round_mono binary32 0 1 a b (omega arith) h (omega (arith, zero-mul b))

-- the sign does not matter
odd_finite : (d : ℕ) (s : Bool) (q k l : ℕ) → finite (odd d s q k l) ≡ true
unfolding odd
odd_finite d s zero k l = refl
odd_finite d s (suc q) k l = refl

units_sign : (f : Format) (q k : ℕ) → finite (units f true q k) ≡ finite (units f false q k)
unfolding units
units_sign f q k = go (ltb (q * 2 ^ k) (overflow f))
  where
    go : (b : Bool) → finite (cond b (odd (suc (prec f)) true q k (low f)) (inf true)) ≡ finite (cond b (odd (suc (prec f)) false q k (low f)) (inf false))
    go true = odd_finite (suc (prec f)) true q k (low f) ∙ sym (odd_finite (suc (prec f)) false q k (low f))
    go false = refl

round_sign : (f : Format) (a b : ℕ) → finite (round f true a b) ≡ finite (round f false a b)
round_sign f a b = ap finite (round_is f true a b) ∙ units_sign f _ _ ∙ sym (ap finite (round_is f false a b))

zero_plain : (a b : ℕ) → a ≡ 0 → 0 < b → T (finite (round binary32 false a b))
unfolding round
zero_plain a b z h =
    finite_between (round binary32 false 0 1) (round binary32 false a b) (round binary32 false 0 1) tt tt (from_zero a b h)
    (round_mono binary32 a b 0 1 h (omega arith) (omega (arith, z, zero-mul b)))

zero_round : (s : Bool) (a b : ℕ) → a ≡ 0 → 0 < b → T (finite (round binary32 s a b))
zero_round false a b z h = zero_plain a b z h
zero_round true a b z h = subst T (sym (round_sign binary32 a b)) (zero_plain a b z h)

times_zero : (x z u : ℕ) → z ≡ 0 → x * (z * u) ≡ 0
times_zero x z u e = simp (e, zero-mul, mul-zero)

negative : (m : ℕ) (e : ℤ) → T (lt (fin true (suc m) e) zero32)
unfolding lt of_bits
negative m e = let h : 0 < suc m = omega arith in lt→ltb 0 (suc m * up e * 1 + 0 * 1 * down e) (omega (arith, mul-pos h (up_pos e)))

twice_finite : (t : Float) → T (le zero32 t) → T (le t million) → T (finite (mul binary32 two32 t))
unfolding of_bits mul round le lt eq
twice_finite nan l h = absurd l
twice_finite (inf true) l h = absurd l
twice_finite (inf false) l h = absurd h
twice_finite (fin s zero e) l h = zero_round (unlike false s) _ _ (times_zero (1 * up (pos 1)) zero (up e) refl) (mul-pos (down_pos (pos 1)) (down_pos e))
twice_finite (fin true (suc m) e) l h = absurd (order.lt_not_le (fin true (suc m) e) zero32 (negative m e) l)
twice_finite (fin false (suc m) e) l h =
    finite_between (round binary32 false 0 1) (mul binary32 two32 (fin false (suc m) e)) (mul binary32 two32 million) tt tt
    (from_zero (1 * up (pos 1) * (suc m * up e)) (down (pos 1) * down e) (mul-pos (down_pos (pos 1)) (down_pos e)))
    (mul_mono binary32 two32 two32 (fin false (suc m) e) million tt tt (lt→ltb 0 (suc m) (omega arith)) tt tt h)

-- ---- the confidence of a distance above its threshold

above_zero : (x t : Float) → T (le zero32 t) → T (lt t x) → T (lt zero32 x)
unfolding of_bits is_nan
above_zero x t z l =
    subst T (sym (order.lt_is_not_le zero32 x tt (le_numbers t x (order.lt_le t x l)).1))
    (not-false (le x zero32) (is_false (le x zero32) (λ h. order.lt_not_le t x l (order.le_trans x zero32 t h z))))

pub over_twice_valid : (x t : Float) → Threshold t → T (lt t x) → T (score_ok (over_twice x t))
unfolding over_twice
over_twice_valid x t h l =
    clamped_score (div binary32 x (mul binary32 two32 t))
    (quotient_number binary32 x (mul binary32 two32 t) (above_zero x t h.least l) (twice_finite t h.least h.most))

-- ---- one window

abbrev pub BothValid : Drifted → Type 0
BothValid d = Valid (said d.moved.first) × Valid (said d.moved.second)

module _ (c : BaselineDriftConfig) (ok : drift_accepted c ≡ true) where
  anomaly-valid : (d : Float) → Valid (said (anomaly_if c d))
  unfolding anomaly_if
  anomaly-valid d =
      cond_both (lt c.anomaly_threshold d) (speaks AnomalyDetected (over_twice d c.anomaly_threshold)) None (λ (j : Option Judgement). Valid (said j))
      (λ e. over_twice_valid d c.anomaly_threshold (settings c ok).anomaly (T_from_true _ e)) (λ e. tt)

  -- the count is reached by a window above the threshold only
  counted : (k : ℕ) (d : Float) → leb c.drift_windows (streak_of c k d) ≡ true → T (lt c.drift_threshold d)
  unfolding streak_of
  counted k d = go (lt c.drift_threshold d)
    where
      go : (b : Bool) → leb c.drift_windows (cond b (k + 1) 0) ≡ true → T b
      go true h = tt
      go false h = absurd (omega (arith, leb-true c.drift_windows 0 h, (settings c ok).some))

  weighed-valid : (k : ℕ) (d : Float) (cur base : List Float) → BothValid (weighed c k d cur base)
  unfolding weighed
  weighed-valid k d cur base =
      cond_both (leb c.drift_windows (streak_of c k d)) _ _ BothValid
      (λ e. (anomaly-valid d, over_twice_valid d c.drift_threshold (settings c ok).drift (counted k d e))) (λ e. (anomaly-valid d, tt))

  pub drift-valid : (s : DriftState) (cur base : List Float) → BothValid (drift_move c s cur base)
  unfolding measured
  drift-valid s cur base =
      each_way BothValid c s cur base (λ e. (tt, tt)) (λ n e t. weighed-valid s.drift_streak _ cur base) (λ n e t. (tt, tt))

-- what is returned with reply 0, whatever goes in
abbrev pub AllValid : List Said → Type 0
AllValid [] = Unit
AllValid (j ∷ l) = Valid j × AllValid l

abbrev pub AnswerValid : Answer (Result DriftState) → Type 0
AnswerValid (taken r) = AllValid r.judgements
AnswerValid (refusal n) = Unit

pub step_valid : (c : BaselineDriftConfig) (s : DriftState) (cur store : List Float) → AnswerValid (drift_step c s cur store).reply
unfolding drift_step drift_in
step_valid c s cur store =
    go (leb most (length store)) (drift_in c s) (leb (length cur) most)
    (λ e. drift-valid c (and_parts (drift_accepted c) (length_ok s.baseline) (and_parts (drift_accepted c && length_ok s.baseline) (ltb s.drift_streak c.drift_windows) e).0).0 s cur store)
  where
    go : (a b d : Bool) → (b ≡ true → BothValid (drift_move c s cur store)) → AnswerValid (leaves store (unless a 13 (unless b 14 (unless d 5 (taken (drift_move c s cur store)))))).reply
    go false b d h = tt
    go true false d h = tt
    go true true false h = tt
    go true true true h = let v = h refl in (v.0, (v.1, tt))
