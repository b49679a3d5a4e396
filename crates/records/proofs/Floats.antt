-- Reading floats: one a turn into a list, and field by field.
-- Assumes nothing.
use mathlib.Core.Path.{◌≡◌, refl, sym, ap, ◌∙◌}
use mathlib.Core.List.{List, [], ◌∷◌}
use Prim.Native.Nat.{ℕ, zero, suc, ◌+◌, ◌-◌, ◌*◌, ◌/◌, ◌≤◌, ◌<◌}
use native.Mathlib.Nat.{add-zero, not-suc-le-zero}
use native.Mathlib.Numerals.{add-one, towards_suc}
use native.Mathlib.Omega.{arith}
use lib.ListN.{length, get_or, set, take, drop, replicate, length-set}
use lib.Seq.{sets, drop-cons}
use Rattle.records.specs.Fields.{float, float_in, field_in, fields_in, whole, stopped, onto}
use Rattle.records.specs.Parts.{float_at, floats_at}
use Rattle.records.specs.declared.Fault.TheVariants.{Cut}

-- ---- a turn of the loop
pub record Left (s : List ℕ) (at n : ℕ) (d₀ d : List ℕ) (i : ℕ) : Type 0 where
  pub wide : length d ≡ length d₀
  pub same : sets d i (floats_at s (at + 4 * i) (n - i)) ≡ sets d₀ 0 (floats_at s at n)

pub left_more : (s : List ℕ) (at n : ℕ) (d₀ d : List ℕ) (i v : ℕ) → v ≡ float_at s (at + 4 * i) → i < n → Left s at n d₀ d i → Left s at n d₀ (set d i v) (i + 1)
unfolding floats_at
left_more s at n d₀ d i v g h w =
    let e : n - i ≡ suc (n - (i + 1)) = omega arith in
    let k : at + 4 * (i + 1) ≡ at + 4 * i + 4 = omega arith in
    record {
      wide = length-set d i v ∙ w.wide;
      same = rw (g, k, add-one i) (rw (add-one i) at (rw e at w.same));
    }

pub left_none : (s : List ℕ) (at n : ℕ) (d₀ d : List ℕ) (i : ℕ) → n ≤ i → Left s at n d₀ d i → d ≡ sets d₀ 0 (floats_at s at n)
unfolding floats_at
left_none s at n d₀ d i h w = let e : n - i ≡ 0 = omega arith in rw e at w.same

-- ---- field by field
pub four : (s : List ℕ) (a : ℕ) → a + 4 ≤ length s → drop a s ≡ get_or s a 0 ∷ get_or s (a + 1) 0 ∷ get_or s (a + 2) 0 ∷ get_or s (a + 3) 0 ∷ drop (a + 4) s
four s a h =
    let l₀ : a < length s = omega arith in
    let l₁ : suc a < length s = omega arith in
    let l₂ : suc (suc a) < length s = omega arith in
    let l₃ : suc (suc (suc a)) < length s = omega arith in
    simp towards_suc (cc (drop-cons s a 0 l₀, drop-cons s (suc a) 0 l₁, drop-cons s (suc (suc a)) 0 l₂, drop-cons s (suc (suc (suc a))) 0 l₃))

-- where all n are there
pub floats_whole : (s : List ℕ) (n at : ℕ) → at + 4 * n ≤ length s → fields_in (replicate n float) at (drop at s) ≡ whole (floats_at s at n) (at + 4 * n) (drop (at + 4 * n) s)
unfolding fields_in field_in float_in floats_at
floats_whole s zero at h = cc (add-zero at)
floats_whole s (suc n) at h =
    let e : at + 4 + 4 * n ≡ at + 4 * suc n = omega arith in
    let w = floats_whole s n (at + 4) (omega arith) in
    rw (four s at (omega arith)) (ap (onto (float_at s at)) (rw e at w))

-- and where they are not, the first that is cut
pub floats_cut : (n at : ℕ) (bs : List ℕ) → length bs < 4 * n → fields_in (replicate n float) at bs ≡ stopped Cut (at + length bs / 4 * 4)
unfolding fields_in field_in float_in
floats_cut zero at bs h = absurd (not-suc-le-zero h)
floats_cut (suc n) at [] h = ap (stopped Cut) (sym (add-zero at))
floats_cut (suc n) at (a ∷ []) h = ap (stopped Cut) (sym (add-zero at))
floats_cut (suc n) at (a ∷ b ∷ []) h = ap (stopped Cut) (sym (add-zero at))
floats_cut (suc n) at (a ∷ b ∷ c ∷ []) h = ap (stopped Cut) (sym (add-zero at))
floats_cut (suc n) at (a ∷ b ∷ c ∷ d ∷ bs) h = rw (floats_cut n (at + 4) bs (omega arith)) (ap (stopped Cut) (next at (length bs)))
  where
    next : (at k : ℕ) → at + 4 + k / 4 * 4 ≡ at + suc (suc (suc (suc k))) / 4 * 4
    next at k = omega arith

-- ---- parts of a run of floats
pub floats_after_lem : (s : List ℕ) (p i n : ℕ) → drop i (floats_at s p (i + n)) ≡ floats_at s (p + 4 * i) n
unfolding floats_at
floats_after_lem s p zero n = rw (add-zero p) (zero_more n)
  where
    zero_more : (n : ℕ) → floats_at s p (0 + n) ≡ floats_at s p n
    zero_more n = let e : 0 + n ≡ n = omega arith in ap (floats_at s p) e
floats_after_lem s p (suc i) n =
    let e : p + 4 + 4 * i ≡ p + 4 * suc i = omega arith in
    let g : suc i + n ≡ suc (i + n) = omega arith in
    rw g (floats_after_lem s (p + 4) i n ∙ ap (λ (k : ℕ). floats_at s k n) e)

pub floats_first_lem : (s : List ℕ) (p n m : ℕ) → take n (floats_at s p (n + m)) ≡ floats_at s p n
unfolding floats_at
floats_first_lem s p zero m = refl
floats_first_lem s p (suc n) m =
    let g : suc n + m ≡ suc (n + m) = omega arith in
    rw g (ap (λ (l : List ℕ). float_at s p ∷ l) (floats_first_lem s (p + 4) n m))
