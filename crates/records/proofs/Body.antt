-- The floats after a header: cut short, or all of them in their four parts.
-- Assumes nothing.
use mathlib.Core.Path.{◌≡◌, ap, ◌∙◌}
use mathlib.Core.List.{List}
use Prim.Native.Nat.{ℕ, suc, ◌+◌, ◌-◌, ◌*◌, ◌/◌, ◌≤◌, ◌<◌}
use native.Mathlib.Omega.{arith}
use lib.Seq.{sets}
use lib.ListN.{length, get_or, take, drop, length-drop}
use Rattle.records.specs.Records.{taken, refused, with_floats, with_quality, floats_after, float_count}
use Rattle.records.specs.Answers.{read, answer, header, stored}
use Rattle.records.specs.Parts.{float_at, floats_at}
use Rattle.records.specs.declared.Fault.TheVariants.{Cut}
use Rattle.records.specs.declared.Header.{Header}
use Rattle.records.proofs.Floats.{floats_whole, floats_cut, floats_after_lem, floats_first_lem}

-- the bytes of a record's floats
abbrev pub body_size : Header → ℕ
body_size h = 4 + 8 * h.subcarriers + 8 * h.pairs

four_each : (n m : ℕ) → 4 * (1 + n + n + 2 * m) ≡ 4 + 8 * n + 8 * m
four_each n m = omega arith

module _ (s : List ℕ) (h : Header) (at : ℕ) where
  abbrev n : ℕ
  n = h.subcarriers

  abbrev m : ℕ
  m = h.pairs

  pub body-cut : length s - at < body_size h → floats_after h at (drop at s) ≡ refused Cut (at + (length s - at) / 4 * 4)
  body-cut l =
      let e : length (drop at s) ≡ length s - at = length-drop at s in
      let c = floats_cut (float_count h) at (drop at s) (omega (arith, four_each n m)) in
      ap (with_floats h) (rw e at c)

  abbrev all : List ℕ
  all = floats_at s at (float_count h)

  amplitudes-are : take n (drop 1 all) ≡ floats_at s (at + 4) n
  amplitudes-are =
      let e : 1 + n + n + 2 * m ≡ 1 + (n + (n + 2 * m)) = omega arith in
      rw e (ap (take n) (floats_after_lem s at 1 (n + (n + 2 * m))) ∙ floats_first_lem s (at + 4) n (n + 2 * m))

  phases-are : take n (drop (1 + n) all) ≡ floats_at s (at + 4 + 4 * n) n
  phases-are =
      let e : 1 + n + n + 2 * m ≡ 1 + n + (n + 2 * m) = omega arith in
      let g : at + 4 * (1 + n) ≡ at + 4 + 4 * n = omega arith in
      rw e (ap (take n) (floats_after_lem s at (1 + n) (n + 2 * m)) ∙ floats_first_lem s (at + 4 * (1 + n)) n (2 * m) ∙ ap (λ (k : ℕ). floats_at s k n) g)

  pairs-are : drop (1 + n + n) all ≡ floats_at s (at + 4 + 8 * n) (2 * m)
  pairs-are =
      let g : at + 4 * (1 + n + n) ≡ at + 4 + 8 * n = omega arith in
      floats_after_lem s at (1 + n + n) (2 * m) ∙ ap (λ (k : ℕ). floats_at s k (2 * m)) g

  quality-is : get_or all 0 0 ≡ float_at s at
  unfolding floats_at
  quality-is = let e : 1 + n + n + 2 * m ≡ suc (n + n + 2 * m) = omega arith in rw e

  pub body-whole : at + body_size h ≤ length s → floats_after h at (drop at s) ≡ taken (with_quality h (float_at s at)) (floats_at s (at + 4) n) (floats_at s (at + 4 + 4 * n) n) (floats_at s (at + 4 + 8 * n) (2 * m)) (at + body_size h)
  body-whole l =
      let e = ap (with_floats h) (floats_whole s (float_count h) at (omega (arith, four_each n m))) in
      let z : at + 4 * float_count h ≡ at + body_size h = omega (arith, four_each n m) in
      e ∙ cc (ap (with_quality h) quality-is, amplitudes-are, phases-are, pairs-are, z)

  -- what comes out where the lists were read
  pub body-read : (us vs ws xs ps qs : List ℕ) (q : ℕ) → at + body_size h ≤ length s → q ≡ float_at s at → xs ≡ sets us 0 (floats_at s (at + 4) n) → ps ≡ sets vs 0 (floats_at s (at + 4 + 4 * n) n) → qs ≡ sets ws 0 (floats_at s (at + 4 + 8 * n) (2 * m))
      → read (answer 0 (header (with_quality h q) (at + body_size h))) xs ps qs ≡ stored (floats_after h at (drop at s)) us vs ws
  body-read us vs ws xs ps qs q l e a b c = rw (e, a, b, c, body-whole l)
