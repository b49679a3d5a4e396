-- Writing a record: the numbers, the quality, then each list.
use mathlib.Core.Path.{◌≡◌, ap}
use mathlib.Core.List.{List, ◌++◌}
use Prim.Native.Nat.{ℕ, ◌+◌, ◌*◌, ◌≤◌}
use native.Mathlib.Omega.{arith}
use lib.ListN.{length, length-append}
use lib.Seq.{sets}
use Rattle.records.specs.Numbers.{number_bytes}
use Rattle.records.specs.Records.{each, float_bytes, numbers_of, record_bytes}
use Rattle.records.specs.declared.Header.{Header}
use Rattle.records.proofs.Runs.{floats_long}
use Rattle.records.proofs.Chain.{Put, put_numbers, put-more, put-room, record_long}
use Rattle.records.proofs.write_all.Goals as goal

-- the output and the place at the start, and what is to be written
module _ (out : List ℕ) (at : ℕ) (h : Header) (xs ps qs : List ℕ) where
  abbrev hs : List ℕ
  hs = each number_bytes (numbers_of h)

  abbrev b₂ : List ℕ
  b₂ = hs ++ float_bytes h.quality

  abbrev b₃ : List ℕ
  b₃ = b₂ ++ each float_bytes xs

  abbrev b₄ : List ℕ
  b₄ = b₃ ++ each float_bytes ps

  all : at + length (record_bytes h xs ps qs) ≤ length out → at + (length hs + 4 + 4 * length xs + 4 * length ps + 4 * length qs) ≤ length out
  all r = omega (arith, r, record_long h xs ps qs)

  -- what has been written after each call: the outputs and the places that the calls left
  module _ (vs d₁ : List ℕ) (r₁ : ℕ) (v : vs ≡ numbers_of h) (e₁ : r₁ ≡ at + length (each number_bytes vs)) (w₁ : d₁ ≡ sets out at (each number_bytes vs)) where
    p₁ : Put out at hs d₁ r₁
    p₁ = put_numbers vs (numbers_of h) v e₁ w₁

    module _ (d₂ : List ℕ) (r₂ : ℕ) (e₂ : r₂ ≡ r₁ + 4) (w₂ : d₂ ≡ sets d₁ r₁ (float_bytes h.quality)) where
      p₂ : Put out at b₂ d₂ r₂
      p₂ = put-more p₁ (float_bytes h.quality) d₂ r₂ e₂ w₂

      module _ (d₃ : List ℕ) (r₃ : ℕ) (e₃ : r₃ ≡ r₂ + length (each float_bytes xs)) (w₃ : d₃ ≡ sets d₂ r₂ (each float_bytes xs)) where
        p₃ : Put out at b₃ d₃ r₃
        p₃ = put-more p₂ (each float_bytes xs) d₃ r₃ e₃ w₃

        module _ (d₄ : List ℕ) (r₄ : ℕ) (e₄ : r₄ ≡ r₃ + length (each float_bytes ps)) (w₄ : d₄ ≡ sets d₃ r₃ (each float_bytes ps)) where
          p₄ : Put out at b₄ d₄ r₄
          p₄ = put-more p₃ (each float_bytes ps) d₄ r₄ e₄ w₄

          p₅ : (d₅ : List ℕ) (r₅ : ℕ) → r₅ ≡ r₄ + length (each float_bytes qs) → d₅ ≡ sets d₄ r₄ (each float_bytes qs) → Put out at (record_bytes h xs ps qs) d₅ r₅
          unfolding record_bytes
          p₅ d₅ r₅ e₅ w₅ = put-more p₄ (each float_bytes qs) d₅ r₅ e₅ w₅

pub write_each-p1-requires : goal.write_each-p1-requires
write_each-p1-requires c =
    let a = all c.args.out.now c.args.at c.args.h c.args.lists.now.amplitudes.now c.args.lists.now.phases.now c.args.lists.now.pairs.now c.requires in
    omega (arith, a, ap (λ (l : List ℕ). length (each number_bytes l)) c.numbers_of-vs.ensures)

pub write-p2-requires : goal.write-p2-requires
write-p2-requires c =
    let a = all c.args.out.now c.args.at c.args.h c.args.lists.now.amplitudes.now c.args.lists.now.phases.now c.args.lists.now.pairs.now c.requires in
    put-room (p₁ c.args.out.now c.args.at c.args.h c.args.lists.now.amplitudes.now c.args.lists.now.phases.now c.args.lists.now.pairs.now _ _ _ c.numbers_of-vs.ensures c.write_each-p1.ensures.place c.write_each-p1.ensures.written) 4 (omega (arith, a))

pub write_each-p3-requires : goal.write_each-p3-requires
write_each-p3-requires c =
    let a = all c.args.out.now c.args.at c.args.h c.args.lists.now.amplitudes.now c.args.lists.now.phases.now c.args.lists.now.pairs.now c.requires in
    put-room (p₂ c.args.out.now c.args.at c.args.h c.args.lists.now.amplitudes.now c.args.lists.now.phases.now c.args.lists.now.pairs.now _ _ _ c.numbers_of-vs.ensures c.write_each-p1.ensures.place c.write_each-p1.ensures.written _ _ c.write-p2.ensures.place c.write-p2.ensures.written) _ (simp (length-append, floats_long) (omega (arith, a)))

pub write_each-p4-requires : goal.write_each-p4-requires
write_each-p4-requires c =
    let a = all c.args.out.now c.args.at c.args.h c.args.lists.now.amplitudes.now c.args.lists.now.phases.now c.args.lists.now.pairs.now c.requires in
    put-room (p₃ c.args.out.now c.args.at c.args.h c.args.lists.now.amplitudes.now c.args.lists.now.phases.now c.args.lists.now.pairs.now _ _ _ c.numbers_of-vs.ensures c.write_each-p1.ensures.place c.write_each-p1.ensures.written _ _ c.write-p2.ensures.place c.write-p2.ensures.written _ _ c.write_each-p3.ensures.place c.write_each-p3.ensures.written) _ (simp (length-append, floats_long) (omega (arith, a)))

pub write_each-requires : goal.write_each-requires
write_each-requires c =
    let a = all c.args.out.now c.args.at c.args.h c.args.lists.now.amplitudes.now c.args.lists.now.phases.now c.args.lists.now.pairs.now c.requires in
    put-room (p₄ c.args.out.now c.args.at c.args.h c.args.lists.now.amplitudes.now c.args.lists.now.phases.now c.args.lists.now.pairs.now _ _ _ c.numbers_of-vs.ensures c.write_each-p1.ensures.place c.write_each-p1.ensures.written _ _ c.write-p2.ensures.place c.write-p2.ensures.written _ _ c.write_each-p3.ensures.place c.write_each-p3.ensures.written _ _ c.write_each-p4.ensures.place c.write_each-p4.ensures.written) _ (simp (length-append, floats_long) (omega (arith, a)))

pub returns-clause-place : goal.returns-clause-place
returns-clause-place c = (p₅ c.args.out.now c.args.at c.args.h c.args.lists.now.amplitudes.now c.args.lists.now.phases.now c.args.lists.now.pairs.now _ _ _ c.numbers_of-vs.ensures c.write_each-p1.ensures.place c.write_each-p1.ensures.written _ _ c.write-p2.ensures.place c.write-p2.ensures.written _ _ c.write_each-p3.ensures.place c.write_each-p3.ensures.written _ _ c.write_each-p4.ensures.place c.write_each-p4.ensures.written _ _ c.write_each.ensures.place c.write_each.ensures.written).place

pub returns-clause-written : goal.returns-clause-written
returns-clause-written c = (p₅ c.args.out.now c.args.at c.args.h c.args.lists.now.amplitudes.now c.args.lists.now.phases.now c.args.lists.now.pairs.now _ _ _ c.numbers_of-vs.ensures c.write_each-p1.ensures.place c.write_each-p1.ensures.written _ _ c.write-p2.ensures.place c.write-p2.ensures.written _ _ c.write_each-p3.ensures.place c.write_each-p3.ensures.written _ _ c.write_each-p4.ensures.place c.write_each-p4.ensures.written _ _ c.write_each.ensures.place c.write_each.ensures.written).same
