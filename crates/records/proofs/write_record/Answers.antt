-- Writing a record: each test says which reply is owed, and what is written.
use mathlib.Core.Path.{◌≡◌, sym, ap, ◌∙◌}
use mathlib.Core.List.{List}
use Prim.Native.Nat.{ℕ, ◌+◌, ◌*◌}
use native.Mathlib.Omega.{arith}
use lib.ListN.{length}
use Rattle.records.specs.Numbers.{number_bytes}
use Rattle.records.specs.Records.{each, numbers_of, record_bytes}
use Rattle.records.specs.declared.Header.{Header}
use Rattle.records.proofs.Chain.{record_long}
use Rattle.records.proofs.Answers.{write-counts, write-short, write_done}
use Rattle.records.proofs.write_record.Goals as goal

module _ (h : Header) (xs ps qs : List ℕ) where
  need : (vs : List ℕ) (w : ℕ) → vs ≡ numbers_of h → w ≡ length (each number_bytes vs) → w + 4 * (1 + length xs + length ps + length qs) ≡ length (record_bytes h xs ps qs)
  need vs w v e = omega (arith, record_long h xs ps qs, e, ap (λ (l : List ℕ). length (each number_bytes l)) v)

pub returns-then-not-counts_fit : goal.returns-then-not-counts_fit
returns-then-not-counts_fit c = write-counts _ _ _ _ _ _ (sym c.counts_fit.ensures ∙ c.if-not-counts_fit.true)

pub returns-then-saturating_sub-need : goal.returns-then-saturating_sub-need
returns-then-saturating_sub-need c =
    let l = c.args.lists.now in
    let n = need c.args.header l.amplitudes.now l.phases.now l.pairs.now _ _ c.numbers_of.ensures c.numbers_width.ensures.0 in
    write-short _ _ _ _ _ _ (sym c.counts_fit.ensures ∙ c.if-not-counts_fit.false) (omega (arith, n))

pub write_all-requires : goal.write_all-requires
write_all-requires c =
    let l = c.args.lists.now in
    omega (arith, need c.args.header l.amplitudes.now l.phases.now l.pairs.now _ _ c.numbers_of.ensures c.numbers_width.ensures.0)

pub returns : goal.returns
returns c =
    let l = c.args.lists.now in
    let n = need c.args.header l.amplitudes.now l.phases.now l.pairs.now _ _ c.numbers_of.ensures c.numbers_width.ensures.0 in
    write_done _ _ _ _ _ _ (sym c.counts_fit.ensures ∙ c.if-not-counts_fit.false) _ _ (omega (arith, n)) c.write_all.ensures.place c.write_all.ensures.written
