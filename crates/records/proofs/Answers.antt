-- The reader's and the writer's outcome by their cases; and any two replies that a promise allows agree.
-- Assumes nothing.
use mathlib.Core.Path.{◌≡◌, refl, sym, ap, ◌∙◌}
use mathlib.Core.List.{List}
use mathlib.Core.Bool.{Bool, true, false, cond, ◌&&◌}
use Prim.Native.Nat.{ℕ, ◌+◌, ◌≤◌, ◌<◌}
use native.Mathlib.Nat.{le_of_lt}
use native.Mathlib.Omega.{arith}
use borrow.Author.Tests.{le-leb, lt-leb, leb-true}
use lib.Dec.{leb, eqb}
use lib.ListN.{length, drop, drop_of_length-le}
use lib.Seq.{sets, drop-cons}
use Rattle.records.specs.Fields.{Fields, whole, stopped, fields_in}
use Rattle.records.specs.Records.{Reading, numbers, header_of, with_numbers, floats_after, record_in, record_at, record_bytes}
use Rattle.records.specs.Answers.{Value, nothing, place, header, Answer, answer, paper, paper_wrote, Read, read, stored, stores_long, read_of, Write, write, counted, write_of}
use Rattle.records.specs.Parts.{head_read}
use Rattle.records.specs.declared.Fault.{Fault}
use Rattle.records.specs.declared.Fault.TheVariants.{Cut, Malformed, Flag, Count}
use Rattle.records.specs.declared.Header.{Header}
use Rattle.records.specs.declared.ReadError.{ReadError}
use Rattle.records.specs.declared.ReadError.TheVariants.{Stores, Refused}
use Rattle.records.specs.declared.Record.{Record}
use Rattle.records.specs.declared.WriteError.{WriteError}
use Rattle.records.specs.declared.WriteError.TheVariants.{Counts, Short}
use Rattle.records.proofs.Heads.{head_as}
use Rattle.std.specs.Prelude.{Option, Some, None, Result, Ok, Err}
use Rattle.records.proofs.Steps.{fields_end, fields_count}

-- ---- the reader
pub both : (a b : Bool) → (a && b) ≡ true → (a ≡ true) × (b ≡ true)
both true b e = (refl, e)
both false b e = cc

pub stores-are : (a p q : ℕ) → stores_long a p q ≡ true → (256 ≤ a) × (256 ≤ p) × (512 ≤ q)
stores-are a p q e =
    let f = both (leb 256 a && leb 256 p) (leb 512 q) e in
    let g = both (leb 256 a) (leb 256 p) f.0 in
    (leb-true 256 a g.0, leb-true 256 p g.1, leb-true 512 q f.1)

-- what a head that was read says of the numbers
record Whole (input : List ℕ) (f : Fields) (h : Header) (q : ℕ) : Type 0 where
  pub vs : List ℕ
  pub rest : List ℕ
  pub is : f ≡ whole vs q rest
  pub makes : header_of vs ≡ h

whole_of : (input : List ℕ) (f : Fields) (h : Header) (q : ℕ) → head_as h q ≡ head_read f → Whole input f h q
whole_of input (stopped g o) h q e = cc
whole_of input (whole vs p rest) h q e =
    let w : ◌≡◌ {A = Record} (record { header = h; next = q }) (record { header = header_of vs; next = p }) = cc in
    record { vs = vs; rest = rest; is = ap (λ (r : Record). whole vs r.next rest) (sym w); makes = ap (λ (r : Record). r.header) (sym w) }

record Stopped (f : Fields) (e : ReadError) : Type 0 where
  pub fault : Fault
  pub offset : ℕ
  pub is : f ≡ stopped fault offset
  pub was : e ≡ Refused fault offset

stopped-of : (f : Fields) (e : ReadError) → Err e ≡ head_read f → Stopped f e
stopped-of (stopped x y) e q = record { fault = x; offset = y; is = refl; was = cc }
stopped-of (whole vs p rest) e q = cc

module _ (input : List ℕ) (at : ℕ) where
  some : at < length input → record_at input at ≡ with_numbers (fields_in numbers at (drop at input))
  unfolding record_in
  some l = rw (drop-cons input at 0 l)

  -- a head's counts are at most 256, its floats begin within the input, and the record is the floats after it
  pub record Begun (h : Header) (q : ℕ) : Type 0 where
    pub subcarriers : h.subcarriers ≤ 256
    pub pairs : h.pairs ≤ 256
    pub inside : q ≤ length input
    pub is : record_at input at ≡ floats_after h q (drop q input)

  pub begun : (h : Header) (q : ℕ) → at < length input → head_as h q ≡ head_read (fields_in numbers at (drop at input)) → Begun h q
  begun h q l e =
      let w = whole_of input (fields_in numbers at (drop at input)) h q e in
      let d = fields_end numbers input at w.vs q w.rest (le_of_lt l) w.is in
      record {
        subcarriers = omega (arith, fields_count numbers at (drop at input) w.vs q w.rest 4 w.is refl, ap (λ (g : Header). g.subcarriers) w.makes);
        pairs = omega (arith, fields_count numbers at (drop at input) w.vs q w.rest 5 w.is refl, ap (λ (g : Header). g.pairs) w.makes);
        inside = d.1;
        is = some l ∙ ap with_numbers w.is ∙ ap (floats_after (header_of w.vs) q) d.0 ∙ ap (λ (g : Header). floats_after g q (drop q input)) w.makes;
      }

  module _ (us vs ws : List ℕ) where
    pub read_short : stores_long (length us) (length vs) (length ws) ≡ false → read (answer 13 nothing) us vs ws ≡ read_of input at us vs ws
    unfolding read_of
    read_short e = rw e

    module _ (e : stores_long (length us) (length vs) (length ws) ≡ true) where
      pub read_is : (r : Reading) → record_at input at ≡ r → stored r us vs ws ≡ read_of input at us vs ws
      unfolding read_of
      read_is r g = rw (e, g)

      pub read_none : length input ≤ at → read (answer 0 nothing) us vs ws ≡ read_of input at us vs ws
      unfolding record_in
      read_none l = read_is _ (ap (record_in at) (drop_of_length-le input l))

      pub read-stopped : (e : ReadError) → at < length input → Err e ≡ head_read (fields_in numbers at (drop at input)) → read (paper (Err e)) us vs ws ≡ read_of input at us vs ws
      read-stopped e l h =
          let w = stopped-of (fields_in numbers at (drop at input)) e h in
          rw w.was (read_is _ (some l ∙ ap with_numbers w.is))

      -- the outcome of the floats after a head is the reader's
      pub read-begun : {h : Header} {q : ℕ} → Begun h q → (o : Read) → o ≡ stored (floats_after h q (drop q input)) us vs ws → o ≡ read_of input at us vs ws
      read-begun {h} {q} w o g = g ∙ read_is (floats_after h q (drop q input)) w.is

-- ---- the writer
module _ (out : List ℕ) (at : ℕ) (h : Header) (xs ps qs : List ℕ) where
  pub write-counts : counted h (length xs) (length ps) (length qs) ≡ false → write (answer 5 nothing) out ≡ write_of out at h xs ps qs
  unfolding write_of
  write-counts e = rw e

  module _ (e : counted h (length xs) (length ps) (length qs) ≡ true) where
    pub write-short : length out < at + length (record_bytes h xs ps qs) → write (answer 12 nothing) out ≡ write_of out at h xs ps qs
    unfolding write_of
    write-short l = rw (e, lt-leb (at + length (record_bytes h xs ps qs)) (length out) l)

    pub write_done : (r : ℕ) (d : List ℕ) → at + length (record_bytes h xs ps qs) ≤ length out → r ≡ at + length (record_bytes h xs ps qs) → d ≡ sets out at (record_bytes h xs ps qs) → write (answer 0 (place r)) d ≡ write_of out at h xs ps qs
    unfolding write_of
    write_done r d l a b = rw (e, le-leb (at + length (record_bytes h xs ps qs)) (length out) l, a, b)

-- ---- any two allowed replies agree: `paper` has a left inverse
abbrev fault_of : ℕ → Fault
fault_of n = cond (eqb n 9) Cut (cond (eqb n 10) Malformed (cond (eqb n 5) Count Flag))

abbrev reply_of : Value → ℕ → Result (Option Record) ReadError
reply_of nothing n = cond (eqb n 0) (Ok None) (Err Stores)
reply_of (place o) n = Err (Refused (fault_of n) o)
reply_of (header h next) n = Ok (Some (record { header = h; next = next }))

abbrev unpaper : Answer → Result (Option Record) ReadError
unpaper a = reply_of a.value a.number

unpaper-paper : (r : Result (Option Record) ReadError) → unpaper (paper r) ≡ r
unpaper-paper (Ok (Some r)) = refl
unpaper-paper (Ok None) = refl
unpaper-paper (Err Stores) = refl
unpaper-paper (Err (Refused Cut o)) = refl
unpaper-paper (Err (Refused Malformed o)) = refl
unpaper-paper (Err (Refused Count o)) = refl
unpaper-paper (Err (Refused Flag o)) = refl

pub read_agree : (r r' : Result (Option Record) ReadError) (xs ps qs xs' ps' qs' : List ℕ) (o : Read) → read (paper r) xs ps qs ≡ o → read (paper r') xs' ps' qs' ≡ o → (r ≡ r') × (xs ≡ xs') × (ps ≡ ps') × (qs ≡ qs')
read_agree r r' xs ps qs xs' ps' qs' o a b =
    let e = a ∙ sym b in (
      sym (unpaper-paper r) ∙ ap (λ (x : Read). unpaper x.reply) e ∙ unpaper-paper r',
      ap (λ (x : Read). x.amplitudes) e,
      ap (λ (x : Read). x.phases) e,
      ap (λ (x : Read). x.pairs) e,
    )

abbrev wrote_of : Value → ℕ → Result ℕ WriteError
wrote_of nothing n = cond (eqb n 5) (Err Counts) (Err Short)
wrote_of (place o) n = Ok o
wrote_of (header h next) n = Err Short

abbrev unpaper_wrote : Answer → Result ℕ WriteError
unpaper_wrote a = wrote_of a.value a.number

unpaper-wrote : (r : Result ℕ WriteError) → unpaper_wrote (paper_wrote r) ≡ r
unpaper-wrote (Ok next) = refl
unpaper-wrote (Err Counts) = refl
unpaper-wrote (Err Short) = refl

pub write-agree : (r r' : Result ℕ WriteError) (d d' : List ℕ) (o : Write) → write (paper_wrote r) d ≡ o → write (paper_wrote r') d' ≡ o → (r ≡ r') × (d ≡ d')
write-agree r r' d d' o a b =
    let e = a ∙ sym b in
    (sym (unpaper-wrote r) ∙ ap (λ (x : Write). unpaper_wrote x.reply) e ∙ unpaper-wrote r', ap (λ (x : Write). x.out) e)
