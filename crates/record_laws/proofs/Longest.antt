-- A record is never longer than 4,135 bytes: 35 of numbers and 4,100 of floats. A cut record is shorter, so that 4,135 bytes always tell.
-- Assumes nothing.
use mathlib.Core.Path.{◌≡◌, refl, sym, ap, ◌∙◌}
use mathlib.Core.List.{List, [], ◌∷◌}
use mathlib.Core.Bool.{Bool, true, false}
use mathlib.Core.Logic.{◌⊎◌, inl, inr}
use Prim.Native.Nat.{ℕ, ◌+◌, ◌*◌, ◌≤◌, ◌<◌}
use native.Mathlib.Nat.{add-zero}
use native.Mathlib.Omega.{arith}
use borrow.Author.Tests.{ltb-true, ltb-false}
use lib.Dec.{ltb, lit<}
use lib.ListN.{length, take, drop, replicate, length-append, length-take, take-append-drop}
use lib.Seq.{take_all}
use Rattle.records.specs.Fields.{float, Fields, whole, stopped, fields_in}
use Rattle.records.specs.Records.{numbers, header_of, float_count, Reading, taken, none, refused, with_floats, with_numbers, record_in, numbers_of, record_bytes}
use Rattle.records.specs.declared.Fault.{Fault}
use Rattle.records.specs.declared.Fault.TheVariants.{Cut, Malformed, Count, Flag}
use Rattle.records.specs.declared.Header.{Header}
use Rattle.records.proofs.Chain.{record_long}
use Rattle.records.proofs.Floats.{floats_whole}
use Rattle.records.proofs.Steps.{fields_count}
use Rattle.record_laws.proofs.Numbers.{Bytes}
use Rattle.record_laws.proofs.Rows.{row_bytes, moved, row_made, row_moved, row_long, row_cut}
use Rattle.record_laws.proofs.Whole.{Fit, numbers_bytes, numbers_fit, most_numbers}
use Rattle.record_laws.proofs.Fields.{take_below}
use Rattle.record_laws.proofs.MoreBehind.{Done, more_behind}
use Rattle.record_laws.proofs.WritingRead.{writing-read, read_fits}

-- what can be written
pub longest : (h : Header) (xs ps qs : List ℕ) → Fit h xs ps qs → length (record_bytes h xs ps qs) ≤ 4135
longest h xs ps qs f = omega (arith, record_long h xs ps qs, f.amplitudes-long, f.phases-long, f.pairs-long, f.subcarriers, f.pairs, row_long numbers (numbers_of h) (numbers_fit f), ap length (numbers_bytes h), most_numbers)

-- what was read
pub read_longest : (at : ℕ) (bs : List ℕ) (h : Header) (xs ps qs : List ℕ) (next : ℕ) → Bytes bs → record_in at bs ≡ taken h xs ps qs next → next ≤ at + 4135
read_longest at bs h xs ps qs next y e = omega (arith, (writing-read at bs h xs ps qs next y e).ends, longest h xs ps qs (read_fits at bs h xs ps qs next y e))

-- floats that are cut are fewer bytes than they ask
floats_short : (n q : ℕ) (bs : List ℕ) (o : ℕ) → fields_in (replicate n float) q bs ≡ stopped Cut o → length bs < 4 * n
floats_short n q bs o e = go (ltb (length bs) (4 * n)) refl
  where
    go : (t : Bool) → ltb (length bs) (4 * n) ≡ t → length bs < 4 * n
    go true p = ltb-true (length bs) (4 * n) p
    go false p =
        let l : 0 + 4 * n ≤ length bs = omega (arith, ltb-false (length bs) (4 * n) p) in
        let a = ap (λ (k : ℕ). fields_in (replicate n float) k bs) (sym (add-zero q)) ∙ row_moved (replicate n float) q 0 bs ∙ ap (moved q) (floats_whole bs n 0 l) in
        cc (a, e)

-- what is cut short
pub cut_shorter : (at : ℕ) (bs : List ℕ) (o : ℕ) → Bytes bs → record_in at bs ≡ refused Cut o → length bs < 4135
unfolding record_in
cut_shorter at [] o y e = lit< tt
cut_shorter at (b ∷ bs) o y e = go (fields_in numbers at (b ∷ bs)) refl e
  where
    inner : (vs : List ℕ) (q : ℕ) (r : List ℕ) → fields_in numbers at (b ∷ bs) ≡ whole vs q r → (x : Fields) → fields_in (replicate (float_count (header_of vs)) float) q r ≡ x → with_floats (header_of vs) x ≡ refused Cut o → length (b ∷ bs) < 4135
    inner vs q r a (whole ws p rest) c e = cc
    inner vs q r a (stopped f x) c e =
        let g : f ≡ Cut = cc in
        let s = floats_short (float_count (header_of vs)) q r x (c ∙ ap (λ (f : Fault). stopped f x) g) in
        let w = row_made numbers at (b ∷ bs) vs q r y a in
        omega (arith, s, fields_count numbers at (b ∷ bs) vs q r 4 a refl, fields_count numbers at (b ∷ bs) vs q r 5 a refl, ap length w.same, length-append (row_bytes numbers vs) r, row_long numbers vs w.fits, most_numbers)

    go : (x : Fields) → fields_in numbers at (b ∷ bs) ≡ x → with_numbers x ≡ refused Cut o → length (b ∷ bs) < 4135
    go (stopped f x) a e =
        let g : f ≡ Cut = cc in
        omega (arith, row_cut numbers at (b ∷ bs) x y (a ∙ ap (λ (f : Fault). stopped f x) g), most_numbers)
    go (whole vs q r) a e = inner vs q r a (fields_in (replicate (float_count (header_of vs)) float) q r) refl e

-- ---- a reader that keeps 4,135 bytes sees what one that holds all sees
no_more : (at : ℕ) (bs : List ℕ) → record_in at bs ≡ none → length bs ≤ 0
unfolding record_in
no_more at [] e = omega arith
no_more at (b ∷ bs) e = absurd (go (fields_in numbers at (b ∷ bs)) e)
  where
    inner : (h : Header) (x : Fields) → with_floats h x ≡ none → ⊥
    inner h (whole ws p rest) e = cc
    inner h (stopped f o) e = cc

    go : (x : Fields) → with_numbers x ≡ none → ⊥
    go (stopped f o) e = cc
    go (whole vs q r) e = inner (header_of vs) (fields_in (replicate (float_count (header_of vs)) float) q r) e

fault_done : (f : Fault) (o : ℕ) → (f ≡ Cut → ⊥) → Done (refused f o)
fault_done f o n = record { some = λ e. cc; not-cut = λ p e. n cc }

done_or : (r : Reading) → Done r ⊎ ((r ≡ none) ⊎ ((o : ℕ) × (r ≡ refused Cut o)))
done_or (taken h xs ps qs next) = inl (record { some = λ e. cc; not-cut = λ o e. cc })
done_or none = inr (inl refl)
done_or (refused Cut o) = inr (inr (o, refl))
done_or (refused Malformed o) = inl (fault_done Malformed o (λ e. cc))
done_or (refused Count o) = inl (fault_done Count o (λ e. cc))
done_or (refused Flag o) = inl (fault_done Flag o (λ e. cc))

pub enough : (at : ℕ) (bs : List ℕ) → Bytes bs → record_in at (take 4135 bs) ≡ record_in at bs
enough at bs y = elim (done_or (record_in at (take 4135 bs))) [
  | inl d ↦ sym (ap (record_in at) (sym (take-append-drop 4135 bs)) ∙ more_behind at (take 4135 bs) (drop 4135 bs) d)
  | inr c ↦ elim c [ inl n ↦ all (few (no_more at (take 4135 bs) n)) | inr w ↦ all (cut_shorter at (take 4135 bs) w.0 (take_below 256 4135 bs (lit< tt) y) w.1) ]
]
  where
    few : length (take 4135 bs) ≤ 0 → length (take 4135 bs) < 4135
    few h = omega arith

    all : length (take 4135 bs) < 4135 → record_in at (take 4135 bs) ≡ record_in at bs
    all h = ap (record_in at) (take_all 4135 bs (omega (arith, length-take 4135 bs)))
