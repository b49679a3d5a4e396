-- The same bytes further on in the input give the same answer, moved.
-- Assumes nothing.
use mathlib.Core.Path.{◌≡◌, refl, ap, ◌∙◌}
use mathlib.Core.List.{List, [], ◌∷◌, ◌++◌}
use Prim.Native.Nat.{ℕ, ◌+◌}
use lib.ListN.{length, drop, replicate}
use lib.Seq.{drop-append-add}
use Rattle.records.specs.Fields.{float, Fields, whole, stopped, fields_in}
use Rattle.records.specs.Records.{numbers, header_of, float_count, Reading, taken, none, refused, with_floats, with_numbers, record_in, record_at}
use Rattle.records.specs.declared.Header.{Header}
use Rattle.record_laws.proofs.Rows.{moved, row_moved}

-- an answer whose place, or offset, is k further on
abbrev pub move : ℕ → Reading → Reading
move k (taken h xs ps qs next) = taken h xs ps qs (k + next)
move k none = none
move k (refused f o) = refused f (k + o)

floats_moved : (k : ℕ) (h : Header) (r : Fields) → with_floats h (moved k r) ≡ move k (with_floats h r)
floats_moved k h (whole ws next rest) = refl
floats_moved k h (stopped f o) = refl

numbers_moved : (k : ℕ) (r : Fields) → with_numbers (moved k r) ≡ move k (with_numbers r)
numbers_moved k (stopped f o) = refl
numbers_moved k (whole vs q r) =
    let fs = replicate (float_count (header_of vs)) float in
    ap (with_floats (header_of vs)) (row_moved fs k q r) ∙ floats_moved k (header_of vs) (fields_in fs q r)

pub moved_by : (k at : ℕ) (bs : List ℕ) → record_in (k + at) bs ≡ move k (record_in at bs)
unfolding record_in
moved_by k at [] = refl
moved_by k at (b ∷ bs) = ap with_numbers (row_moved numbers k at (b ∷ bs)) ∙ numbers_moved k (fields_in numbers at (b ∷ bs))

-- behind other bytes
pub moved_behind : (pre input : List ℕ) (at : ℕ) → record_at (pre ++ input) (length pre + at) ≡ move (length pre) (record_at input at)
moved_behind pre input at = ap (record_in (length pre + at)) (drop-append-add pre input at) ∙ moved_by (length pre) at (drop at input)
