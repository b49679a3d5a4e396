-- More bytes behind a whole record, or behind a fault other than a cut, change nothing.
-- Assumes nothing.
use mathlib.Core.Path.{◌≡◌, refl, ap, ◌∙◌}
use mathlib.Core.List.{List, [], ◌∷◌, ◌++◌}
use Prim.Native.Nat.{ℕ}
use lib.ListN.{replicate}
use Rattle.records.specs.Fields.{float, Fields, whole, stopped, fields_in}
use Rattle.records.specs.Records.{numbers, header_of, float_count, Reading, none, refused, with_floats, with_numbers, record_in}
use Rattle.records.specs.declared.Fault.TheVariants.{Cut}
use Rattle.records.specs.declared.Header.{Header}
use Rattle.record_laws.proofs.Rows.{behind, row_stable}

-- an answer that more bytes leave as it is
pub record Done (r : Reading) : Type 0 where
  pub some : r ≡ none → ⊥
  pub not-cut : (o : ℕ) → r ≡ refused Cut o → ⊥

floats_behind : (cs : List ℕ) (h : Header) (r : Fields) → with_floats h (behind cs r) ≡ with_floats h r
floats_behind cs h (whole ws next rest) = refl
floats_behind cs h (stopped f o) = refl

numbers_behind : (cs : List ℕ) (r : Fields) → ((o : ℕ) → with_numbers r ≡ refused Cut o → ⊥) → with_numbers (behind cs r) ≡ with_numbers r
numbers_behind cs (stopped f o) h = refl
numbers_behind cs (whole vs q r) h =
    let fs = replicate (float_count (header_of vs)) float in
    ap (with_floats (header_of vs)) (row_stable fs q r cs (λ o e. h o (ap (with_floats (header_of vs)) e))) ∙ floats_behind cs (header_of vs) (fields_in fs q r)

pub more_behind : (at : ℕ) (bs cs : List ℕ) → Done (record_in at bs) → record_in at (bs ++ cs) ≡ record_in at bs
unfolding record_in
more_behind at [] cs d = absurd (d.some refl)
more_behind at (b ∷ bs) cs d =
    let f = fields_in numbers at (b ∷ bs) in
    ap with_numbers (row_stable numbers at (b ∷ bs) cs (λ o e. d.not-cut o (ap with_numbers e))) ∙ numbers_behind cs f d.not-cut
