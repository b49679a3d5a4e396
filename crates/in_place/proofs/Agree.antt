-- Any two replies that a promise allows agree, and so do the counters behind the reference. Assumes nothing.
use mathlib.Core.Path.{◌≡◌, sym, ap, ◌∙◌}
use mathlib.Core.List.{List}
use lib.Ieee.{Float}
use Rattle.std.specs.Prelude.{ℕ, Option}
use Rattle.rvcsi_core.specs.Counters.{minted}
use Rattle.rvcsi_core.specs.declared.ids.Ids.{Ids}
use Rattle.rvcsi_core.specs.declared.ids.Minted.{Minted}
use Rattle.pipeline.specs.Process.{Outcome}
use Rattle.pipeline.specs.declared.Processed.{Processed}
use Rattle.pipeline.proofs.Agree.{processed_agree}
use Rattle.pipeline.proofs.Agree as By-value
use Rattle.in_place.specs.Lent.{together, lent}
use Rattle.in_place.specs.declared.Answered.{Answered}

-- of `next_window` and `next_event`: the number and the counters
pub taken_agree : (m : Minted) (t t' : Option ℕ) (i i' : Ids) → minted t i ≡ m → minted t' i' ≡ m → (t ≡ t') × (i ≡ i')
taken_agree m t t' i i' e f =
    let h : minted t i ≡ minted t' i' = e ∙ sym f in
    (ap (λ (x : Minted). x.taken) h, ap (λ (x : Minted). x.ids) h)

-- of `process_frame` and `flush`: the counters, what is returned, and all five lists
pub record Same (i i' : Ids) (r r' : Answered) (A A' P P' B B' M M' W W' : List Float) : Type 0 where
  pub ids : i ≡ i'
  pub answered : r ≡ r'
  pub lists : By-value.Same (together i r) (together i' r') A A' P P' B B' M M' W W'

pub answered_agree : (o : Outcome) (i i' : Ids) (r r' : Answered) (A A' P P' B B' M M' W W' : List Float) → lent i r A P B M W ≡ o → lent i' r' A' P' B' M' W' ≡ o
    → Same i i' r r' A A' P P' B B' M M' W W'
answered_agree o i i' r r' A A' P P' B B' M M' W W' e f =
    let s = processed_agree o (together i r) (together i' r') A A' P P' B B' M M' W W' e f in
    record {
      ids = ap (λ (x : Processed). x.ids) s.processed;
      answered = λ t. record { reply = (s.processed t).reply; pipeline = (s.processed t).pipeline; batch = (s.processed t).batch };
      lists = s;
    }
