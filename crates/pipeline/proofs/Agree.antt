-- Any two replies that a promise allows agree: 01's numbers tell the replies apart. Assumes nothing.
use mathlib.Core.Path.{◌≡◌, refl, sym, ap, ◌∙◌}
use mathlib.Core.List.{List}
use lib.Ieee.{Float}
use Rattle.std.specs.Prelude.{Result}
use Rattle.buffer_rules.specs.declared.NotAccepted.{NotAccepted}
use Rattle.buffer_rules.proofs.Agree.{makings_agree}
use Rattle.window_buffer.proofs.Agree.{replies_agree}
use Rattle.slots.specs.Adding.{no_detectors, addition_number}
use Rattle.slots.specs.Adding as Set
use Rattle.slots.specs.declared.AddRefusal.{AddRefusal}
use Rattle.slots.specs.declared.Adding as Code
use Rattle.slots.proofs.Agree.{adding_agree}
use Rattle.pipeline.specs.Making.{Numbered, makes, adds}
use Rattle.pipeline.specs.Process.{Outcome, outcome}
use Rattle.pipeline.specs.declared.EventPipeline.{EventPipeline}
use Rattle.pipeline.specs.declared.Added.{Added}
use Rattle.pipeline.specs.declared.Processed.{Processed}

pub made_agree : (o : Numbered) (r r' : Result EventPipeline (NotAccepted EventPipeline)) → makes r ≡ o → makes r' ≡ o → r ≡ r'
made_agree o r r' e f =
    let h : makes r ≡ makes r' = e ∙ sym f in
    makings_agree r r' (ap (λ (x : Numbered). x.number) h) (ap (λ (x : Numbered). x.pipeline) h)

additions_agree : (a b : Result Unit AddRefusal) → addition_number a ≡ addition_number b → a ≡ b
additions_agree a b e =
    ap (λ (x : Code.Adding). x.reply)
    (adding_agree (Set.left (addition_number b) no_detectors) (record { reply = a; set = no_detectors }) (record { reply = b; set = no_detectors }) (λ t. record { number = e t; set = no_detectors }) refl)

pub added_agree : (o : Numbered) (r r' : Added) → adds r ≡ o → adds r' ≡ o → r ≡ r'
added_agree o r r' e f =
    let h : adds r ≡ adds r' = e ∙ sym f in
    let p : r.reply ≡ r'.reply = additions_agree r.reply r'.reply (ap (λ (x : Numbered). x.number) h) in
    λ t. record { reply = p t; pipeline = (h t).pipeline }

-- reply, counters, pipeline, events and all five lists
pub record Same (r r' : Processed) (A A' P P' B B' M M' W W' : List Float) : Type 0 where
  pub processed : r ≡ r'
  pub amplitudes : A ≡ A'
  pub phases : P ≡ P'
  pub baseline : B ≡ B'
  pub means : M ≡ M'
  pub variances : W ≡ W'

pub processed_agree : (o : Outcome) (r r' : Processed) (A A' P P' B B' M M' W W' : List Float) → outcome r A P B M W ≡ o → outcome r' A' P' B' M' W' ≡ o
    → Same r r' A A' P P' B B' M M' W W'
processed_agree o r r' A A' P P' B B' M M' W W' e f =
    let h : outcome r A P B M W ≡ outcome r' A' P' B' M' W' = e ∙ sym f in
    let p : r.reply ≡ r'.reply = replies_agree r.reply r'.reply (ap (λ (x : Outcome). x.reply) h) in
    record {
      processed = λ t. record { reply = p t; ids = (h t).ids; pipeline = (h t).pipeline; batch = (h t).batch };
      amplitudes = ap (λ (x : Outcome). x.amplitudes) h;
      phases = ap (λ (x : Outcome). x.phases) h;
      baseline = ap (λ (x : Outcome). x.baseline) h;
      means = ap (λ (x : Outcome). x.means) h;
      variances = ap (λ (x : Outcome). x.variances) h;
    }
