-- Any two replies that a promise allows agree: 01's numbers tell the replies apart. Assumes nothing.
use mathlib.Core.Path.{◌≡◌, refl, sym, ap, ◌∙◌}
use mathlib.Core.Bool.{cond}
use mathlib.Core.List.{List}
use Prim.Native.Nat.{ℕ}
use lib.Dec.{eqb}
use lib.Ieee.{Float}
use Rattle.std.specs.Prelude.{Result, Ok, Err}
use Rattle.slots.specs.declared.AddRefusal.{AddRefusal}
use Rattle.slots.specs.declared.AddRefusal.TheVariants as adds
use Rattle.slots.specs.declared.Adding as Code
use Rattle.slots.specs.declared.Refusal.TheVariants.{StoreShort, OutOfRange, TooLong, NoNumber}
use Rattle.slots.specs.declared.Judged.{Judged}
use Rattle.slots.specs.Adding.{Adding, addition_number, adding}
use Rattle.slots.specs.Judging.{Outcome, Reply, paper, outcome}

-- the reply with a number
reply_of : ℕ → Reply
reply_of n =
    cond (eqb n 13) (Err StoreShort)
    (cond (eqb n 14) (Err OutOfRange) (cond (eqb n 5) (Err TooLong) (cond (eqb n 8) (Err NoNumber) (Ok tt))))

back : (r : Reply) → reply_of (paper r) ≡ r
unfolding reply_of
back (Ok u) = refl
back (Err StoreShort) = refl
back (Err OutOfRange) = refl
back (Err TooLong) = refl
back (Err NoNumber) = refl

pub judged_agree : (o : Outcome) (r r' : Judged) (l l' : List Float) → outcome r l ≡ o → outcome r' l' ≡ o → (r ≡ r') × (l ≡ l')
judged_agree o r r' l l' e f =
    let h : outcome r l ≡ outcome r' l' = e ∙ sym f in
    let p : r.reply ≡ r'.reply = sym (back r.reply) ∙ ap (λ (x : Outcome). reply_of x.number) h ∙ back r'.reply in
    (λ t. record { reply = p t; ids = (h t).ids; set = (h t).set; batch = (h t).batch }, ap (λ (x : Outcome). x.store) h)

addition_of : ℕ → Result (Unit {0}) AddRefusal
addition_of n = cond (eqb n 14) (Err adds.OutOfRange) (cond (eqb n 1) (Err adds.NotAccepted) (cond (eqb n 15) (Err adds.KindThere) (Ok tt)))

addition_back : (a : Result (Unit {0}) AddRefusal) → addition_of (addition_number a) ≡ a
unfolding addition_of
addition_back (Ok u) = refl
addition_back (Err adds.OutOfRange) = refl
addition_back (Err adds.NotAccepted) = refl
addition_back (Err adds.KindThere) = refl

pub adding_agree : (o : Adding) (r r' : Code.Adding) → adding r ≡ o → adding r' ≡ o → r ≡ r'
adding_agree o r r' e f =
    let h : adding r ≡ adding r' = e ∙ sym f in
    let p : r.reply ≡ r'.reply = sym (addition_back r.reply) ∙ ap (λ (x : Adding). addition_of x.number) h ∙ addition_back r'.reply in
    λ t. record { reply = p t; set = (h t).set }
