-- Two replies that a promise allows agree. Assumes nothing.
use Rattle.std.specs.Prelude.{Ok, Err}
use mathlib.Core.Path.{◌≡◌, refl, sym, ap, ◌∙◌}
use mathlib.Core.Bool.{true, cond}
use mathlib.Core.List.{List}
use Prim.Native.Nat.{◌≤◌}
use lib.Dec.{eqb}
use lib.ListN.{length}
use lib.Ieee.{Float}
use Rattle.detectors.specs.Answers.{Result, Answer, taken, refusal}
use Rattle.detectors.specs.Replies.{Made}
use Rattle.detectors.proofs.Agree.{read_agree, made_agree, moved_by, unsaid_said}
use Rattle.drift.specs.declared.BaselineDriftConfig.{BaselineDriftConfig}
use Rattle.drift.specs.declared.DriftState.{DriftState}
use Rattle.detectors.specs.declared.Moved.{Moved}
use Rattle.drift.specs.declared.DriftRefusal.TheVariants.{StoreShort, OutOfRange, TooLong}
use Rattle.drift.specs.Settings.{paper_made, drift_new}
use Rattle.drift.specs.Drift.{most, drift_in, drift_move, Outcome, Reply, paper, drift_step}
use Rattle.drift.proofs.Steps.{judged}

-- the reply that an answer on paper came from
unread : Answer (Result DriftState) → Reply
unread (taken r) = Ok (moved_by r)
unread (refusal n) = Err (cond (eqb n 13) StoreShort (cond (eqb n 14) OutOfRange TooLong))

back : (r : Reply) → unread (paper r) ≡ r
unfolding unread
back (Ok m) = rw (unsaid_said m.first, unsaid_said m.second)
back (Err StoreShort) = refl
back (Err OutOfRange) = refl
back (Err TooLong) = refl

-- `with_config`
pub drift_made_agree : (c : BaselineDriftConfig) (r r' : Made DriftState) → paper_made r ≡ drift_new c → paper_made r' ≡ drift_new c → r ≡ r'
drift_made_agree c r r' = made_agree (drift_new c) r r'

-- `on_window`: the reply and the store
abbrev pub outcome : Reply → List Float → Outcome
outcome r store = record { reply = paper r; store = store }

abbrev pub judged_by : Moved DriftState → Reply
judged_by m = Ok m

pub drift_agree : (c : BaselineDriftConfig) (s : DriftState) (cur store : List Float) (r r' : Reply) (l l' : List Float)
    → outcome r l ≡ drift_step c s cur store → outcome r' l' ≡ drift_step c s cur store → (r ≡ r') × (l ≡ l')
drift_agree c s cur store r r' l l' p q =
    (read_agree paper unread back (drift_step c s cur store).reply r r' (ap (λ (o : Outcome). o.reply) p) (ap (λ (o : Outcome). o.reply) q), ap (λ (o : Outcome). o.store) (p ∙ sym q))

-- a window that no reply refuses is judged: the reply is 0's, the state, the judgements and the store those of `drift_move`
pub taken_judged : (c : BaselineDriftConfig) (s : DriftState) (cur store : List Float) → drift_in c s ≡ true → length cur ≤ most → most ≤ length store → (r : Reply) (l : List Float)
    → outcome r l ≡ drift_step c s cur store → (r ≡ judged_by (drift_move c s cur store).moved) × (l ≡ (drift_move c s cur store).store)
taken_judged c s cur store good few room r l e =
    drift_agree c s cur store r (judged_by (drift_move c s cur store).moved) l (drift_move c s cur store).store e (judged c s cur store room good few (drift_move c s cur store) refl)
