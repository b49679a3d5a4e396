-- Histories: lists of windows, newest first. `says past` is what a detector said of the newest window of `past`.
use Rattle.std.specs.Prelude.{◌≡◌, Bool, true, false, cond, List, [], ◌∷◌, ℕ, zero, suc, ◌+◌, ◌≤◌, ◌<◌, T, get_or, Float}
use Rattle.std.specs.Float.{nan}
use Rattle.std.specs.Float.Ieee.{lt}
use Rattle.detectors.specs.declared.quality.QualityConfig.{QualityConfig}
use Rattle.detectors.specs.Answers.{Kind, Said, quiet, event}

-- how many windows came after the previous event; all of them, if there was none
abbrev pub after : Said → ℕ → ℕ
after quiet n = n + 1
after (event k x) n = 0

unfoldable pub since : (List Float → Said) → List Float → ℕ
since says [] = 0
since says (x ∷ past) = after (says (x ∷ past)) (since says past)

-- "the last enter (exit) windows, all after the previous event, met the limit": `count` of them, where `age` came after that event
pub record LastMet (limit : Float → Bool) (count age : ℕ) (past : List Float) : Type 0 where
  pub after-event : count ≤ age
  pub met : (i : ℕ) → i < count → T (limit (get_or past i nan))

-- the events, newest first
abbrev pub noted : Said → List Said → List Said
noted quiet l = l
noted (event k x) l = event k x ∷ l

unfoldable pub events : (List Float → Said) → List Float → List Said
events says [] = []
events says (x ∷ past) = noted (says (x ∷ past)) (events says past)

-- Newest first: events of the two kinds in turn, the first of the kind `first`; the bool says whether the newest is of that kind
abbrev pub Alternating : Kind → Kind → Bool → List Said → Type 0
Alternating first second false [] = Unit
Alternating first second true [] = ⊥
Alternating first second b (quiet ∷ l) = ⊥
Alternating first second true (event k x ∷ l) = (k ≡ first) × Alternating first second false l
Alternating first second false (event k x ∷ l) = (k ≡ second) × Alternating first second true l

-- the newest window's place in its stretch of low windows, from 1; 0 where it isn't low
unfoldable pub lows : QualityConfig → List Float → ℕ
lows c [] = 0
lows c (q ∷ past) = cond (lt q c.drop_threshold) (lows c past + 1) 0

-- how many of the newest n windows had an event
abbrev pub one : Said → ℕ
one quiet = 0
one (event k x) = 1

unfoldable pub times : (List Float → Said) → ℕ → List Float → ℕ
times says zero past = 0
times says (suc n) [] = 0
times says (suc n) (x ∷ past) = one (says (x ∷ past)) + times says n past
