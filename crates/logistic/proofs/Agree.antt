-- Any two replies that a promise of this crate allows agree.
-- Assumes nothing.
use Rattle.std.proofs.Common.{◌≡◌, Result, Ok, Err, sym, refl, ap, ◌∙◌}
use lib.Ieee.{Float}
use Rattle.logistic.specs.Score.{Answer, taken, refusal, paper, answer_of, presence_score}
use Rattle.logistic.specs.declared.NotANumber.{NotANumber}

-- `paper` loses nothing: back from an answer on paper to the code's
abbrev unpaper : Answer → Result Float NotANumber
unpaper (taken n s) = Ok s
unpaper (refusal n place) = Err record {}

shown : (r : Result Float NotANumber) → unpaper (paper r) ≡ r
shown (Ok s) = refl
shown (Err e) = refl

pub score_agree : (z : Float) (r other : Result Float NotANumber) → paper r ≡ answer_of z → paper other ≡ answer_of z → r ≡ other
score_agree z r other p q = sym (shown r) ∙ ap unpaper (p ∙ sym q) ∙ shown other

pub presence_agree : (motion threshold r other : Float) → r ≡ presence_score motion threshold → other ≡ presence_score motion threshold → r ≡ other
presence_agree motion threshold r other p q = p ∙ sym q
