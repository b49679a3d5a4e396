-- `logistic::presence_score` meets its contract: the logistic's answer shows the score, and it refuses only a NaN.
-- Assumes nothing.
use Rattle.std.proofs.Common.{◌≡◌, Result, Ok, Err, ap, ◌∙◌}
use Rattle.std.specs.Result.{result_unwrap_or}
use lib.Ieee.{Float}
use Rattle.logistic.specs.Score.{paper, given, answer_of, z_of, presence_score}
use Rattle.logistic.specs.declared.NotANumber.{NotANumber}
use Rattle.logistic.proofs.Range.{refused_nan}
use Rattle.logistic.proofs.presence_score.Goals as goal

shown : (z : Float) (r : Result Float NotANumber) → paper r ≡ answer_of z → result_unwrap_or r z ≡ given (answer_of z)
shown z (Ok s) e = ap given e
shown z (Err n) e = refused_nan z e

pub returns : goal.returns
unfolding presence_score z_of
returns c = c.unwrap_or.ensures ∙ shown _ c.score.result c.score.ensures
