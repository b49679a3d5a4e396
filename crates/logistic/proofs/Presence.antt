-- The presence score of a window whose motion and threshold are finite: it is the score of z, a number from 0 to 1.
-- It never falls as the motion rises, and never rises as the threshold does. Assumes nothing.
use Rattle.std.proofs.Common.{◌≡◌, false, T, sym, refl, ap, ◌∙◌}
use lib.Ieee.{Float, binary32, sub, mul, le, is_nan, of_bits}
use lib.Ieee.Scale.{finite}
use Rattle.logistic.specs.Score.{z_of, score_of, taken, answer_of, given, presence_score}
use Rattle.floats.proofs.Exact.{sub_number}
use Rattle.floats.proofs.Monotone.{sub_rising, sub_falling}
use Rattle.logistic.proofs.Twenty.{twenty, times_number, times_rising}
use Rattle.logistic.proofs.Range.{scored}
use Rattle.logistic.proofs.Rising.{score_rising}
use Rattle.logistic.proofs.Exact.{score_number, score_least, score_most}

z_is : (motion threshold : Float) → z_of motion threshold ≡ mul binary32 (sub binary32 motion threshold) twenty
unfolding z_of of_bits
z_is motion threshold = refl

-- a finite motion and a finite threshold, as every accepted one is, give a z that is no NaN; it may be an infinity
pub z_number : (motion threshold : Float) → T (finite motion) → T (finite threshold) → is_nan (z_of motion threshold) ≡ false
z_number motion threshold p q = ap is_nan (z_is motion threshold) ∙ times_number binary32 (sub binary32 motion threshold) (sub_number binary32 motion threshold p q)

-- so the logistic does not refuse it
pub presence_taken : (motion threshold : Float) → T (finite motion) → T (finite threshold) → answer_of (z_of motion threshold) ≡ taken 0 (score_of (z_of motion threshold))
presence_taken motion threshold p q = sym (scored (z_of motion threshold) (z_number motion threshold p q))

pub presence_is : (motion threshold : Float) → T (finite motion) → T (finite threshold) → presence_score motion threshold ≡ score_of (z_of motion threshold)
unfolding presence_score
presence_is motion threshold p q = ap given (presence_taken motion threshold p q)

pub presence_number : (motion threshold : Float) → T (finite motion) → T (finite threshold) → is_nan (presence_score motion threshold) ≡ false
presence_number motion threshold p q = ap is_nan (presence_is motion threshold p q) ∙ score_number (z_of motion threshold)

pub presence_range : (motion threshold : Float) → T (finite motion) → T (finite threshold)
    → T (le (of_bits binary32 0) (presence_score motion threshold)) × T (le (presence_score motion threshold) (of_bits binary32 0x3f80_0000))
presence_range motion threshold p q = rw (presence_is motion threshold p q) (score_least (z_of motion threshold), score_most (z_of motion threshold))

-- a larger motion never gives a smaller score
pub presence_rising : (motion motion' threshold : Float) → T (finite motion) → T (finite motion') → T (finite threshold) → T (le motion motion')
    → T (le (presence_score motion threshold) (presence_score motion' threshold))
presence_rising motion motion' threshold p q r h =
    rw (presence_is motion threshold p r, presence_is motion' threshold q r)
    (score_rising (z_of motion threshold) (z_of motion' threshold)
    (rw (z_is motion threshold, z_is motion' threshold) (times_rising binary32 (sub binary32 motion threshold) (sub binary32 motion' threshold) (sub_rising binary32 motion motion' threshold p q r h))))

-- a larger threshold never gives a larger score
pub presence_falling : (motion threshold threshold' : Float) → T (finite motion) → T (finite threshold) → T (finite threshold') → T (le threshold threshold')
    → T (le (presence_score motion threshold') (presence_score motion threshold))
presence_falling motion threshold threshold' p q r h =
    rw (presence_is motion threshold' p r, presence_is motion threshold p q)
    (score_rising (z_of motion threshold') (z_of motion threshold)
    (rw (z_is motion threshold', z_is motion threshold) (times_rising binary32 (sub binary32 motion threshold') (sub binary32 motion threshold) (sub_falling binary32 motion threshold threshold' p q r h))))
