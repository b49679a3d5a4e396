-- Worked values of the score, each by computation: 01's two roundings of q, the limits, and a z that overflows.
-- Assumes nothing.
use Rattle.std.proofs.Common.{◌≡◌, false, pos, negsuc, refl}
use lib.Ieee.{nan, inf, binary32, of_bits, is_nan, lt, mul, sub, round}
use Rattle.logistic.specs.Table.{table}
use Rattle.logistic.specs.Score.{z_of, floor, q_of, u_of, units_at, score_of, refusal, answer_of}

-- "z = -2^-20 gives -1, -0 gives 0"
pub q_below : q_of (of_bits binary32 0xb580_0000) ≡ negsuc 0
unfolding q_of floor of_bits
q_below = refl

pub q_zero : q_of (of_bits binary32 0x8000_0000) ≡ pos 0
unfolding q_of floor of_bits
q_zero = refl

-- at -16 and 16 the table's ends decide: 2 and 2^24 - 2 units
pub at_low : score_of (of_bits binary32 0xc180_0000) ≡ round binary32 false 2 16777216
unfolding score_of units_at u_of q_of floor table of_bits lt
at_low = refl

pub at_high : score_of (of_bits binary32 0x4180_0000) ≡ round binary32 false 16777214 16777216
unfolding score_of units_at u_of q_of floor table of_bits lt
at_high = refl

pub at_nan : answer_of nan ≡ refusal 6 0
unfolding answer_of is_nan
at_nan = refl

-- the largest motion makes z an infinity, whose score is 1
pub overflow : z_of (of_bits binary32 0x7f7f_ffff) (of_bits binary32 0) ≡ inf false
unfolding z_of mul sub of_bits
overflow = refl

pub at_overflow : score_of (inf false) ≡ of_bits binary32 0x3f80_0000
unfolding score_of lt
at_overflow = refl
