-- The logistic score of a float, on exact numbers: document 01, "Logistic table", sentence by sentence. Definitions only.
use Rattle.std.specs.Prelude.{ℕ, ◌+◌, ◌-◌, ◌*◌, ◌/◌, ◌%◌, Bool, true, false, cond, ℤ, pos, negsuc, ◌+ℤ◌, neg_ℤ, from_bits, is_nan, nat_lt, slice_index, Float, Result, Ok, Err}
use Rattle.std.specs.Float.{nan, inf, fin, binary32}
use Rattle.std.specs.Float.Ieee.{up, down, lt, mul, sub, round}
use Rattle.logistic.specs.Table.{table}
use Rattle.logistic.specs.declared.NotANumber.{NotANumber}

-- "z = (motion - presence_threshold) * 20, in f32"
unfoldable pub z_of : Float → Float → Float
z_of motion threshold = mul binary32 (sub binary32 motion threshold) (from_bits binary32 0x41a0_0000)

-- a number n / d, negative where the sign is true, rounded toward minus infinity: the floor of -x is -(the ceiling of x)
unfoldable pub floor : Bool → ℕ → ℕ → ℤ
floor false n d = pos (n / d)
floor true n d = neg_ℤ (pos ((n + (d - 1)) / d))

-- "q is z times 65,536 rounded toward minus infinity"
unfoldable pub q_of : Float → ℤ
unfolding floor
q_of nan = pos 0
q_of (inf s) = pos 0
q_of (fin s m e) = floor s (m * up e * 65536) (down e)

-- "u = q + 1,048,576", which is no less than 0 since z is no less than -16
abbrev pub natural : ℤ → ℕ
natural (pos n) = n
natural (negsuc n) = 0

unfoldable pub u_of : Float → ℕ
unfolding q_of
u_of z = natural (q_of z +ℤ pos 1048576)

-- "The table has 2,049 whole numbers": entry k of it
abbrev pub entry_at : ℕ → ℕ
entry_at k = slice_index table k

-- "k = u div 1,024, r = u mod 1,024": "Units are entry k, plus (entry k+1 minus entry k)*r div 1,024 when r > 0"
unfoldable pub units_at : ℕ → ℕ
units_at u = let k = u / 1024 in let r = u % 1024 in entry_at k + cond (nat_lt 0 r) ((entry_at (k + 1) - entry_at k) * r / 1024) 0

-- "the score is units/2^24, exact in f32"
abbrev pub score_for : ℕ → Float
score_for n = round binary32 false n 16777216

-- "Below -16 the score is 0, above 16 it is 1. Otherwise" by the units
abbrev pub sixteen : Bool → Float
sixteen s = fin s 1 (pos 4)

unfoldable pub score_of : Float → Float
unfolding units_at u_of
score_of z = cond (lt z (sixteen true)) (from_bits binary32 0) (cond (lt (sixteen false) z) (from_bits binary32 0x3f80_0000) (score_for (units_at (u_of z))))

-- An answer on paper: the reply number, with the score where z is taken and with the place where it is refused
pub data Answer : Type 0 where
  taken : ℕ → Float → Answer
  refusal : ℕ → ℕ → Answer

-- Reply 0: "taken". Reply 6: "NaN given to the logistic", and "Place for 6 .. 0 for the logistic"
unfoldable pub answer_of : Float → Answer
unfolding score_of
answer_of z = cond (is_nan z) (refusal 6 0) (taken 0 (score_of z))

-- each case of the code's answer on paper
abbrev pub paper : Result Float NotANumber → Answer
paper (Ok s) = taken 0 s
paper (Err e) = refusal 6 0

-- A window's presence score: the score of its z. Where the logistic refuses it is the NaN, as in the Rust.
abbrev pub given : Answer → Float
given (taken n s) = s
given (refusal n place) = nan

unfoldable pub presence_score : Float → Float → Float
unfolding z_of answer_of
presence_score motion threshold = given (answer_of (z_of motion threshold))
