-- `logistic::scaled` meets its contract: the count is a float exactly, and the quotient's fraction is n / 2 ^ 24.
-- Assumes nothing.
use Rattle.std.proofs.Common.{◌≡◌, ℕ, ◌*◌, true, false, pos, ap, ◌∙◌, true≢false, mul_assoc, mul_comm, mul-pos, lit<}
use lib.Ieee.{Float, nan, inf, fin, binary32, up, down, of_int, of_bits, div, round}
use lib.Ieee.Exact.{HasValue}
use lib.Ieee.Fits.{down_pos}
use lib.Ieee.Scale.{round_same}
use lib.Ieee.Back.{round_whole}
use Rattle.logistic.proofs.scaled.Goals as goal

quotient : (x : Float) (n : ℕ) → HasValue x false n 1 → div binary32 x (fin false 1 (pos 24)) ≡ round binary32 false n 16777216
unfolding div
quotient nan n v = absurd v
quotient (inf s) n v = absurd v
quotient (fin true m e) n v = absurd (true≢false v.0)
quotient (fin false m e) n v =
    round_same binary32 false (m * up e * 1) (16777216 * down e) n 16777216 (mul-pos {m = 16777216} {n = down e} (lit< tt) (down_pos e)) (lit< tt)
    (ap (λ (x : ℕ). x * 16777216) v.1 ∙ mul_assoc n (down e) 16777216 ∙ ap (λ (x : ℕ). n * x) (mul_comm (down e) 16777216))

pub returns : goal.returns
unfolding of_bits of_int
returns c = quotient (of_int binary32 (pos c.args.n)) c.args.n (round_whole binary32 false c.args.n c.requires)
