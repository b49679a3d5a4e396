-- `floats::root` meets its contract. Assumes nothing.
use Rattle.std.proofs.Common.{◌≡◌, ℕ, ◌<◌, T, sym, ap, ◌∙◌, subst, arith}
use lib.Ieee.{Float, nan, binary64, is_nan, of_bits, nan_bits, to_bits}
use lib.Ieee.Bits.{of_bits-to_bits, nan_bits_is}
use Rattle.floats.specs.Sqrt.{sqrt}
use Rattle.floats.proofs.Numbers.{not-false, the_nan, Number}
use Rattle.floats.proofs.Signs.{positive_number, at_zero, inf_or_zero, below_zero}
use Rattle.floats.proofs.root.Goals as goal
use Rattle.floats.proofs.root.Goals.{Else-is_nan}

root-of-nan : (x : Float) → x ≡ nan → nan ≡ sqrt binary64 x
unfolding sqrt
root-of-nan x e = ap (sqrt binary64) (sym e)

number : (c : Else-is_nan) → Number c.args.x
number c = (sym c.is_nan.ensures.value ∙ c.if-is_nan.false, subst T (sym c.well_formed.0.1) tt)

pub returns-then-is_nan : goal.returns-then-is_nan
unfolding of_bits
returns-then-is_nan c = let x = c.args.x in root-of-nan x (the_nan x (sym c.is_nan.ensures.value ∙ c.if-is_nan.true))

pub returns-then-b-eq0 : goal.returns-then-b-eq0
returns-then-b-eq0 c =
    let x = c.args.x in
    sym at_zero ∙ ap (λ (b : ℕ). sqrt binary64 (of_bits binary64 b)) (sym c.if-b-eq0.true) ∙ ap (sqrt binary64) (of_bits-to_bits binary64 x (number c.before).1)

pub float_from_bits-result : goal.float_from_bits-result
float_from_bits-result c =
    let b = to_bits binary64 c.args.x in
    let n = c.if-b-eq0.false in
    let p : 0 < b = omega arith in
    let r = c.root_positive.result in
    not-false (nan_bits binary64 r) (nan_bits_is binary64 r ∙ ap is_nan c.root_positive.ensures ∙ positive_number b p c.if-b-lt-INFINITY.true)

pub returns-then-b-lt-INFINITY : goal.returns-then-b-lt-INFINITY
returns-then-b-lt-INFINITY c = c.root_positive.ensures ∙ ap (sqrt binary64) (of_bits-to_bits binary64 c.args.x (number c.before.before.before).1)

pub returns-then-b-le-SIGN : goal.returns-then-b-le-SIGN
returns-then-b-le-SIGN c = inf_or_zero c.args.x (number c.before.before.before) c.if-b-lt-INFINITY.false c.if-b-le-SIGN.true

pub returns : goal.returns
unfolding of_bits
returns c = sym (below_zero c.args.x (number c.before.before.before) c.if-b-le-SIGN.false)
