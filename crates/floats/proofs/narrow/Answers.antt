-- `floats::narrow` meets its contract. Assumes nothing.
use Rattle.std.proofs.Common.{◌≡◌, ℕ, ◌+◌, ◌-◌, ◌≤◌, true, false, not, T, sym, ap, ◌∙◌, subst, add-sub_of_le, add_comm, zero-add}
use lib.Ieee.{Float, nan, binary32, binary64, is_nan, of_bits, nan_bits, to_bits}
use lib.Ieee.Bits.{of_bits-to_bits, nan_bits_is}
use Rattle.floats.specs.Convert.{convert}
use Rattle.floats.specs.Parts.{Narrowed}
use Rattle.floats.proofs.Pattern.{convert_number}
use Rattle.floats.proofs.Numbers.{not-false, the_nan, Number, positive_in, negative_in}
use Rattle.floats.proofs.narrow.Goals as goal
use Rattle.floats.proofs.narrow.Goals.{Else-is_nan}

positive-is : (x : Float) (r : ℕ) → Number x → Narrowed (to_bits binary64 x) r → of_bits binary32 r ≡ convert binary32 x
positive-is x r n w = ap (of_bits binary32) (sym (zero-add r)) ∙ w.says false ∙ ap (λ (b : ℕ). convert binary32 (of_bits binary64 b)) (zero-add (to_bits binary64 x)) ∙ ap (convert binary32) (of_bits-to_bits binary64 x n.1)

negative-is : (x : Float) (r : ℕ) → Number x → 9223372036854775808 ≤ to_bits binary64 x → Narrowed (to_bits binary64 x - 9223372036854775808) r → of_bits binary32 (r + 2147483648) ≡ convert binary32 x
negative-is x r n h w =
    ap (of_bits binary32) (add_comm r 2147483648) ∙ w.says true ∙ ap (λ (b : ℕ). convert binary32 (of_bits binary64 b)) (add-sub_of_le h) ∙ ap (convert binary32) (of_bits-to_bits binary64 x n.1)

defined : (x : Float) (b : ℕ) → Number x → of_bits binary32 b ≡ convert binary32 x → T (not (nan_bits binary32 b))
defined x b n e = not-false (nan_bits binary32 b) (nan_bits_is binary32 b ∙ ap is_nan e ∙ convert_number binary32 x n.0)

of_nan : (x : Float) → x ≡ nan → nan ≡ convert binary32 x
unfolding convert
of_nan x e = ap (convert binary32) (sym e)

number : (c : Else-is_nan) → Number c.args.x
number c = (sym c.is_nan.ensures.value ∙ c.if-is_nan.false, subst T (sym c.well_formed.0.1) tt)

pub returns-then-is_nan : goal.returns-then-is_nan
unfolding of_bits
returns-then-is_nan c = let x = c.args.x in of_nan x (the_nan x (sym c.is_nan.ensures.value ∙ c.if-is_nan.true))

pub narrow_magnitude-r-requires : goal.narrow_magnitude-r-requires
narrow_magnitude-r-requires c = positive_in c.args.x (number c.before) c.if-b-lt-SIGN.true

pub float_from_bits-result : goal.float_from_bits-result
float_from_bits-result c =
    let x = c.args.x in
    defined x c.narrow_magnitude-r.result (number c.before.before) (positive-is x c.narrow_magnitude-r.result (number c.before.before) c.narrow_magnitude-r.ensures)

pub returns-then-b-lt-SIGN : goal.returns-then-b-lt-SIGN
returns-then-b-lt-SIGN c = positive-is c.args.x c.narrow_magnitude-r.result (number c.before.before) c.narrow_magnitude-r.ensures

pub narrow_magnitude-r-requires-2 : goal.narrow_magnitude-r-requires-2
narrow_magnitude-r-requires-2 c = negative_in c.args.x (number c.before) c.if-b-lt-SIGN.false

pub float_from_bits-result-2 : goal.float_from_bits-result-2
float_from_bits-result-2 c =
    let x = c.args.x in
    defined x (c.narrow_magnitude-r-2.result + 2147483648) (number c.before.before) (negative-is x c.narrow_magnitude-r-2.result (number c.before.before) c.if-b-lt-SIGN.false c.narrow_magnitude-r-2.ensures)

pub returns : goal.returns
returns c = negative-is c.args.x c.narrow_magnitude-r-2.result (number c.before.before) c.if-b-lt-SIGN.false c.narrow_magnitude-r-2.ensures
