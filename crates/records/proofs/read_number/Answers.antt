-- Reading a number: each way out of the loop, and each sum and product.
use Rattle.std.proofs.Common.{◌≡◌, refl, sym, ◌∙◌, ◌⊎◌, inl, inr, arith, rules, ◌-◌, ◌<◌, ◌≤◌, length, get_or}
use Rattle.records.proofs.ReadingNumbers.{wrapped_none, cut, empty, whole, fits_last, onward, weighs, is-nine, tenth-one, tenth-bad}
use Rattle.records.proofs.read_number.Goals as goal

pub loop-i-init : goal.loop-i-init
loop-i-init c = record { turns = search rules; place = search rules; power-is = refl; small = search rules; same = wrapped_none _ }

pub returns-in_default : goal.returns-in_default
returns-in_default c = let l : length c.args.input.now ≤ c.loop-i.p = search rules in cut c.loop-i.invariant l

pub returns-then-i-gt0 : goal.returns-then-i-gt0
returns-then-i-gt0 c =
    let l : c.loop-i.p < length c.args.input.now = search rules in
    let e : c.in-Some.field-0.now ≡ get_or c.args.input.now c.loop-i.p 0 = search rules in
    empty c.loop-i.invariant c.loop-i-test.true l (sym (c.from-b.ensures ∙ e) ∙ c.if-b-eq0.true) (omega arith)

pub overflow_mul-result : goal.overflow_mul-result
overflow_mul-result c = omega (arith, fits_last c.loop-i.invariant c.loop-i-test.true c.from-b.result c.if-b-lt128.true)

pub overflow_add-result : goal.overflow_add-result
overflow_add-result c = omega (arith, fits_last c.loop-i.invariant c.loop-i-test.true c.from-b.result c.if-b-lt128.true)

pub returns-then-b-lt128 : goal.returns-then-b-lt128
returns-then-b-lt128 c =
    let l : c.loop-i.p < length c.args.input.now = search rules in
    let e : c.in-Some.field-0.now ≡ get_or c.args.input.now c.loop-i.p 0 = search rules in
    let b = c.from-b.ensures ∙ e in
    let o : (c.loop-i.i ≡ 0) ⊎ (0 < get_or c.args.input.now c.loop-i.p 0) = elim c.else-b-eq0.either [ inl w ↦ inl (omega arith) | inr w ↦ inr (omega (arith, b)) ] in
    rw b (whole c.loop-i.invariant c.loop-i-test.true l (rw b at c.if-b-lt128.true) o)

pub overflow_mul-value : goal.overflow_mul-value
overflow_mul-value c =
    let e : c.in-Some.field-0.now ≡ get_or c.args.input.now c.loop-i.p 0 = search rules in
    omega (arith, fits_last c.loop-i.invariant c.loop-i-test.true (c.from-b.result - 128) (omega (arith, c.from-b.ensures, e, (c.type_inv.input c.loop-i.p).fits)))

pub overflow_add-value : goal.overflow_add-value
overflow_add-value c =
    let e : c.in-Some.field-0.now ≡ get_or c.args.input.now c.loop-i.p 0 = search rules in
    omega (arith, fits_last c.loop-i.invariant c.loop-i-test.true (c.from-b.result - 128) (omega (arith, c.from-b.ensures, e, (c.type_inv.input c.loop-i.p).fits)))

pub overflow_mul-weight : goal.overflow_mul-weight
overflow_mul-weight c = omega (arith, weighs c.loop-i.invariant c.loop-i-test.true)

pub loop-i-preserved : goal.loop-i-preserved
loop-i-preserved c =
    let l : c.loop-i.p < length c.args.input.now = search rules in
    let e : c.in-Some.field-0.now ≡ get_or c.args.input.now c.loop-i.p 0 = search rules in
    let b = c.from-b.ensures ∙ e in
    rw b (onward c.loop-i.invariant c.loop-i-test.true l (rw b at c.if-b-lt128.false) (c.type_inv.input c.loop-i.p).fits)

pub returns-in_default-get : goal.returns-in_default-get
returns-in_default-get c = let l : length c.args.input.now ≤ c.loop-i.p = search rules in cut c.loop-i.invariant l

pub returns-then-tenth-ne1 : goal.returns-then-tenth-ne1
returns-then-tenth-ne1 c =
    let l : c.loop-i.p < length c.args.input.now = search rules in
    let e : c.in-Some-get.field-0.now ≡ get_or c.args.input.now c.loop-i.p 0 = search rules in
    tenth-bad c.loop-i.invariant (is-nine c.loop-i.invariant c.loop-i-test.false) l (λ o. c.if-tenth-ne1.true (e ∙ o))

pub returns : goal.returns
returns c =
    let l : c.loop-i.p < length c.args.input.now = search rules in
    let e : c.in-Some-get.field-0.now ≡ get_or c.args.input.now c.loop-i.p 0 = search rules in
    tenth-one c.loop-i.invariant (is-nine c.loop-i.invariant c.loop-i-test.false) l (sym e ∙ c.if-tenth-ne1.false)
