-- `floats::root_digits` meets its contract. The invariant: q is the whole root of the i leading pairs of digits of a, r what its square leaves, and w the pairs to come. Assumes nothing.
use Rattle.std.proofs.Common.{◌≡◌, ℕ, ◌+◌, ◌-◌, ◌*◌, ◌/◌, ◌%◌, ◌^◌, ◌<◌, ◌≤◌, sym, ap, ◌∙◌, subst, lt_of_lt_of_le, mul_assoc, mul_comm, pow-suc, add-one, arith, pow_mono}
use Rattle.floats.proofs.Squares.{sq_twice, sq_odd}
use Rattle.floats.proofs.root_digits.Invariants.{So}
use Rattle.floats.proofs.root_digits.Goals as goal
use Rattle.floats.proofs.root_digits.Goals.{then-t-s, else-t-s}

four : (a i : ℕ) → a * 4 ^ (i + 1) ≡ 4 * (a * 4 ^ i)
four a i = ap (λ (x : ℕ). a * 4 ^ x) (add-one i) ∙ ap (λ (x : ℕ). a * x) (pow-suc 4 i) ∙ sym (mul_assoc a (4 ^ i) 4) ∙ mul_comm (a * 4 ^ i) 4

two : (i : ℕ) → 2 ^ (i + 1) ≡ 2 ^ i * 2
two i = ap (λ (x : ℕ). 2 ^ x) (add-one i) ∙ pow-suc 2 i

module _ {a q r w i : ℕ} (s : So a q r w i) (l : i < 54) where
  bound : q < 2 ^ 53
  bound = let k : i ≤ 53 = omega arith in lt_of_lt_of_le s.digits (pow_mono k)

  zero-digit : r * 4 + w / 4611686018427387904 < q * 4 + 1 → So a (q * 2) (r * 4 + w / 4611686018427387904) (w * 4 % 18446744073709551616) (i + 1)
  zero-digit h =
      let e = four a i in
      let z : q * 2 * (q * 2) ≡ 4 * (q * q) = sq_twice q in
      let p : 2 ^ (i + 1) ≡ 2 ^ i * 2 = two i in
      record { square = omega arith; rest = omega arith; digits = omega arith; few = omega arith; word = omega arith }

  one-digit : q * 4 + 1 ≤ r * 4 + w / 4611686018427387904 → So a (q * 2 + 1) (r * 4 + w / 4611686018427387904 - (q * 4 + 1)) (w * 4 % 18446744073709551616) (i + 1)
  one-digit h =
      let e = four a i in
      let z : (q * 2 + 1) * (q * 2 + 1) ≡ 4 * (q * q) + 4 * q + 1 = sq_odd q in
      let p : 2 ^ (i + 1) ≡ 2 ^ i * 2 = two i in
      record { square = omega arith; rest = omega arith; digits = omega arith; few = omega arith; word = omega arith }

pub overflow_mul-t : goal.overflow_mul-t
overflow_mul-t c = let b = bound c.loop.invariant (omega arith) in record { fits = omega arith }

pub overflow_add-t : goal.overflow_add-t
overflow_add-t c = let b = bound c.loop.invariant (omega arith) in record { fits = omega arith }

pub overflow_mul-s : goal.overflow_mul-s
overflow_mul-s c = let b = bound c.loop.invariant (omega arith) in record { fits = omega arith }

pub overflow_add-s : goal.overflow_add-s
overflow_add-s c = let b = bound c.loop.invariant (omega arith) in record { fits = omega arith }

pub loop-preserved : goal.loop-preserved
loop-preserved c =
    let l = c.loop in
    let a = c.args.a in
    let w' = l.w * 4 % 18446744073709551616 in
    elim c.if-t-s.branch [
      | then-t-s u ↦ subst (λ (q : ℕ). So a q c.if-t-s.r w' (l.counter + 1)) (sym u.q-is) (subst (λ (r : ℕ). So a (l.q * 2) r w' (l.counter + 1)) (sym u.r-is) (zero-digit l.invariant (omega arith) u.if-t-s.true))
      | else-t-s u ↦ subst (λ (q : ℕ). So a q c.if-t-s.r w' (l.counter + 1)) (sym u.q-is) (subst (λ (r : ℕ). So a (l.q * 2 + 1) r w' (l.counter + 1)) (sym u.r-is) (one-digit l.invariant (omega arith) u.if-t-s.false))
    ]
