-- `floats::root_digits` meets its contract. The invariant: q is the whole root of the i leading pairs of digits of a, r what its square leaves, and w the pairs to come. Assumes nothing.
use Rattle.std.proofs.Common.{◌≡◌, ℕ, ◌+◌, ◌*◌, ◌^◌, ◌<◌, ◌≤◌}
use Rattle.floats.proofs.root_digits.Given as goal

pub record So (a q r w i : ℕ) : Type 0 where
  pub square : (q * q + r) * 18446744073709551616 + w ≡ a * 4 ^ i
  pub rest : r ≤ 2 * q
  pub digits : q < 2 ^ i
  pub few : i ≤ 54
  pub word : w < 18446744073709551616

abbrev pub invariant-loop : goal.invariant-loop
invariant-loop l = So l.a l.q l.r l.w l.counter
