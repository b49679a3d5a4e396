-- A test of 0, 1, .., n - 1. Definitions only.
use Rattle.std.specs.Prelude.{ℕ, zero, suc, Bool, true, ◌&&◌}

-- p holds of each number below n
unfoldable pub all_to : (ℕ → Bool) → ℕ → Bool
all_to p zero = true
all_to p (suc n) = all_to p n && p n
