-- What the private steps of narrowing and of the root hand on to each other. Definitions only.
use Rattle.std.specs.Prelude.{◌≡◌, ℕ, ◌+◌, ◌*◌, ◌^◌, ◌≤◌, Bool, cond, from_bits}
use Rattle.std.specs.Float.{binary32, binary64}
use Rattle.std.specs.Float.Ieee.{top}
use Rattle.floats.specs.Convert.{convert}

-- r is the f32 pattern, without its sign, of what the f64 pattern m, without its sign, stands for
pub record Narrowed (m r : ℕ) : Type 0 where
  pub says : (s : Bool) → from_bits binary32 (cond s (top binary32) 0 + r) ≡ convert binary32 (from_bits binary64 (cond s (top binary64) 0 + m))
  pub small : r ≤ 0x7f80_0000

-- q is the whole part of the root of a * 4 ^ 22, and r what its square leaves
pub record Rooted (a q r : ℕ) : Type 0 where
  pub square : q * q + r ≡ a * 2 ^ 44
  pub rest : r ≤ 2 * q
