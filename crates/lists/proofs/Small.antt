-- A whole number up to 2 ^ 24 is a value of f32 and of f64. Assumes nothing.
use Prim.Native.Nat.{ℕ, ◌≤◌, ◌^◌}
use native.Mathlib.Nat.{le_trans}
use lib.Dec.{T, le→leb, lit≤}
use lib.IntN.{pos}
use lib.Ieee.{Format, binary32, binary64, in_float}

pub small : (f : Format) (n : ℕ) → n ≤ 2 ^ 24 → T (in_float f (pos n))
unfolding in_float
small binary32 n h = le→leb n (2 ^ 24) h
small binary64 n h = le→leb n (2 ^ 53) (le_trans h (lit≤ tt))
