-- Sums and means. Definitions only.
use Rattle.std.specs.Prelude.{ℕ, zero, suc, pos, Float}
use Rattle.std.specs.Float.{Format}
use Rattle.std.specs.Float.Ieee.{add, div, of_int, of_bits}

-- x 0 + x 1 + .. + x (n - 1): in order from +0.0, each sum rounded to the format f
unfoldable pub sum_to : Format → (ℕ → Float) → ℕ → Float
sum_to f x zero = of_bits f 0
sum_to f x (suc j) = add f (sum_to f x j) (x j)

-- that sum divided by their number
unfoldable pub mean_to : Format → (ℕ → Float) → ℕ → Float
mean_to f x n = div f (sum_to f x n) (of_int f (pos n))
