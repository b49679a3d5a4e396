-- Numbers as text: lists of ASCII codes. Definitions only.
use Rattle.std.specs.Prelude.{ℕ, zero, suc, ◌+◌, ◌/◌, ◌%◌, cond, List, [], ◌∷◌, ◌++◌, ltb, eqb}

-- a digit below 16: `0` to `9`, then `a` to `f`
abbrev pub glyph : ℕ → ℕ
glyph d = cond (ltb d 10) (48 + d) (87 + d)

-- the last k digits of n in base b, the most significant first
unfoldable pub digits : ℕ → ℕ → ℕ → List ℕ
digits b zero n = []
digits b (suc k) n = digits b k (n / b) ++ (glyph (n % b) ∷ [])

-- without zeros in front: the last digit stays
unfoldable pub trimmed : List ℕ → List ℕ
trimmed [] = []
trimmed (d ∷ []) = d ∷ []
trimmed (d ∷ e ∷ ds) = cond (eqb d 48) (trimmed (e ∷ ds)) (d ∷ e ∷ ds)

-- a number below 2^64 in decimal; twenty digits hold it
abbrev pub decimal : ℕ → List ℕ
decimal n = trimmed (digits 10 20 n)

-- the bits of an f32 as eight hexadecimal digits
abbrev pub hex : ℕ → List ℕ
hex n = digits 16 8 n
