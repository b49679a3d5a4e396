-- Numbers of a record: "groups of seven bits, low group first, top bit set while more follow".
use Rattle.std.specs.Prelude.{ℕ, zero, suc, ◌+◌, ◌-◌, ◌*◌, ◌/◌, ◌%◌, List, [], ◌∷◌, cond, ltb}
use Rattle.records.specs.declared.Fault.{Fault}
use Rattle.records.specs.declared.Fault.TheVariants.{Cut, Malformed}

-- what stands at the front of a list of bytes: a value and how many bytes it takes, or a fault
pub data Found : Type 0 where
  found : (value width : ℕ) → Found
  fault : Fault → Found

-- a group with more after it; where those are worth 0, the number is "not in its shortest form"
unfoldable pub after : ℕ → Found → Found
after b (found zero n) = fault Malformed
after b (found (suc v) n) = found (b - 128 + 128 * suc v) (suc n)
after b (fault f) = fault f

-- a number of at most k groups and one byte more, which is refused above 1: "a tenth byte above 1" for k = 9
unfoldable pub number_in : ℕ → List ℕ → Found
unfolding after
number_in k [] = fault Cut
number_in zero (b ∷ bs) = cond (ltb b 2) (found b 1) (fault Malformed)
number_in (suc k) (b ∷ bs) = cond (ltb b 128) (found b 1) (after b (number_in k bs))

-- the bytes of a number of at most k groups and one bit
unfoldable pub bytes_in : ℕ → ℕ → List ℕ
bytes_in zero v = v ∷ []
bytes_in (suc k) v = cond (ltb v 128) (v ∷ []) ((128 + v % 128) ∷ bytes_in k (v / 128))

-- the bytes of a number below 2 ^ 64
abbrev pub number_bytes : ℕ → List ℕ
number_bytes v = bytes_in 9 v
