-- A list over the front of a store. Definitions only.
use Rattle.std.specs.Prelude.{List, ◌++◌, length, take, drop}

module _ {A : Type 0} where
  -- as much of the list l as the store s can take, and then what s has there
  unfoldable pub laid : List A → List A → List A
  laid l s = take (length s) l ++ drop (length l) s
