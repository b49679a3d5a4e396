-- How many groups of seven bits a number has room for, and its bytes from the first.
-- Assumes nothing.
use mathlib.Core.Path.{◌≡◌, refl, ap, ◌∙◌}
use mathlib.Core.List.{[], ◌∷◌}
use Prim.Native.Nat.{ℕ, zero, suc, ◌+◌, ◌*◌, ◌/◌, ◌%◌, ◌^◌, ◌≤◌, ◌<◌}
use native.Mathlib.Omega.{arith}
use borrow.Author.Tests.{lt-ltb, le-ltb}
use lib.Pow.{pow-add}
use Rattle.records.specs.Numbers.{bytes_in}

-- a number of k groups and a bit, and one group more
unfoldable pub room : ℕ → ℕ
room k = 2 ^ (7 * k + 1)

pub room_suc : (k : ℕ) → room (suc k) ≡ room k * 128
unfolding room
room_suc k = ap (λ (x : ℕ). 2 ^ x) (seven k) ∙ pow-add 2 (7 * k + 1) 7
  where
    seven : (k : ℕ) → 7 * suc k + 1 ≡ 7 * k + 1 + 7
    seven k = omega arith

pub down_group : (k v : ℕ) → v < room (suc k) → v / 128 < room k
down_group k v h = omega (arith, rw (room_suc k) at h)

pub room_zero : (v : ℕ) → v < room 0 → v < 2
unfolding room
room_zero v h = h

pub bytes_last : (k v : ℕ) → v < 128 → bytes_in k v ≡ v ∷ []
unfolding bytes_in
bytes_last zero v h = refl
bytes_last (suc k) v h = rw (lt-ltb v 128 h)

pub bytes_more : (k v : ℕ) → 128 ≤ v → bytes_in (suc k) v ≡ (128 + v % 128) ∷ bytes_in k (v / 128)
unfolding bytes_in
bytes_more k v h = rw (le-ltb v 128 h)
