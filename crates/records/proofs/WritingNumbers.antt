-- Writing a number, a byte a turn: what is left to write, written, gives what is to be written.
-- Assumes nothing.
use mathlib.Core.Path.{◌≡◌, refl, ap, ◌∙◌}
use mathlib.Core.List.{List, [], ◌∷◌}
use mathlib.Core.Bool.{Bool, true, false, cond}
use Prim.Native.Nat.{ℕ, zero, suc, ◌+◌, ◌/◌, ◌%◌, ◌^◌, ◌≤◌, ◌<◌, zero-le, suc-le-suc}
use native.Mathlib.Nat.{le_refl}
use native.Mathlib.Numerals.{add-one}
use native.Mathlib.Omega.{arith}
use lib.Dec.{ltb}
use lib.ListN.{length, set, length-set}
use lib.Seq.{sets}
use Rattle.records.specs.Numbers.{bytes_in}
use Rattle.records.proofs.Groups.{room, room_zero, down_group, bytes_last, bytes_more}

pub long : (k v : ℕ) → (length (bytes_in k v) ≤ suc k) × (0 < length (bytes_in k v))
unfolding bytes_in
long zero v = (le_refl 1, le_refl 1)
long (suc k) v = go (long k (v / 128)) (ltb v 128)
  where
    go : (length (bytes_in k (v / 128)) ≤ suc k) × (0 < length (bytes_in k (v / 128))) → (b : Bool) → (length (cond b (v ∷ []) ((128 + v % 128) ∷ bytes_in k (v / 128))) ≤ suc (suc k)) × (0 < length (cond b (v ∷ []) ((128 + v % 128) ∷ bytes_in k (v / 128))))
    go h true = (suc-le-suc zero-le, le_refl 1)
    go h false = (suc-le-suc h.0, suc-le-suc zero-le)

pub record Left (d₀ : List ℕ) (at v : ℕ) (d : List ℕ) (rest p : ℕ) : Type 0 where
  pub k : ℕ
  pub fits : rest < room k
  pub wide : length d ≡ length d₀
  pub ends : p + length (bytes_in k rest) ≡ at + length (bytes_in 9 v)
  pub same : sets d p (bytes_in k rest) ≡ sets d₀ at (bytes_in 9 v)

pub left_all : (d : List ℕ) (at v : ℕ) → v < 2 ^ 64 → Left d at v d v at
unfolding room
left_all d at v h = record { k = 9; fits = h; wide = refl; ends = refl; same = refl }

pub left_more : (d₀ : List ℕ) (at v : ℕ) (d : List ℕ) (rest p : ℕ) → 128 ≤ rest → Left d₀ at v d rest p → Left d₀ at v (set d p (128 + rest % 128)) (rest / 128) (p + 1)
left_more d₀ at v d rest p h w = go w.k w.fits w.ends w.same
  where
    go : (k : ℕ) → rest < room k → p + length (bytes_in k rest) ≡ at + length (bytes_in 9 v) → sets d p (bytes_in k rest) ≡ sets d₀ at (bytes_in 9 v) → Left d₀ at v (set d p (128 + rest % 128)) (rest / 128) (p + 1)
    go zero f e s = absurd (not-small (room_zero rest f))
      where
        not-small : rest < 2 → ⊥
        not-small l = omega arith
    go (suc k) f e s =
        let b = bytes_more k rest h in
        record {
          k = k;
          fits = down_group k rest f;
          wide = length-set d p (128 + rest % 128) ∙ w.wide;
          ends = omega (arith, e, ap length b);
          same = rw (add-one p) (rw b at s);
        }

pub record Last (d₀ : List ℕ) (at v : ℕ) (d : List ℕ) (rest p : ℕ) : Type 0 where
  pub ends : p + 1 ≡ at + length (bytes_in 9 v)
  pub same : set d p rest ≡ sets d₀ at (bytes_in 9 v)

pub left_last : (d₀ : List ℕ) (at v : ℕ) (d : List ℕ) (rest p : ℕ) → rest < 128 → Left d₀ at v d rest p → Last d₀ at v d rest p
left_last d₀ at v d rest p h w =
    let b = bytes_last w.k rest h in
    record { ends = omega (arith, w.ends, ap length b); same = rw b at w.same }

-- there is a place for the next byte
pub next_place : (d₀ : List ℕ) (at v : ℕ) (d : List ℕ) (rest p : ℕ) → at + length (bytes_in 9 v) ≤ length d₀ → Left d₀ at v d rest p → p < length d
next_place d₀ at v d rest p h w = omega (arith, w.wide, w.ends, long w.k rest)

-- ---- how many bytes
pub record Counted (v rest n : ℕ) : Type 0 where
  pub k : ℕ
  pub fits : rest < room k
  pub ends : n + length (bytes_in k rest) ≡ 1 + length (bytes_in 9 v)

pub counted_all : (v : ℕ) → v < 2 ^ 64 → Counted v v 1
unfolding room
counted_all v h = record { k = 9; fits = h; ends = refl }

pub counted_more : (v rest n : ℕ) → 128 ≤ rest → Counted v rest n → Counted v (rest / 128) (n + 1)
counted_more v rest n h w = go w.k w.fits w.ends
  where
    go : (k : ℕ) → rest < room k → n + length (bytes_in k rest) ≡ 1 + length (bytes_in 9 v) → Counted v (rest / 128) (n + 1)
    go zero f e = absurd (not-small (room_zero rest f))
      where
        not-small : rest < 2 → ⊥
        not-small l = omega arith
    go (suc k) f e = record { k = k; fits = down_group k rest f; ends = omega (arith, e, ap length (bytes_more k rest h)) }

pub counted_last : (v rest n : ℕ) → rest < 128 → Counted v rest n → n ≡ length (bytes_in 9 v)
counted_last v rest n h w = omega (arith, w.ends, ap length (bytes_last w.k rest h))

pub counted_few : (v rest n : ℕ) → Counted v rest n → n ≤ 11
counted_few v rest n w = omega (arith, w.ends, long 9 v)
