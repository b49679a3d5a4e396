-- The units at a place: what the code's sums need, and that they never fall.
-- Assumes nothing.
use Rattle.std.proofs.Common.{◌≡◌, ℕ, ◌+◌, ◌-◌, ◌*◌, ◌/◌, ◌%◌, ◌<◌, ◌≤◌, Bool, true, false, cond, eqb, ltb, refl, inl, inr, le_trans, add-zero, le_of_lt, mul-le-mul, eq-or-lt_of_le, mul-le-mul_left, mul-zero, arith, ltb-false, eqb-true}
use borrow.Author.Tests.{eqb-false}
use Rattle.logistic.specs.Score.{entry_at, units_at}
use Rattle.logistic.proofs.Rules.{never_falling, near_neighbours, mono, at_most}

-- between two neighbours
product : (x r : ℕ) → x ≤ 65536 → r < 1024 → x * r ≤ 67043328
product x r h l = mul-le-mul {n₁ = x} {m₁ = r} {n₂ = 65536} {m₂ = 1023} h (omega arith)

part : (x r : ℕ) → r < 1024 → x * r / 1024 ≤ x
part x r h = let l : x * r ≤ x * 1024 = mul-le-mul_left x (le_of_lt h) in omega arith

part_mono : (x r t : ℕ) → r ≤ t → x * r / 1024 ≤ x * t / 1024
part_mono x r t h = let l : x * r ≤ x * t = mul-le-mul_left x h in omega arith

pub fits_product : (k r : ℕ) → k < 2048 → r < 1024 → (entry_at (k + 1) - entry_at k) * r ≤ 67043328
fits_product k r h l = product (entry_at (k + 1) - entry_at k) r (omega (arith, near_neighbours k h)) l

-- the formula with no case
abbrev pub line : ℕ → ℕ → ℕ
line k r = entry_at k + (entry_at (k + 1) - entry_at k) * r / 1024

pub units_line : (u : ℕ) → units_at u ≡ line (u / 1024) (u % 1024)
unfolding units_at
units_line u = go (ltb 0 (u % 1024)) refl
  where
    go : (b : Bool) → ltb 0 (u % 1024) ≡ b → entry_at (u / 1024) + cond b ((entry_at (u / 1024 + 1) - entry_at (u / 1024)) * (u % 1024) / 1024) 0 ≡ line (u / 1024) (u % 1024)
    go true e = refl
    go false e = let z : u % 1024 ≡ 0 = omega (arith, ltb-false 0 (u % 1024) e) in rw (z, mul-zero (entry_at (u / 1024 + 1) - entry_at (u / 1024)))

line_most : (k r : ℕ) → k < 2048 → r < 1024 → line k r ≤ entry_at (k + 1)
line_most k r h l = omega (arith, never_falling k h, part (entry_at (k + 1) - entry_at k) r l)

line_last : (r : ℕ) → line 2048 0 ≡ entry_at 2048
line_last r = rw (mul-zero (entry_at (2048 + 1) - entry_at 2048), add-zero (entry_at 2048))

pub units_least : (u : ℕ) → entry_at (u / 1024) ≤ units_at u
units_least u = rw (units_line u) (omega arith)

pub units_most : (u : ℕ) → u ≤ 2097152 → units_at u ≤ 16777214
units_most u h = go (eqb u 2097152) refl
  where
    go : (b : Bool) → eqb u 2097152 ≡ b → units_at u ≤ 16777214
    go true e = rw (eqb-true u 2097152 e, units_line 2097152, line_last 0) (at_most 2048 (omega arith))
    go false e =
        let n : u ≡ 2097152 → ⊥ = eqb-false u 2097152 e in
        let l : u / 1024 < 2048 = omega arith in
        let l' : u % 1024 < 1024 = omega arith in
        rw (units_line u) (le_trans (line_most (u / 1024) (u % 1024) l l') (at_most (u / 1024 + 1) (omega arith)))

pub units_mono : (u v : ℕ) → u ≤ v → v ≤ 2097152 → units_at u ≤ units_at v
units_mono u v h l = elim (eq-or-lt_of_le ks) [ inl e ↦ same e | inr g ↦ more g ]
  where
    ks : u / 1024 ≤ v / 1024
    ks = omega arith

    same : u / 1024 ≡ v / 1024 → units_at u ≤ units_at v
    same e =
        let r : u % 1024 ≤ v % 1024 = omega arith in
        let p = part_mono (entry_at (v / 1024 + 1) - entry_at (v / 1024)) (u % 1024) (v % 1024) r in
        rw (units_line u, units_line v, e) (omega arith)

    more : u / 1024 < v / 1024 → units_at u ≤ units_at v
    more g =
        let a : line (u / 1024) (u % 1024) ≤ entry_at (u / 1024 + 1) = line_most (u / 1024) (u % 1024) (omega arith) (omega arith) in
        let b : entry_at (u / 1024 + 1) ≤ entry_at (v / 1024) = mono (u / 1024 + 1) (v / 1024) (omega arith) (omega arith) in
        le_trans (rw (units_line u) a) (le_trans b (units_least v))
