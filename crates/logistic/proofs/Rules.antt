-- The three rules of the logistic table: each is one test that is computed over all entries, and a law that says it of each entry.
-- Assumes nothing.
use Rattle.std.proofs.Common.{◌≡◌, ℕ, zero, suc, ◌+◌, ◌-◌, ◌<◌, ◌≤◌, Bool, true, false, ◌&&◌, T, eqb, leb, List, [], ◌∷◌, reverse, length, get_or, sym, refl, ap, ◌∙◌, le_trans, le_refl, le_of_suc-le-suc, not-suc-le-zero, add-zero, add-suc, suc-add, zero-add, add-one, arith, lit<, eqb→eq, leb→le}
use mathlib.Core.List.{reverse_aux}
use lib.Ieee.Fits.{and_l, and_r}
use Rattle.logistic.specs.Table.{table}
use Rattle.logistic.specs.Score.{entry_at}

-- a test of each two neighbours
abbrev neighbours : (ℕ → ℕ → Bool) → List ℕ → Bool
neighbours p [] = true
neighbours p (x ∷ []) = true
neighbours p (x ∷ y ∷ ys) = p x y && neighbours p (y ∷ ys)

at_neighbours : (p : ℕ → ℕ → Bool) (xs : List ℕ) → T (neighbours p xs) → (k : ℕ) → suc k < length xs → T (p (get_or xs k 0) (get_or xs (suc k) 0))
at_neighbours p [] t k h = absurd (not-suc-le-zero h)
at_neighbours p (x ∷ []) t k h = absurd (not-suc-le-zero (le_of_suc-le-suc h))
at_neighbours p (x ∷ y ∷ ys) t zero h = and_l (p x y) (neighbours p (y ∷ ys)) t
at_neighbours p (x ∷ y ∷ ys) t (suc k) h = at_neighbours p (y ∷ ys) (and_r (p x y) (neighbours p (y ∷ ys)) t) k (le_of_suc-le-suc h)

pub length_table : length table ≡ 2049
unfolding table
length_table = refl

inside : (k : ℕ) → k < 2048 → suc k < length table
inside k h = rw length_table (omega arith)

-- ---- "never falling"
rising_table : T (neighbours leb table)
unfolding table
rising_table = tt

pub never_falling : (k : ℕ) → k < 2048 → entry_at k ≤ entry_at (k + 1)
never_falling k h = rw add-one (leb→le (entry_at k) (entry_at (suc k)) (at_neighbours leb table rising_table k (inside k h)))

-- ---- "neighbours differ by at most 65,536"
abbrev near : ℕ → ℕ → Bool
near x y = leb y (x + 65536)

near_table : T (neighbours near table)
unfolding table
near_table = tt

pub near_neighbours : (k : ℕ) → k < 2048 → entry_at (k + 1) ≤ entry_at k + 65536
near_neighbours k h = rw add-one (leb→le (entry_at (suc k)) (entry_at k + 65536) (at_neighbours near table near_table k (inside k h)))

-- ---- "entries k and 2,048-k add to 2^24": the table beside itself reversed
abbrev sums : List ℕ → List ℕ → Bool
sums [] ys = true
sums (x ∷ xs) [] = false
sums (x ∷ xs) (y ∷ ys) = eqb (x + y) 16777216 && sums xs ys

at_sums : (xs ys : List ℕ) → T (sums xs ys) → (k : ℕ) → k < length xs → get_or xs k 0 + get_or ys k 0 ≡ 16777216
at_sums [] ys t k h = absurd (not-suc-le-zero h)
at_sums (x ∷ xs) [] t k h = absurd t
at_sums (x ∷ xs) (y ∷ ys) t zero h = eqb→eq (x + y) 16777216 (and_l (eqb (x + y) 16777216) (sums xs ys) t)
at_sums (x ∷ xs) (y ∷ ys) t (suc k) h = at_sums xs ys (and_r (eqb (x + y) 16777216) (sums xs ys) t) k (le_of_suc-le-suc h)

sums_table : T (sums table (reverse table))
unfolding table
sums_table = tt

-- the reversed list at a place
past : (l r : List ℕ) (j : ℕ) → get_or (reverse_aux l r) (length l + j) 0 ≡ get_or r j 0
past [] r j = rw zero-add
past (x ∷ l) r j = ap (λ (n : ℕ). get_or (reverse_aux l (x ∷ r)) n 0) (suc-add (length l) j ∙ sym (add-suc (length l) j)) ∙ past l (x ∷ r) (suc j)

back : (l r : List ℕ) (k : ℕ) → k < length l → get_or (reverse_aux l r) (length l - suc k) 0 ≡ get_or l k 0
back [] r k h = absurd (not-suc-le-zero h)
back (x ∷ l) r zero h = ap (λ (n : ℕ). get_or (reverse_aux l (x ∷ r)) n 0) (last (length l)) ∙ past l (x ∷ r) 0
  where
    last : (n : ℕ) → suc n - 1 ≡ n + 0
    last n = omega arith
back (x ∷ l) r (suc k) h = ap (λ (n : ℕ). get_or (reverse_aux l (x ∷ r)) n 0) (less (length l) k) ∙ back l (x ∷ r) k (le_of_suc-le-suc h)
  where
    less : (n k : ℕ) → suc n - suc (suc k) ≡ n - suc k
    less n k = omega arith

pub opposite : (k : ℕ) → k < 2049 → entry_at k + entry_at (2048 - k) ≡ 16777216
opposite k h =
    let n : length table ≡ 2049 = length_table in
    let h₁ : k < length table = omega arith in
    let h₂ : 2048 - k < length table = omega arith in
    let e : length table - suc (2048 - k) ≡ k = omega arith in
    let b : get_or (reverse table) k 0 ≡ get_or table (2048 - k) 0 = rw e at (back table [] (2048 - k) h₂) in
    rw b at (at_sums table (reverse table) sums_table k h₁)

-- ---- so no entry is above a later one, nor above the last
mono_add : (d k : ℕ) → k + d < 2049 → entry_at k ≤ entry_at (k + d)
mono_add zero k h = rw add-zero (le_refl (entry_at k))
mono_add (suc d) k h = rw add-suc (le_trans (mono_add d k (omega (arith, add-suc k d))) (rw add-one at (never_falling (k + d) (omega (arith, add-suc k d)))))

pub mono : (j k : ℕ) → j ≤ k → k < 2049 → entry_at j ≤ entry_at k
mono j k h l = let e : j + (k - j) ≡ k = omega arith in let l' : j + (k - j) < 2049 = omega arith in rw e at (mono_add (k - j) j l')

last_entry : entry_at 2048 ≡ 16777214
unfolding table
last_entry = refl

pub at_most : (k : ℕ) → k < 2049 → entry_at k ≤ 16777214
at_most k h = let l : k ≤ 2048 = omega arith in rw last_entry at (mono k 2048 l (lit< tt))
