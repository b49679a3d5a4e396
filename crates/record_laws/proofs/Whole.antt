-- A record by its parts: its numbers and its floats as rows of fields.
-- Assumes nothing.
use mathlib.Core.Path.{◌≡◌, refl, sym, ap, ◌∙◌}
use mathlib.Core.List.{List, [], ◌∷◌, ◌++◌, append_assoc}
use mathlib.Core.Bool.{Bool, true, false}
use Prim.Native.Nat.{ℕ, zero, suc, ◌*◌, ◌^◌, ◌≤◌, ◌<◌}
use native.Mathlib.Nat.{not-suc-le-zero, le_of_suc-le-suc}
use lib.Dec.{eqb, lit<, lit≤}
use lib.ListN.{length, get_or, replicate}
use Rattle.records.specs.Numbers.{number_bytes}
use Rattle.records.specs.Fields.{float}
use Rattle.records.specs.Records.{numbers, header_of, with_quality, each, float_bytes, flag_number, numbers_of, record_bytes}
use Rattle.records.specs.declared.Header.{Header}
use Rattle.record_laws.proofs.Rows.{row_bytes, FitRow, most_row}

-- ---- what can be a record: the limits of the format
pub record Fit (h : Header) (xs ps qs : List ℕ) : Type 0 where
  pub session : h.session < 2 ^ 64
  pub source : h.source < 2 ^ 64
  pub time : h.time < 2 ^ 64
  pub subcarriers : h.subcarriers ≤ 256
  pub pairs : h.pairs ≤ 256
  pub quality : h.quality < 4294967296
  pub amplitudes-long : length xs ≡ h.subcarriers
  pub phases-long : length ps ≡ h.subcarriers
  pub pairs-long : length qs ≡ 2 * h.pairs
  pub amplitudes-fit : (i : ℕ) → get_or xs i 0 < 4294967296
  pub phases-fit : (i : ℕ) → get_or ps i 0 < 4294967296
  pub pairs-fit : (i : ℕ) → get_or qs i 0 < 4294967296

-- ---- the numbers
pub numbers_bytes : (h : Header) → row_bytes numbers (numbers_of h) ≡ each number_bytes (numbers_of h)
unfolding row_bytes each
numbers_bytes h = refl

pub most_numbers : most_row numbers ≡ 35
unfolding most_row
most_numbers = refl

flag_small : (b : Bool) → flag_number b ≤ 1
flag_small true = lit≤ tt
flag_small false = lit≤ tt

pub numbers_fit : {h : Header} {xs ps qs : List ℕ} → Fit h xs ps qs → FitRow numbers (numbers_of h)
unfolding FitRow
numbers_fit {h} f = (f.session, (f.source, (f.time, (flag_small h.exposable, (f.subcarriers, (f.pairs, tt))))))

flag_back : (b : Bool) → eqb (flag_number b) 1 ≡ b
flag_back true = refl
flag_back false = refl

abbrev with_flag : Header → Bool → Header
with_flag h b = record {
  session = h.session;
  source = h.source;
  time = h.time;
  exposable = b;
  subcarriers = h.subcarriers;
  pairs = h.pairs;
  quality = h.quality;
}

pub header_back : (h : Header) → with_quality (header_of (numbers_of h)) h.quality ≡ h
header_back h = ap (with_flag h) (flag_back h.exposable)

-- six values that fit are those of the header that they make
pub numbers_made : (vs : List ℕ) → FitRow numbers vs → numbers_of (header_of vs) ≡ vs
unfolding FitRow
numbers_made (a ∷ b ∷ c ∷ d ∷ n ∷ m ∷ []) h = ap (λ (x : ℕ). a ∷ b ∷ c ∷ x ∷ n ∷ m ∷ []) (bit d h.1.1.1.0)
  where
    bit : (v : ℕ) → v ≤ 1 → flag_number (eqb v 1) ≡ v
    bit zero h = refl
    bit (suc zero) h = refl
    bit (suc (suc v)) h = absurd (not-suc-le-zero (le_of_suc-le-suc h))
numbers_made [] h = absurd h
numbers_made (a ∷ []) h = absurd h.1
numbers_made (a ∷ b ∷ []) h = absurd h.1.1
numbers_made (a ∷ b ∷ c ∷ []) h = absurd h.1.1.1
numbers_made (a ∷ b ∷ c ∷ d ∷ []) h = absurd h.1.1.1.1
numbers_made (a ∷ b ∷ c ∷ d ∷ n ∷ []) h = absurd h.1.1.1.1.1
numbers_made (a ∷ b ∷ c ∷ d ∷ n ∷ m ∷ v ∷ vs) h = absurd h.1.1.1.1.1.1

-- ---- the floats
pub floats_bytes : (vs : List ℕ) → row_bytes (replicate (length vs) float) vs ≡ each float_bytes vs
unfolding row_bytes each
floats_bytes [] = refl
floats_bytes (v ∷ vs) = ap (λ (l : List ℕ). float_bytes v ++ l) (floats_bytes vs)

pub floats_fit : (vs : List ℕ) → ((i : ℕ) → get_or vs i 0 < 4294967296) → FitRow (replicate (length vs) float) vs
unfolding FitRow
floats_fit [] h = tt
floats_fit (v ∷ vs) h = (h 0, floats_fit vs (λ i. h (suc i)))

-- as many values as floats, each of them 32 bits
pub floats_made : (n : ℕ) (vs : List ℕ) → FitRow (replicate n float) vs → (length vs ≡ n) × ((i : ℕ) → get_or vs i 0 < 4294967296)
unfolding FitRow
floats_made zero [] h = (refl, λ i. lit< tt)
floats_made zero (v ∷ vs) h = absurd h
floats_made (suc n) [] h = absurd h
floats_made (suc n) (v ∷ vs) h = let w = floats_made n vs h.1 in (ap suc w.0, go w.1)
  where
    go : ((i : ℕ) → get_or vs i 0 < 4294967296) → (i : ℕ) → get_or (v ∷ vs) i 0 < 4294967296
    go f zero = h.0
    go f (suc i) = f i

pub each_append : (bytes : ℕ → List ℕ) (xs ys : List ℕ) → each bytes (xs ++ ys) ≡ each bytes xs ++ each bytes ys
unfolding each
each_append bytes [] ys = refl
each_append bytes (x ∷ xs) ys = ap (λ (l : List ℕ). bytes x ++ l) (each_append bytes xs ys) ∙ sym (append_assoc (bytes x) (each bytes xs) (each bytes ys))

-- ---- the whole: its floats in one list
abbrev pub floats_of : Header → List ℕ → List ℕ → List ℕ → List ℕ
floats_of h xs ps qs = h.quality ∷ (xs ++ (ps ++ qs))

pub record_bytes_lem : (h : Header) (xs ps qs : List ℕ) → record_bytes h xs ps qs ≡ each number_bytes (numbers_of h) ++ each float_bytes (floats_of h xs ps qs)
unfolding record_bytes each
record_bytes_lem h xs ps qs = simp (each_append, append_assoc)
