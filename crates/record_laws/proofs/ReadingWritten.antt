-- Reading what was written returns it: any record within the format's limits, at any place, whatever follows.
-- Assumes nothing.
use mathlib.Core.Path.{◌≡◌, refl, sym, ap, ◌∙◌}
use mathlib.Core.List.{List, [], ◌∷◌, ◌++◌, append_assoc}
use Prim.Native.Nat.{ℕ, zero, suc, ◌+◌, ◌≤◌, ◌<◌}
use native.Mathlib.Nat.{not-suc-le-zero}
use native.Mathlib.Numerals.{one-add}
use native.Mathlib.Omega.{arith}
use lib.ListN.{length, get_or, take, drop, replicate, length-append}
use lib.Seq.{sets, sets-eq, take_at, drop_at, drop-drop, length-take-le}
use Rattle.records.specs.Numbers.{number_bytes}
use Rattle.records.specs.Fields.{float, whole, fields_in}
use Rattle.records.specs.Records.{numbers, header_of, float_count, Reading, taken, with_floats, with_numbers, record_in, record_at, each, float_bytes, numbers_of, record_bytes}
use Rattle.records.specs.declared.Header.{Header}
use Rattle.records.proofs.WritingNumbers.{long}
use Rattle.record_laws.proofs.Rows.{row_back}
use Rattle.record_laws.proofs.Whole.{Fit, numbers_bytes, numbers_fit, header_back, floats_bytes, floats_fit, floats_of, record_bytes_lem}

pub record_some : (at : ℕ) (bs : List ℕ) → 0 < length bs → record_in at bs ≡ with_numbers (fields_in numbers at bs)
unfolding record_in
record_some at [] h = absurd (not-suc-le-zero h)
record_some at (b ∷ bs) h = refl

-- a list of a value and three lists, taken apart again
parts_back : (q n : ℕ) (xs ps qs : List ℕ) → length xs ≡ n → length ps ≡ n → (take n (xs ++ (ps ++ qs)) ≡ xs) × (take n (drop (1 + n) (q ∷ (xs ++ (ps ++ qs)))) ≡ ps) × (drop (1 + n + n) (q ∷ (xs ++ (ps ++ qs))) ≡ qs)
parts_back q n xs ps qs a b =
    let e : 1 + n + n ≡ suc (n + n) = omega arith in
    let d : drop n (xs ++ (ps ++ qs)) ≡ ps ++ qs = drop_at xs (ps ++ qs) n a in (
      take_at xs (ps ++ qs) n a,
      rw (one-add n) (ap (take n) d ∙ take_at ps qs n b),
      rw e (sym (drop-drop n n (xs ++ (ps ++ qs))) ∙ ap (drop n) d ∙ drop_at ps qs n b),
    )

fits_append : (xs ys : List ℕ) → ((i : ℕ) → get_or xs i 0 < 4294967296) → ((i : ℕ) → get_or ys i 0 < 4294967296) → (i : ℕ) → get_or (xs ++ ys) i 0 < 4294967296
fits_append [] ys f g i = g i
fits_append (x ∷ xs) ys f g zero = f 0
fits_append (x ∷ xs) ys f g (suc i) = fits_append xs ys (λ i. f (suc i)) g i

module _ (h : Header) (xs ps qs : List ℕ) (f : Fit h xs ps qs) where
  abbrev ws : List ℕ
  ws = floats_of h xs ps qs

  abbrev nb : List ℕ
  nb = each number_bytes (numbers_of h)

  abbrev fb : List ℕ
  fb = each float_bytes ws

  as_many : float_count (header_of (numbers_of h)) ≡ length ws
  as_many = omega (arith, length-append xs (ps ++ qs), length-append ps qs, f.amplitudes-long, f.phases-long, f.pairs-long)

  ws-fit : (i : ℕ) → get_or ws i 0 < 4294967296
  ws-fit zero = f.quality
  ws-fit (suc i) = fits_append xs (ps ++ qs) f.amplitudes-fit (fits_append ps qs f.phases-fit f.pairs-fit) i

  some-numbers : 0 < length nb
  unfolding each
  some-numbers = omega (arith, length-append (number_bytes h.session) (each number_bytes (h.source ∷ h.time ∷ Rattle.records.specs.Records.flag_number h.exposable ∷ h.subcarriers ∷ h.pairs ∷ [])), long 9 h.session)

  module _ (at : ℕ) (rest : List ℕ) where
    numbers-read : fields_in numbers at (nb ++ (fb ++ rest)) ≡ whole (numbers_of h) (at + length nb) (fb ++ rest)
    numbers-read = rw (numbers_bytes h) at (row_back numbers at (numbers_of h) (fb ++ rest) (numbers_fit f))

    floats-read : (q : ℕ) → fields_in (replicate (length ws) float) q (fb ++ rest) ≡ whole ws (q + length fb) rest
    floats-read q = rw (floats_bytes ws) at (row_back (replicate (length ws) float) q ws rest (floats_fit ws ws-fit))

    whole-read : with_floats (header_of (numbers_of h)) (whole ws (at + length nb + length fb) rest) ≡ taken h xs ps qs (at + length nb + length fb)
    whole-read = let p = parts_back h.quality h.subcarriers xs ps qs f.amplitudes-long f.phases-long in cc (header_back h, p.0, p.1, p.2)

    reading : record_in at (nb ++ (fb ++ rest)) ≡ taken h xs ps qs (at + length nb + length fb)
    reading =
        record_some at (nb ++ (fb ++ rest)) (omega (arith, some-numbers, length-append nb (fb ++ rest)))
        ∙ ap with_numbers numbers-read
        ∙ ap (λ (k : ℕ). with_floats (header_of (numbers_of h)) (fields_in (replicate k float) (at + length nb) (fb ++ rest))) as_many
        ∙ ap (with_floats (header_of (numbers_of h))) (floats-read (at + length nb))
        ∙ whole-read

    pub reading-written : record_in at (record_bytes h xs ps qs ++ rest) ≡ taken h xs ps qs (at + length (record_bytes h xs ps qs))
    reading-written =
        let b = record_bytes_lem h xs ps qs in
        let l : at + length nb + length fb ≡ at + length (record_bytes h xs ps qs) = omega (arith, ap length b, length-append nb fb) in
        ap (λ (s : List ℕ). record_in at (s ++ rest)) b ∙ ap (record_in at) (append_assoc nb fb rest) ∙ reading ∙ ap (taken h xs ps qs) l

  -- the same through the writer: what write_record leaves in the output, read from the place where it wrote
  pub reading-output : (out : List ℕ) (at : ℕ) → at + length (record_bytes h xs ps qs) ≤ length out → record_at (sets out at (record_bytes h xs ps qs)) at ≡ taken h xs ps qs (at + length (record_bytes h xs ps qs))
  reading-output out at l =
      let bs = record_bytes h xs ps qs in
      let e : sets out at bs ≡ take at out ++ bs ++ drop (at + length bs) out = sets-eq bs out at l in
      let t : length (take at out) ≡ at = length-take-le at out (omega arith) in
      let d : drop at (sets out at bs) ≡ bs ++ drop (at + length bs) out = ap (drop at) (e ∙ append_assoc (take at out) bs (drop (at + length bs) out)) ∙ drop_at (take at out) (bs ++ drop (at + length bs) out) at t in
      ap (record_in at) d ∙ reading-written at (drop (at + length bs) out)
