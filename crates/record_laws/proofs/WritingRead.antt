-- Writing what was read returns the bytes; and a record that was read is within the format's limits.
-- Assumes nothing.
use mathlib.Core.Path.{◌≡◌, refl, sym, ap, ◌∙◌}
use mathlib.Core.List.{List, [], ◌∷◌, ◌++◌, append_assoc}
use Prim.Native.Nat.{ℕ, suc, ◌+◌, ◌-◌, ◌*◌, ◌≤◌, ◌<◌}
use native.Mathlib.Numerals.{one-add}
use native.Mathlib.Omega.{arith}
use lib.ListN.{length, get_or, take, drop, replicate, length-append, length-drop, take-append-drop}
use lib.Seq.{sets, drop-drop, length-take-le, take_at}
use Rattle.records.specs.Numbers.{number_bytes}
use Rattle.records.specs.Fields.{float, Fields, whole, stopped, fields_in}
use Rattle.records.specs.Records.{numbers, header_of, with_quality, float_count, taken, with_floats, with_numbers, record_in, each, float_bytes, numbers_of, record_bytes}
use Rattle.records.specs.declared.Header.{Header}
use Rattle.record_laws.proofs.Numbers.{Bytes}
use Rattle.record_laws.proofs.Rows.{row_bytes, FitRow, RowMade, row_made}
use Rattle.record_laws.proofs.Whole.{Fit, numbers_bytes, numbers_made, floats_bytes, floats_made, floats_of, record_bytes_lem}
use Rattle.record_laws.proofs.Fields.{drop_below, take_below}
use Rattle.records.specs.Answers.{answer, place, write, counted, write_of}
use lib.Dec.{lit<}
use borrow.Author.Tests.{le-leb, eq-eqb}
use mathlib.Core.Bool.{true}

-- what a record that was read was made of
pub record Parts (at : ℕ) (bs : List ℕ) (h : Header) (xs ps qs : List ℕ) (next : ℕ) : Type 0 where
  pub vs : List ℕ
  pub q : ℕ
  pub r : List ℕ
  pub ws : List ℕ
  pub rest : List ℕ
  pub numbers-are : fields_in numbers at bs ≡ whole vs q r
  pub floats-are : fields_in (replicate (float_count (header_of vs)) float) q r ≡ whole ws next rest
  pub header_is : with_quality (header_of vs) (get_or ws 0 0) ≡ h
  pub xs-are : take (get_or vs 4 0) (drop 1 ws) ≡ xs
  pub ps-are : take (get_or vs 4 0) (drop (1 + get_or vs 4 0) ws) ≡ ps
  pub qs-are : drop (1 + get_or vs 4 0 + get_or vs 4 0) ws ≡ qs

pub parts_of : (at : ℕ) (bs : List ℕ) (h : Header) (xs ps qs : List ℕ) (next : ℕ) → record_in at bs ≡ taken h xs ps qs next → Parts at bs h xs ps qs next
unfolding record_in
parts_of at [] h xs ps qs next e = cc
parts_of at (b ∷ bs) h xs ps qs next e = go (fields_in numbers at (b ∷ bs)) refl e
  where
    inner : (vs : List ℕ) (q : ℕ) (r : List ℕ) → fields_in numbers at (b ∷ bs) ≡ whole vs q r → (x : Fields) → fields_in (replicate (float_count (header_of vs)) float) q r ≡ x → with_floats (header_of vs) x ≡ taken h xs ps qs next → Parts at (b ∷ bs) h xs ps qs next
    inner vs q r a (stopped f o) c e = cc
    inner vs q r a (whole ws p rest) c e = record {
      vs = vs;
      q = q;
      r = r;
      ws = ws;
      rest = rest;
      numbers-are = a;
      floats-are = cc;
      header_is = cc;
      xs-are = cc;
      ps-are = cc;
      qs-are = cc;
    }

    go : (x : Fields) → fields_in numbers at (b ∷ bs) ≡ x → with_numbers x ≡ taken h xs ps qs next → Parts at (b ∷ bs) h xs ps qs next
    go (stopped f o) a e = cc
    go (whole vs q r) a e = inner vs q r a (fields_in (replicate (float_count (header_of vs)) float) q r) refl e

-- a list of floats is its quality and its three lists
joined : (n : ℕ) (ws : List ℕ) → 0 < length ws → get_or ws 0 0 ∷ (take n (drop 1 ws) ++ (take n (drop (1 + n) ws) ++ drop (1 + n + n) ws)) ≡ ws
joined n [] h = let z : ⊥ = omega arith in absurd z
joined n (w ∷ ws) h =
    let e : 1 + n + n ≡ suc (n + n) = omega arith in
    let a : take n (drop n ws) ++ drop (n + n) ws ≡ drop n ws = ap (λ (l : List ℕ). take n (drop n ws) ++ l) (sym (drop-drop n n ws)) ∙ take-append-drop n (drop n ws) in
    rw (e, one-add n) (ap (λ (l : List ℕ). w ∷ (take n ws ++ l)) a ∙ ap (λ (l : List ℕ). w ∷ l) (take-append-drop n ws))

pub record Made (at : ℕ) (bs : List ℕ) (h : Header) (xs ps qs : List ℕ) (next : ℕ) : Type 0 where
  pub rest : List ℕ
  pub same : bs ≡ record_bytes h xs ps qs ++ rest
  pub ends : next ≡ at + length (record_bytes h xs ps qs)

module _ {at : ℕ} {bs : List ℕ} {h : Header} {xs ps qs : List ℕ} {next : ℕ} (y : Bytes bs) (w : Parts at bs h xs ps qs next) where
  numbers-row : RowMade numbers at bs w.vs w.q w.r
  numbers-row = row_made numbers at bs w.vs w.q w.r y w.numbers-are

  rest-bytes : Bytes w.r
  rest-bytes = tail-bytes (row_bytes numbers w.vs) w.r (rw numbers-row.same at y)
    where
      tail-bytes : (us bs : List ℕ) → Bytes (us ++ bs) → Bytes bs
      tail-bytes [] bs y = y
      tail-bytes (u ∷ us) bs y = tail-bytes us bs (λ i. y (suc i))

  floats-row : RowMade (replicate (float_count (header_of w.vs)) float) w.q w.r w.ws next w.rest
  floats-row = row_made (replicate (float_count (header_of w.vs)) float) w.q w.r w.ws next w.rest rest-bytes w.floats-are

  many : length w.ws ≡ float_count (header_of w.vs)
  many = (floats_made (float_count (header_of w.vs)) w.ws floats-row.fits).0

  floats_same : row_bytes (replicate (float_count (header_of w.vs)) float) w.ws ≡ each float_bytes w.ws
  floats_same = ap (λ (k : ℕ). row_bytes (replicate k float) w.ws) (sym many) ∙ floats_bytes w.ws

  values-are : numbers_of (header_of w.vs) ≡ w.vs
  values-are = numbers_made w.vs numbers-row.fits

  numbers-same : row_bytes numbers w.vs ≡ each number_bytes (numbers_of (header_of w.vs))
  numbers-same = ap (row_bytes numbers) (sym values-are) ∙ numbers_bytes (header_of w.vs)

  floats-of : floats_of (with_quality (header_of w.vs) (get_or w.ws 0 0)) (take (get_or w.vs 4 0) (drop 1 w.ws)) (take (get_or w.vs 4 0) (drop (1 + get_or w.vs 4 0) w.ws)) (drop (1 + get_or w.vs 4 0 + get_or w.vs 4 0) w.ws) ≡ w.ws
  floats-of = joined (get_or w.vs 4 0) w.ws (omega (arith, many))

  bytes-are : record_bytes h xs ps qs ≡ each number_bytes (numbers_of (header_of w.vs)) ++ each float_bytes w.ws
  bytes-are =
      rw (← w.header_is, ← w.xs-are, ← w.ps-are, ← w.qs-are)
      (record_bytes_lem (with_quality (header_of w.vs) (get_or w.ws 0 0)) _ _ _ ∙ ap (λ (l : List ℕ). each number_bytes (numbers_of (header_of w.vs)) ++ each float_bytes l) floats-of)

  rows_are : row_bytes numbers w.vs ++ row_bytes (replicate (float_count (header_of w.vs)) float) w.ws ≡ record_bytes h xs ps qs
  rows_are = cc (numbers-same, floats_same, bytes-are)

  made : Made at bs h xs ps qs next
  made = record {
    rest = w.rest;
    same =
        numbers-row.same
        ∙ ap (λ (l : List ℕ). row_bytes numbers w.vs ++ l) floats-row.same
        ∙ sym (append_assoc (row_bytes numbers w.vs) (row_bytes (replicate (float_count (header_of w.vs)) float) w.ws) w.rest)
        ∙ ap (λ (l : List ℕ). l ++ w.rest) rows_are;
    ends = omega (arith, numbers-row.ends, floats-row.ends, ap length bytes-are, ap length numbers-same, ap length floats_same, length-append (each number_bytes (numbers_of (header_of w.vs))) (each float_bytes w.ws));
  }

  -- the record is within the format's limits
  numbers-within : FitRow numbers (numbers_of (header_of w.vs))
  numbers-within = rw values-are numbers-row.fits

  floats-within : (i : ℕ) → get_or w.ws i 0 < 4294967296
  floats-within = (floats_made (float_count (header_of w.vs)) w.ws floats-row.fits).1

  abbrev n : ℕ
  n = get_or w.vs 4 0

  within : Fit (with_quality (header_of w.vs) (get_or w.ws 0 0)) (take n (drop 1 w.ws)) (take n (drop (1 + n) w.ws)) (drop (1 + n + n) w.ws)
  unfolding FitRow
  within = record {
    session = numbers-within.0;
    source = numbers-within.1.0;
    time = numbers-within.1.1.0;
    subcarriers = numbers-within.1.1.1.1.0;
    pairs = numbers-within.1.1.1.1.1.0;
    quality = floats-within 0;
    amplitudes-long = length-take-le n (drop 1 w.ws) (omega (arith, length-drop 1 w.ws, many));
    phases-long = length-take-le n (drop (1 + n) w.ws) (omega (arith, length-drop (1 + n) w.ws, many));
    pairs-long = omega (arith, length-drop (1 + n + n) w.ws, many);
    amplitudes-fit = take_below 4294967296 n (drop 1 w.ws) (lit< tt) (drop_below 4294967296 1 w.ws floats-within);
    phases-fit = take_below 4294967296 n (drop (1 + n) w.ws) (lit< tt) (drop_below 4294967296 (1 + n) w.ws floats-within);
    pairs-fit = drop_below 4294967296 (1 + n + n) w.ws floats-within;
  }

  fits : Fit h xs ps qs
  fits = rw (w.header_is, w.xs-are, w.ps-are, w.qs-are) at within

module _ (at : ℕ) (bs : List ℕ) (h : Header) (xs ps qs : List ℕ) (next : ℕ) (y : Bytes bs) (e : record_in at bs ≡ taken h xs ps qs next) where
  pub writing-read : Made at bs h xs ps qs next
  writing-read = made y (parts_of at bs h xs ps qs next e)

  -- what was read can be written
  pub read_fits : Fit h xs ps qs
  read_fits = fits y (parts_of at bs h xs ps qs next e)

  read-counted : counted h (length xs) (length ps) (length qs) ≡ true
  read-counted = let f = read_fits in rw (le-leb h.subcarriers 256 f.subcarriers, le-leb h.pairs 256 f.pairs, eq-eqb (length xs) h.subcarriers f.amplitudes-long, eq-eqb (length ps) h.subcarriers f.phases-long, eq-eqb (length qs) (2 * h.pairs) f.pairs-long)

  bytes_back : record_bytes h xs ps qs ≡ take (next - at) bs
  bytes_back =
      let w = writing-read in
      let l : length (record_bytes h xs ps qs) ≡ next - at = omega (arith, w.ends) in
      sym (ap (take (next - at)) w.same ∙ take_at (record_bytes h xs ps qs) w.rest (next - at) l)

  -- the same through the writer: over an output with room from the place p on, the bytes that were read
  pub writing-output : (out : List ℕ) (p : ℕ) → p + (next - at) ≤ length out → write_of out p h xs ps qs ≡ write (answer 0 (place (p + (next - at)))) (sets out p (take (next - at) bs))
  unfolding write_of
  writing-output out p l =
      let w = writing-read in
      let m : length (record_bytes h xs ps qs) ≡ next - at = omega (arith, w.ends) in
      let r : p + length (record_bytes h xs ps qs) ≤ length out = omega arith in
      rw (read-counted, le-leb (p + length (record_bytes h xs ps qs)) (length out) r, m, bytes_back)
