-- Numbers: reading what was written returns it, writing what was read returns the bytes, and what more bytes behind change.
-- Assumes nothing.
use mathlib.Core.Path.{◌≡◌, refl, sym, ap, ◌∙◌}
use mathlib.Core.List.{List, [], ◌∷◌, ◌++◌}
use mathlib.Core.Bool.{Bool, true, false, cond}
use Prim.Native.Nat.{ℕ, zero, suc, ◌+◌, ◌-◌, ◌*◌, ◌/◌, ◌%◌, ◌≤◌, ◌<◌, zero-le, suc-le-suc}
use native.Mathlib.Nat.{lt_of_lt_of_le, not-suc-le-zero}
use native.Mathlib.Omega.{arith}
use borrow.Author.Tests.{lt-ltb, le-ltb, ltb-true, ltb-false}
use lib.Dec.{ltb}
use lib.Pow.{pow_mono}
use lib.ListN.{length, get_or, take}
use Rattle.records.specs.Numbers.{Found, found, fault, after, number_in, bytes_in}
use Rattle.records.specs.declared.Fault.{Fault}
use Rattle.records.specs.declared.Fault.TheVariants.{Cut, Malformed}
use Rattle.records.proofs.Groups.{room, room_suc, down_group, room_zero, bytes_last, bytes_more}

in_last : (k b : ℕ) (bs : List ℕ) → b < 128 → number_in (suc k) (b ∷ bs) ≡ found b 1
unfolding number_in
in_last k b bs h = rw (lt-ltb b 128 h)

in_more : (k b : ℕ) (bs : List ℕ) → 128 ≤ b → number_in (suc k) (b ∷ bs) ≡ after b (number_in k bs)
unfolding number_in
in_more k b bs h = rw (le-ltb b 128 h)

after_found : (b v n : ℕ) → 0 < v → after b (found v n) ≡ found (b - 128 + 128 * v) (suc n)
unfolding after
after_found b zero n h = absurd (not-suc-le-zero h)
after_found b (suc v) n h = refl

-- ---- reading what was written
pub read_written : (k v : ℕ) (rest : List ℕ) → v < room k → number_in k (bytes_in k v ++ rest) ≡ found v (length (bytes_in k v))
unfolding number_in bytes_in
read_written zero v rest h = rw (lt-ltb v 2 (room_zero v h))
read_written (suc k) v rest h = go (read_written k (v / 128) rest (down_group k v h)) (ltb v 128) refl
  where
    go : number_in k (bytes_in k (v / 128) ++ rest) ≡ found (v / 128) (length (bytes_in k (v / 128))) → (b : Bool) → ltb v 128 ≡ b → number_in (suc k) (cond b (v ∷ []) ((128 + v % 128) ∷ bytes_in k (v / 128)) ++ rest) ≡ found v (length (cond b (v ∷ []) ((128 + v % 128) ∷ bytes_in k (v / 128))))
    go ih true e = in_last k v rest (ltb-true v 128 e)
    go ih false e =
        let l : 128 ≤ v = ltb-false v 128 e in
        let w : 128 + v % 128 - 128 + 128 * (v / 128) ≡ v = omega arith in
        in_more k (128 + v % 128) (bytes_in k (v / 128) ++ rest) (omega arith)
        ∙ ap (after (128 + v % 128)) ih
        ∙ after_found (128 + v % 128) (v / 128) (length (bytes_in k (v / 128))) (omega arith)
        ∙ ap (λ (x : ℕ). found x (suc (length (bytes_in k (v / 128))))) w

-- ---- what is read fits
value_of : (a b n m : ℕ) → found a n ≡ found b m → a ≡ b
value_of a b n m p = cc

width_of : (a b n m : ℕ) → found a n ≡ found b m → n ≡ m
width_of a b n m p = cc

pub record Written (k : ℕ) (bs : List ℕ) (v n : ℕ) : Type 0 where
  pub fits : v < room k
  pub inside : n ≤ length bs
  pub same : take n bs ≡ bytes_in k v

-- what a list of bytes is
abbrev pub Bytes : List ℕ → Type 0
Bytes bs = (i : ℕ) → get_or bs i 0 < 256

pub no_fault : (f : Fault) (v n : ℕ) → fault f ≡ found v n → ⊥
no_fault f v n p = let z : ◌≡◌ {A = ℕ} 0 1 = cc in omega arith

as_found : (k : ℕ) (bs : List ℕ) (a m v n : ℕ) → found a m ≡ found v n → Written k bs a m → Written k bs v n
as_found k bs a m v n p w = rw (value_of a v m n p, width_of a v m n p) at w

one_byte : (k b : ℕ) (bs : List ℕ) → b < 128 → b < room k → Written k (b ∷ bs) b 1
one_byte k b bs h r = record { fits = r; inside = suc-le-suc zero-le; same = sym (bytes_last k b h) }

two_room : (b : ℕ) → b < 2 → b < room 0
unfolding room
two_room b h = h

small_room : (k b : ℕ) → b < 128 → b < room (suc k)
unfolding room
small_room k b h = lt_of_lt_of_le h (pow_mono {i = 7} {j = 7 * suc k + 1} (omega arith))

more_bytes : (k b : ℕ) (bs : List ℕ) (v n : ℕ) → 128 ≤ b → b < 256 → 0 < v → Written k bs v n → Written (suc k) (b ∷ bs) (b - 128 + 128 * v) (suc n)
more_bytes k b bs v n h l p w =
    let q : (b - 128 + 128 * v) / 128 ≡ v = omega arith in
    let r : 128 + (b - 128 + 128 * v) % 128 ≡ b = omega arith in
    let g : 128 ≤ b - 128 + 128 * v = omega arith in
    let f : v < room k = w.fits in
    record {
      fits = rw (room_suc k) (omega arith);
      inside = suc-le-suc w.inside;
      same = ap (λ (x : List ℕ). b ∷ x) w.same ∙ sym (bytes_more k (b - 128 + 128 * v) g ∙ cc (q, r));
    }

-- ---- writing what was read
pub written_read : (k : ℕ) (bs : List ℕ) (v n : ℕ) → Bytes bs → number_in k bs ≡ found v n → Written k bs v n
unfolding number_in after
written_read zero [] v n h e = absurd (no_fault _ v n e)
written_read (suc k) [] v n h e = absurd (no_fault _ v n e)
written_read zero (b ∷ bs) v n h e = go (ltb b 2) refl e
  where
    go : (t : Bool) → ltb b 2 ≡ t → cond t (found b 1) (fault Malformed) ≡ found v n → Written 0 (b ∷ bs) v n
    go true p e = as_found 0 (b ∷ bs) b 1 v n e (one_byte 0 b bs (omega (arith, ltb-true b 2 p)) (two_room b (ltb-true b 2 p)))
    go false p e = absurd (no_fault _ v n e)
written_read (suc k) (b ∷ bs) v n h e = go (ltb b 128) refl e (number_in k bs) refl (λ v n. written_read k bs v n (λ i. h (suc i)))
  where
    onward : 128 ≤ b → (f : Found) → ((v n : ℕ) → f ≡ found v n → Written k bs v n) → after b f ≡ found v n → Written (suc k) (b ∷ bs) v n
    onward l (fault f) ih e = absurd (no_fault f v n e)
    onward l (found zero m) ih e = absurd (no_fault _ v n e)
    onward l (found (suc a) m) ih e = as_found (suc k) (b ∷ bs) (b - 128 + 128 * suc a) (suc m) v n e (more_bytes k b bs (suc a) m l (h 0) (suc-le-suc zero-le) (ih (suc a) m refl))

    go : (t : Bool) → ltb b 128 ≡ t → cond t (found b 1) (after b (number_in k bs)) ≡ found v n → (f : Found) → number_in k bs ≡ f → ((v n : ℕ) → number_in k bs ≡ found v n → Written k bs v n) → Written (suc k) (b ∷ bs) v n
    go true p e f q ih = let l = ltb-true b 128 p in as_found (suc k) (b ∷ bs) b 1 v n e (one_byte (suc k) b bs l (small_room k b l))
    go false p e f q ih = onward (ltb-false b 128 p) (number_in k bs) ih e

-- ---- more bytes behind
pub number_stable : (k : ℕ) (bs cs : List ℕ) → (number_in k bs ≡ fault Cut → ⊥) → number_in k (bs ++ cs) ≡ number_in k bs
unfolding number_in after
number_stable zero [] cs h = absurd (h refl)
number_stable (suc k) [] cs h = absurd (h refl)
number_stable zero (b ∷ bs) cs h = refl
number_stable (suc k) (b ∷ bs) cs h = go (ltb b 128) h (number_stable k bs cs)
  where
    go : (t : Bool) → (cond t (found b 1) (after b (number_in k bs)) ≡ fault Cut → ⊥) → ((number_in k bs ≡ fault Cut → ⊥) → number_in k (bs ++ cs) ≡ number_in k bs) → cond t (found b 1) (after b (number_in k (bs ++ cs))) ≡ cond t (found b 1) (after b (number_in k bs))
    go true h ih = refl
    go false h ih = ap (after b) (ih (λ e. h (ap (after b) e)))

-- a number that is cut short has at most k bytes
pub number_cut : (k : ℕ) (bs : List ℕ) → number_in k bs ≡ fault Cut → length bs ≤ k
unfolding number_in after
number_cut k [] e = zero-le
number_cut zero (b ∷ bs) e = go (ltb b 2) e
  where
    go : (t : Bool) → cond t (found b 1) (fault Malformed) ≡ fault Cut → suc (length bs) ≤ 0
    go true e = cc
    go false e = cc
number_cut (suc k) (b ∷ bs) e = go (ltb b 128) e (number_cut k bs)
  where
    in_after : (f : Found) → after b f ≡ fault Cut → f ≡ fault Cut
    in_after (fault g) e = e
    in_after (found zero n) e = cc
    in_after (found (suc v) n) e = cc

    go : (t : Bool) → cond t (found b 1) (after b (number_in k bs)) ≡ fault Cut → (number_in k bs ≡ fault Cut → length bs ≤ k) → suc (length bs) ≤ suc k
    go true e ih = cc
    go false e ih = suc-le-suc (ih (in_after (number_in k bs) e))
