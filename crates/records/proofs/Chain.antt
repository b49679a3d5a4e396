-- A run of writes, one after the other, is the write of all their bytes.
-- Assumes nothing.
use mathlib.Core.Path.{◌≡◌, ap, ◌∙◌}
use mathlib.Core.List.{List, ◌++◌}
use Prim.Native.Nat.{ℕ, ◌+◌, ◌*◌, ◌≤◌}
use native.Mathlib.Omega.{arith}
use lib.ListN.{length, length-append}
use lib.Seq.{sets, length-sets}
use Rattle.records.specs.Numbers.{number_bytes}
use Rattle.records.specs.Records.{each, numbers_of, record_bytes}
use Rattle.records.specs.declared.Header.{Header}
use Rattle.records.proofs.Runs.{sets_sets, floats_long}

-- the bytes bs have been written from `at` on over d₀, which has become d, and p is the place after them
pub record Put (d₀ : List ℕ) (at : ℕ) (bs d : List ℕ) (p : ℕ) : Type 0 where
  pub place : p ≡ at + length bs
  pub same : d ≡ sets d₀ at bs

module _ {d₀ : List ℕ} {at : ℕ} {bs d : List ℕ} {p : ℕ} (w : Put d₀ at bs d p) where
  pub put-more : (cs d' : List ℕ) (r : ℕ) → r ≡ p + length cs → d' ≡ sets d p cs → Put d₀ at (bs ++ cs) d' r
  put-more cs d' r e s = record {
    place = omega (arith, e, w.place, length-append bs cs);
    same = s ∙ ap (λ (x : List ℕ). sets x p cs) w.same ∙ ap (λ (k : ℕ). sets (sets d₀ at bs) k cs) w.place ∙ sets_sets d₀ at bs cs;
  }

  pub put-room : (n : ℕ) → at + (length bs + n) ≤ length d₀ → p + n ≤ length d
  put-room n h = omega (arith, w.place, ap length w.same, length-sets d₀ at bs)

pub record_long : (h : Header) (xs ps qs : List ℕ) → length (record_bytes h xs ps qs) ≡ length (each number_bytes (numbers_of h)) + 4 + 4 * length xs + 4 * length ps + 4 * length qs
unfolding record_bytes
record_long h xs ps qs = simp (length-append, floats_long)

-- the numbers of a header, written first
pub put_numbers : {d₀ : List ℕ} {at : ℕ} {d : List ℕ} {p : ℕ} (vs us : List ℕ) → vs ≡ us → p ≡ at + length (each number_bytes vs) → d ≡ sets d₀ at (each number_bytes vs) → Put d₀ at (each number_bytes us) d p
put_numbers {d₀} {at} vs us e a b = record {
  place = a ∙ ap (λ (l : List ℕ). at + length (each number_bytes l)) e;
  same = b ∙ ap (λ (l : List ℕ). sets d₀ at (each number_bytes l)) e;
}
