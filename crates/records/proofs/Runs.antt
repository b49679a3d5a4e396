-- Writing values in a row, one a turn: what is left to write, written, gives what is to be written. For numbers and floats alike.
-- Assumes nothing.
use mathlib.Core.Path.{◌≡◌, refl, sym, ap, ◌∙◌}
use mathlib.Core.List.{List, [], ◌∷◌, ◌++◌, append_assoc}
use Prim.Native.Nat.{ℕ, suc, ◌+◌, ◌*◌, ◌/◌, ◌%◌, ◌≤◌, ◌<◌}
use native.Mathlib.Nat.{add-zero, add-suc, suc-add}
use native.Mathlib.Numerals.{add-one}
use native.Mathlib.Omega.{arith}
use borrow.Rule.Slice.PartMut.{put_mid}
use lib.ListN.{length, get_or, set, take, drop, length-append, drop_of_length-le}
use lib.Seq.{sets, sets-eq, length-sets, drop-cons, drop-drop}
use Rattle.std.specs.Int.{to_le_bytes, w32}
use Rattle.records.specs.Numbers.{number_bytes}
use Rattle.records.specs.Records.{each, float_bytes}

pub sets_sets : (d : List ℕ) (at : ℕ) (xs ys : List ℕ) → sets (sets d at xs) (at + length xs) ys ≡ sets d at (xs ++ ys)
sets_sets d at [] ys = ap (λ (k : ℕ). sets d k ys) (add-zero at)
sets_sets d at (x ∷ xs) ys = ap (λ (k : ℕ). sets (sets (set d at x) (suc at) xs) k ys) (add-suc at (length xs) ∙ sym (suc-add at (length xs))) ∙ sets_sets (set d at x) (suc at) xs ys

-- the bytes of a list from i on are those of the value at i and those from i + 1 on
pub each_next : {A : Type 0} (bytes : A → List ℕ) (vs : List A) (i : ℕ) (v : A) → i < length vs → each bytes (drop i vs) ≡ bytes (get_or vs i v) ++ each bytes (drop (i + 1) vs)
unfolding each
each_next bytes vs i v h = rw (drop-cons vs i v h, add-one i)

pub each_none : {A : Type 0} (bytes : A → List ℕ) (vs : List A) (i : ℕ) → length vs ≤ i → each bytes (drop i vs) ≡ []
unfolding each
each_none bytes vs i h = rw (drop_of_length-le vs h)

-- bytes copied into the k places from `at` on
pub put-sets : (d : List ℕ) (at k : ℕ) (ys bs : List ℕ) → at + k ≤ length d → ys ≡ bs → k ≡ length bs → put_mid at k d ys ≡ sets d at bs
put-sets d at k ys bs h e w =
    ap (λ (l : List ℕ). take at d ++ (l ++ drop k (drop at d))) e ∙ ap (λ (l : List ℕ). take at d ++ (bs ++ l)) (drop-drop k at d ∙ ap (λ (m : ℕ). drop (at + m) d) w)
    ∙ sym (append_assoc (take at d) bs (drop (at + length bs) d))
    ∙ sym (sets-eq bs d at (omega (arith, w)))

-- the bytes of a float, the lowest first
pub float-bytes : (v : ℕ) → v < 4294967296 → to_le_bytes w32 v ≡ float_bytes v
float-bytes v h =
    let e : v / 16777216 % 256 ≡ v / 16777216 = omega arith in
    ap (λ (x : ℕ). v % 256 ∷ v / 256 % 256 ∷ v / 65536 % 256 ∷ x ∷ []) e

pub floats_long : (vs : List ℕ) → length (each float_bytes vs) ≡ 4 * length vs
unfolding each
floats_long [] = refl
floats_long (v ∷ vs) = omega (arith, floats_long vs)

-- i values of vs are written from `at` on over d₀, which has become d, and p is the next place
pub record Left {A : Type 0} (bytes : A → List ℕ) (vs : List A) (d₀ : List ℕ) (at : ℕ) (d : List ℕ) (p i : ℕ) : Type 0 where
  pub wide : length d ≡ length d₀
  pub ends : p + length (each bytes (drop i vs)) ≡ at + length (each bytes vs)
  pub same : sets d p (each bytes (drop i vs)) ≡ sets d₀ at (each bytes vs)

module _ {A : Type 0} (bytes : A → List ℕ) (vs : List A) (d₀ : List ℕ) (at : ℕ) where
  module _ (d : List ℕ) (p i : ℕ) (v : A) (w : Left bytes vs d₀ at d p i) where
    next : i < length vs → v ≡ get_or vs i v → each bytes (drop i vs) ≡ bytes v ++ each bytes (drop (i + 1) vs)
    next h e = each_next bytes vs i v h ∙ ap (λ (x : A). bytes x ++ each bytes (drop (i + 1) vs)) (sym e)

    pub left-room : i < length vs → v ≡ get_or vs i v → at + length (each bytes vs) ≤ length d₀ → p + length (bytes v) ≤ length d
    left-room h e l = omega (arith, w.wide, w.ends, ap length (next h e), length-append (bytes v) (each bytes (drop (i + 1) vs)))

    pub left_more : (d' : List ℕ) (r : ℕ) → i < length vs → v ≡ get_or vs i v → r ≡ p + length (bytes v) → d' ≡ sets d p (bytes v) → Left bytes vs d₀ at d' r (i + 1)
    left_more d' r h e a g = record {
      wide = ap length g ∙ length-sets d p (bytes v) ∙ w.wide;
      ends = omega (arith, w.ends, a, ap length (next h e), length-append (bytes v) (each bytes (drop (i + 1) vs)));
      same =
          rw (g, a) (sets_sets d p (bytes v) (each bytes (drop (i + 1) vs)))
          ∙ ap (sets d p) (sym (next h e))
          ∙ w.same;
    }

  pub left-done : (d : List ℕ) (p i : ℕ) → Left bytes vs d₀ at d p i → length vs ≤ i → (p ≡ at + length (each bytes vs)) × (d ≡ sets d₀ at (each bytes vs))
  left-done d p i w h = (omega (arith, w.ends, ap length (each_none bytes vs i h)), rw (each_none bytes vs i h) at w.same)

-- ---- how many bytes the first i numbers take
pub record Summed (vs : List ℕ) (sum i : ℕ) : Type 0 where
  pub most : i ≤ length vs
  pub ends : sum + length (each number_bytes (drop i vs)) ≡ length (each number_bytes vs)
  pub few : sum ≤ 10 * i

pub summed_more : (vs : List ℕ) (sum i n : ℕ) → i < length vs → (n ≡ length (number_bytes (get_or vs i 0))) × (n ≤ 10) → Summed vs sum i → Summed vs (sum + n) (i + 1)
summed_more vs sum i n h e w = record {
  most = omega arith;
  ends = omega (arith, w.ends, ap length (each_next number_bytes vs i 0 h), length-append (number_bytes (get_or vs i 0)) (each number_bytes (drop (i + 1) vs)));
  few = omega (arith, w.few);
}

pub summed_all : (vs : List ℕ) (sum i : ℕ) → length vs ≤ i → Summed vs sum i → (sum ≡ length (each number_bytes vs)) × (sum ≤ 10 * length vs)
summed_all vs sum i h w = (omega (arith, w.ends, ap length (each_none number_bytes vs i h)), omega (arith, w.most, w.few))
