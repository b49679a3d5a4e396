-- Bytes written one after the other are the write of them all.
-- Assumes nothing.
use mathlib.Core.Path.{◌≡◌, refl, sym, ap, ◌∙◌}
use mathlib.Core.List.{List, [], ◌∷◌, ◌++◌, append_assoc}
use borrow.Rule.Slice.PartMut.{put_mid}
use Prim.Native.Nat.{ℕ, suc, ◌+◌, ◌≤◌}
use native.Mathlib.Nat.{add-zero, add-suc, suc-add}
use native.Mathlib.Omega.{arith}
use lib.ListN.{length, set, take, drop, length-append, drop_of_length-le}
use lib.Seq.{sets, sets-eq, set_comm, drop-drop}
use Rattle.listing.specs.Lines.{Placed}

pub sets_sets : (d : List ℕ) (at : ℕ) (xs ys : List ℕ) → sets (sets d at xs) (at + length xs) ys ≡ sets d at (xs ++ ys)
sets_sets d at [] ys = ap (λ (k : ℕ). sets d k ys) (add-zero at)
sets_sets d at (x ∷ xs) ys = ap (λ (k : ℕ). sets (sets (set d at x) (suc at) xs) k ys) (add-suc at (length xs) ∙ sym (suc-add at (length xs))) ∙ sets_sets (set d at x) (suc at) xs ys

-- the last byte may be written first
pub sets_last : (d : List ℕ) (at : ℕ) (xs : List ℕ) (g : ℕ) → sets (set d (at + length xs) g) at xs ≡ sets d at (xs ++ (g ∷ []))
sets_last d at [] g = ap (λ (k : ℕ). set d k g) (add-zero at)
sets_last d at (x ∷ xs) g =
    ap (λ (l : List ℕ). sets l (suc at) xs)
    (set_comm d (at + suc (length xs)) at g x (λ e. omega arith)
    ∙ ap (λ (k : ℕ). set (set d at x) k g) (add-suc at (length xs) ∙ sym (suc-add at (length xs))))
    ∙ sets_last (set d at x) (suc at) xs g

-- a list written over one of its length
pub sets_whole : (d bs : List ℕ) → length bs ≡ length d → sets d 0 bs ≡ bs
sets_whole d bs e = go (sets-eq bs d 0 (omega (arith, e)))
  where
    go : sets d 0 bs ≡ take 0 d ++ bs ++ drop (0 + length bs) d → sets d 0 bs ≡ bs
    go h = h ∙ ap (λ (l : List ℕ). bs ++ l) (rest e) ∙ nil bs
      where
        rest : length bs ≡ length d → drop (0 + length bs) d ≡ []
        rest q = let m : length d ≤ 0 + length bs = omega (arith, q) in drop_of_length-le d m

        nil : (l : List ℕ) → l ++ [] ≡ l
        nil [] = refl
        nil (x ∷ l) = ap (λ (r : List ℕ). x ∷ r) (nil l)

-- bytes copied into the k places from `at` on
pub put-sets : (d : List ℕ) (at k : ℕ) (ys bs : List ℕ) → at + k ≤ length d → ys ≡ bs → k ≡ length bs → put_mid at k d ys ≡ sets d at bs
put-sets d at k ys bs h e w =
    ap (λ (l : List ℕ). take at d ++ (l ++ drop k (drop at d))) e ∙ ap (λ (l : List ℕ). take at d ++ (bs ++ l)) (drop-drop k at d ∙ ap (λ (m : ℕ). drop (at + m) d) w)
    ∙ sym (append_assoc (take at d) bs (drop (at + length bs) d))
    ∙ sym (sets-eq bs d at (omega (arith, w)))

-- ---- one write after another
module _ {d₀ : List ℕ} {at : ℕ} {bs : List ℕ} {n : ℕ} {d : List ℕ} {p : ℕ} (w : Placed d₀ at bs n d p) where
  pub placed-more : {cs : List ℕ} {m : ℕ} {d' : List ℕ} {r : ℕ} → Placed d p cs m d' r → Placed d₀ at (bs ++ cs) (n + m) d' r
  placed-more {cs} {m} {d'} {r} v = record {
    place = omega (arith, v.place, w.place, length-append bs cs);
    few = omega (arith, v.few, w.few, length-append bs cs);
    same = v.same ∙ ap (λ (x : List ℕ). sets x p cs) w.same ∙ ap (λ (k : ℕ). sets (sets d₀ at bs) k cs) w.place ∙ sets_sets d₀ at bs cs;
  }

  -- a last byte
  pub placed-byte : (b : ℕ) → Placed d₀ at (bs ++ (b ∷ [])) (n + 1) (set d p b) (p + 1)
  placed-byte b = placed-more (record { place = refl; few = omega arith; same = refl })

pub placed : {d₀ : List ℕ} {at : ℕ} {d : List ℕ} {p : ℕ} (bs : List ℕ) (n : ℕ) → length bs ≤ n → p ≡ at + length bs → d ≡ sets d₀ at bs → Placed d₀ at bs n d p
placed bs n f a b = record { place = a; few = f; same = b }

-- a line that is whole
pub line_done : {d₀ bs : List ℕ} {n : ℕ} {d : List ℕ} {p : ℕ} → Placed d₀ 0 bs n d p → (p ≡ length bs) × (d ≡ sets d₀ 0 bs)
line_done w = (omega (arith, w.place), w.same)

-- the first word of a line
pub line_start : {d₀ d : List ℕ} {p : ℕ} (bs : List ℕ) → p ≡ 0 + length bs → d ≡ sets d₀ 0 bs → Placed d₀ 0 bs (length bs) d p
line_start bs a b = record { place = a; few = omega arith; same = b }
