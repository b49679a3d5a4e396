-- Laws of the list of f 0, .., f (n - 1), and of a loop that writes it over the front of a list. Assumes nothing.
use Prim.Native.Nat.{ℕ, zero, suc, ◌+◌, ◌≤◌, ◌<◌}
use mathlib.Core.Path.{◌≡◌, refl, sym, ap, ◌∙◌}
use mathlib.Core.List.{List, [], ◌∷◌, ◌++◌, append-nil}
use native.Mathlib.Numerals.{add-one}
use native.Mathlib.Omega.{arith}
use native.Mathlib.Nat.{eq-or-lt_of_le}
use mathlib.Core.Logic.{⊎_elim}
use Rattle.std.proofs.lemmas.List.{replicate_more}
use lib.ListN.{length, replicate, take, drop, set, get_or, length-append, length-set, get_or-append}
use lib.Seq.{drop-cons, set_at, append_snoc, get_or_at, get_or-take, ext_get_or, drop-length, length-take-le}
use Rattle.lists.specs.Tab.{tab}

module _ {A : Type 0} where
  pub length-tab : (f : ℕ → A) (n : ℕ) → length (tab f n) ≡ n
  unfolding tab
  length-tab f zero = refl
  length-tab f (suc n) = length-append (tab f n) (f n ∷ []) ∙ omega (arith, length-tab f n)

  -- equal values give equal lists
  pub tab-same : (f g : ℕ → A) (n : ℕ) → ((k : ℕ) → k < n → f k ≡ g k) → tab f n ≡ tab g n
  unfolding tab
  tab-same f g zero h = refl
  tab-same f g (suc n) h = rw (tab-same f g n (λ k b. h k (omega arith)), h n (omega arith))

  tab-none : (f : ℕ → A) (l : List A) → l ≡ tab f 0 ++ drop 0 l
  unfolding tab
  tab-none f l = refl

  tab-more : (f : ℕ → A) (l : List A) (n : ℕ) → n < length l → set (tab f n ++ drop n l) n (f n) ≡ tab f (n + 1) ++ drop (n + 1) l
  unfolding tab
  tab-more f l n h =
      rw (add-one, drop-cons l n (f n)) (set_at (tab f n) _ _ (f n) n (length-tab f n) ∙ sym (append_snoc (tab f n) (f n) (drop (suc n) l)))

  -- `out` is `l` with its first n places written: what a loop that writes a result list keeps
  pub record Over (f : ℕ → A) (l : List A) (n : ℕ) (out : List A) : Type 0 where
    pub long : length out ≡ length l
    pub is : out ≡ tab f n ++ drop n l

  pub over_none : (f : ℕ → A) (l : List A) → Over f l 0 l
  over_none f l = record { long = refl; is = tab-none f l }

  -- a turn
  pub over-more : {f : ℕ → A} {l out : List A} {n : ℕ} {v : A} → Over f l n out → n < length l → v ≡ f n → Over f l (n + 1) (set out n v)
  over-more {f} {l} {out} {n} {v} o h e =
      record { long = length-set out n v ∙ o.long; is = rw (o.is, e) (tab-more f l n h) }

  pub over_done : {f : ℕ → A} {l out : List A} {k n : ℕ} → Over f l k out → k ≡ n → out ≡ tab f n ++ drop n l
  over_done o e = rw e at o.is

  -- every place was written
  pub over-all : {f : ℕ → A} {l out : List A} {n : ℕ} → Over f l n out → n ≡ length l → out ≡ tab f (length l)
  over-all {f} {l} o e = over_done o e ∙ rw (drop-length l) (append-nil (tab f (length l)))

  -- the place that is written next still has what it had
  over-next : {f : ℕ → A} {l out : List A} {n : ℕ} (z : A) → Over f l n out → n < length l → get_or out n z ≡ get_or l n z
  over-next {f} {l} {out} {n} z o h =
      rw (o.is, drop-cons l n z) (get_or_at (tab f n) (get_or l n z) (drop (suc n) l) z n (length-tab f n))

  -- a turn that makes its place from what stands there
  pub over-step : {f : ℕ → A} {l out : List A} {n : ℕ} {v : A} (z : A) → Over f l n out → n < length l → (get_or out n z ≡ get_or l n z → v ≡ f n)
      → Over f l (n + 1) (set out n v)
  over-step z o h e = over-more o h (e (over-next z o h))

  -- what stands at place k
  pub getD-tab : (f : ℕ → A) (n k : ℕ) (z : A) → k < n → get_or (tab f n) k z ≡ f k
  unfolding tab
  getD-tab f zero k z h = absurd (omega arith)
  getD-tab f (suc n) k z h = ⊎_elim
      (λ e. rw e (get_or_at (tab f n) (f n) [] z n (length-tab f n)))
      (λ b. get_or-append (tab f n) (f n ∷ []) z k (omega (arith, length-tab f n)) ∙ getD-tab f n k z b)
      (eq-or-lt_of_le {n = k} {m = n} (omega arith))

  -- a list that has f k at each place k is the list of them
  pub tab-ext : (f : ℕ → A) (z : A) (l : List A) → ((k : ℕ) → k < length l → get_or l k z ≡ f k) → l ≡ tab f (length l)
  tab-ext f z l e = ext_get_or z l (tab f (length l)) (sym (length-tab f (length l))) (λ k h. e k h ∙ sym (getD-tab f (length l) k z h))

  -- the first n of a list
  pub tab-take : (z : A) (l : List A) (n : ℕ) → n ≤ length l → take n l ≡ tab (λ k. get_or l k z) n
  tab-take z l n h =
      let e : length (take n l) ≡ n = length-take-le n l h in
      rw e at (tab-ext (λ k. get_or l k z) z (take n l) (λ k b. get_or-take n l k z (omega arith)))

  -- the list of one value
  pub tab-replicate : (v : A) (n : ℕ) → replicate n v ≡ tab (λ k. v) n
  unfolding tab
  tab-replicate v zero = refl
  tab-replicate v (suc n) = sym (rw add-one at (replicate_more n v)) ∙ ap (λ l. l ++ (v ∷ [])) (tab-replicate v n)
