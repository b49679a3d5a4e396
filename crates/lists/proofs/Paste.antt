-- Laws of a list that is laid over the front of a store, or copied into a list from place `at`. Assumes nothing.
use Prim.Native.Nat.{ℕ, ◌+◌, ◌-◌, ◌≤◌, ◌<◌, min}
use mathlib.Core.Path.{◌≡◌, sym, subst, ◌∙◌}
use mathlib.Core.List.{List, [], ◌++◌, append_assoc, append-nil}
use native.Mathlib.Omega.{arith}
use native.Mathlib.Nat.{eq-or-lt_of_le, min-le_left}
use mathlib.Core.Logic.{⊎_elim}
use lib.ListN.{length, take, drop, get_or, length-drop, get_or-append, drop_of_length-le}
use lib.Seq.{paste, take_all, take-length, drop-length, drop-drop, get_or-take, get_or-drop, get_or-append-add, length-take-le, length_paste_head}
use Rattle.lists.specs.Laid.{laid}
use Rattle.lists.proofs.Tab.{Over, tab-take}

module _ {A : Type 0} where
  -- ---- a list laid over the front of a store

  -- one that fits is there whole
  pub laid-fits : (l s : List A) → length l ≤ length s → laid l s ≡ l ++ drop (length l) s
  unfolding laid
  laid-fits l s h = rw (take_all (length s) l h)

  laid-long : (l s : List A) → length s ≤ length l → laid l s ≡ take (length s) l ++ []
  unfolding laid
  laid-long l s h = rw (drop_of_length-le s h)

  -- as many places as the shorter list has, and the rest of the store
  pub laid_front : (l s : List A) {k : ℕ} → k ≡ min (length l) (length s) → take k l ++ drop k s ≡ laid l s
  laid_front l s {k} e =
      ⊎_elim
      (λ b. let g : k ≡ length l = omega arith in rw (g, take-length l) (sym (laid-fits l s (omega arith))))
      (λ b. let g : k ≡ length s = omega arith in rw (g, drop-length s) (sym (laid-long l s (omega arith))))
      (eq-or-lt_of_le (min-le_left (length l) (length s)))

  -- what a loop that copies place by place leaves, once the shorter length is copied
  pub over-laid : (z : A) (l s : List A) {out : List A} {k : ℕ} → Over (λ i. get_or l i z) s k out → k ≡ min (length l) (length s) → out ≡ laid l s
  over-laid z l s {out} {k} o e = o.is ∙ rw (← tab-take z l k (omega (arith, min-le_left (length l) (length s)))) (laid_front l s e)

  laid_from : (d s : List A) (at : ℕ) → at + length s ≤ length d → take at d ++ laid s (drop at d) ≡ paste d at s (length s)
  laid_from d s at h =
      rw (laid-fits s (drop at d) (omega (arith, length-drop at d)), drop-drop (length s) at d, take-length s)
      (sym (append_assoc (take at d) s (drop (at + length s) d)))

  -- the part from place `at` on was lent, and s laid over it: s is copied there
  pub laid-part : (d s : List A) (at : ℕ) → at + length s ≤ length d
      → take at d ++ (laid s (take (length d - at) (drop at d)) ++ drop (length d - at) (drop at d)) ≡ paste d at s (length s)
  laid-part d s at h =
      let e : length (drop at d) ≤ length d - at = omega (arith, length-drop at d) in
      rw (take_all (length d - at) (drop at d) e, drop_of_length-le (drop at d) e, append-nil) (laid_from d s at h)

  -- ---- what stands where s was copied, and before that

  at-add : (p q : List A) (n k : ℕ) (z : A) → length p ≡ n → get_or (p ++ q) (n + k) z ≡ get_or q k z
  at-add p q n k z e = subst (λ (m : ℕ). get_or (p ++ q) (m + k) z ≡ get_or q k z) e (get_or-append-add p q k z)

  module _ (d : List A) (at : ℕ) (s : List A) (n : ℕ) (z : A) (fits : at + n ≤ length d) (long : n ≤ length s) where
    head : length (take at d ++ take n s) ≡ at + n
    head = length_paste_head d at s n (omega arith) long

    pub paste-in : (k : ℕ) → k < n → get_or (paste d at s n) (at + k) z ≡ get_or s k z
    paste-in k h =
        get_or-append (take at d ++ take n s) (drop (at + n) d) z (at + k) (omega (arith, head))
        ∙ at-add (take at d) (take n s) at k z (length-take-le at d (omega arith)) ∙ get_or-take n s k z h

    pub paste-before : (i : ℕ) → i < at → get_or (paste d at s n) i z ≡ get_or d i z
    paste-before i h =
        get_or-append (take at d ++ take n s) (drop (at + n) d) z i (omega (arith, head))
        ∙ get_or-append (take at d) (take n s) z i (omega (arith, length-take-le at d (omega arith)))
        ∙ get_or-take at d i z h

    pub paste-after : (i : ℕ) → get_or (paste d at s n) (at + n + i) z ≡ get_or d (at + n + i) z
    paste-after i = at-add (take at d ++ take n s) (drop (at + n) d) (at + n) i z head ∙ get_or-drop (at + n) d i z
