-- What is remembered: the newest 32. Assumes nothing.
use mathlib.Core.Path.{◌≡◌, refl, sym, ap, ◌∙◌}
use mathlib.Core.Bool.{Bool, true, false}
use mathlib.Core.List.{List, [], ◌∷◌, ◌++◌}
use Prim.Native.Nat.{ℕ, zero, suc, ◌+◌, ◌-◌, ◌≤◌, ◌<◌}
use native.Mathlib.Numerals.{add-one}
use native.Mathlib.Omega.{arith}
use borrow.Author.Tests.{lt-ltb, le-ltb, ltb-true, ltb-false}
use lib.Dec.{ltb}
use lib.ListN.{set, length, take, drop, get_or, length-append, length-drop, drop_of_length-le}
use lib.Seq.{take-suc, take-suc-set, take_all, get_or-drop, drop-cons, set_at, drop-append-le, length-take-le}
use lib.Ieee.{nan}
use Rattle.lists.specs.Tab.{tab}
use Rattle.rvcsi_core.specs.declared.window.CsiWindow.{CsiWindow}
use Rattle.pipeline.specs.declared.recent.Recent.{Recent}
use Rattle.pipeline.specs.Recents.{held, newest, remember_of}

-- read beyond a list's end, which no rule does
abbrev pub blank : CsiWindow
blank =
    record {
      window_id = 0;
      session_id = 0;
      source_id = 0;
      start_ns = 0;
      end_ns = 0;
      frame_count = 0;
      motion_energy = nan;
      presence_score = nan;
      quality_score = nan;
    }

shift : (l : List CsiWindow) (n : ℕ) → n + 1 ≤ length l → tab (λ k. get_or l (k + 1) blank) n ≡ take n (drop 1 l)
unfolding tab
shift l zero h = refl
shift l (suc n) h =
    let e : get_or l (n + 1) blank ≡ get_or (drop 1 l) n blank = ap (λ (k : ℕ). get_or l k blank) (omega arith) ∙ sym (get_or-drop 1 l n blank) in
    rw (shift l n (omega arith), e) (sym (take-suc (drop 1 l) n blank (omega (arith, length-drop 1 l))))

pub shifted_is : (l out : List CsiWindow) (w : CsiWindow) → length l ≡ 32 → out ≡ tab (λ k. get_or l (k + 1) blank) 31 ++ drop 31 l → set out 31 w ≡ drop 1 l ++ (w ∷ [])
shifted_is l out w long e =
    let none : drop 32 l ≡ [] = let h : length l ≤ 32 = omega arith in drop_of_length-le l h in
    let front : tab (λ k. get_or l (k + 1) blank) 31 ≡ drop 1 l = shift l 31 (omega arith) ∙ take_all 31 (drop 1 l) (omega (arith, length-drop 1 l)) in
    rw (e, front, drop-cons l 31 blank (omega arith), none) (set_at (drop 1 l) (get_or l 31 blank) [] w 31 (omega (arith, length-drop 1 l)))

module _ (r : Recent) (w : CsiWindow) where
  module _ (long : length r.windows ≡ 32) where
    -- THE NEWEST 32, newest last
    newest-room : r.count < 32 → held (remember_of r w) ≡ newest 32 (held r ++ (w ∷ []))
    unfolding remember_of
    newest-room h =
        let k : length (take r.count r.windows) ≡ r.count = length-take-le r.count r.windows (omega arith) in
        let z : length (take r.count r.windows ++ (w ∷ [])) - 32 ≡ 0 = omega (arith, length-append (take r.count r.windows) (w ∷ [])) in
        rw (lt-ltb r.count 32 h, z, add-one) (take-suc-set r.windows r.count w (omega arith))

    newest-full : r.count ≡ 32 → held (remember_of r w) ≡ newest 32 (held r ++ (w ∷ []))
    unfolding remember_of
    newest-full h =
        let a : take r.count r.windows ≡ r.windows = take_all r.count r.windows (omega arith) in
        let z : length (r.windows ++ (w ∷ [])) - 32 ≡ 1 = omega (arith, length-append r.windows (w ∷ [])) in
        rw (le-ltb r.count 32 (omega arith), a, z)
        (take_all 32 (drop 1 r.windows ++ (w ∷ [])) (omega (arith, length-append (drop 1 r.windows) (w ∷ []), length-drop 1 r.windows)) ∙ sym (drop-append-le 1 r.windows (w ∷ []) (omega arith)))

    pub remembers : r.count ≤ 32 → held (remember_of r w) ≡ newest 32 (held r ++ (w ∷ []))
    remembers h = go (ltb r.count 32) refl
      where
        go : (t : Bool) → t ≡ ltb r.count 32 → held (remember_of r w) ≡ newest 32 (held r ++ (w ∷ []))
        go true e = newest-room (ltb-true _ _ (sym e))
        go false e = newest-full (let f : 32 ≤ r.count = ltb-false _ _ (sym e) in omega arith)
