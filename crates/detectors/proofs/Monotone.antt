-- Demand 3: of two presence detectors the keener one is present whenever the other is. Assumes nothing.
use mathlib.Core.Path.{◌≡◌, refl, sym, ◌∙◌}
use mathlib.Core.Bool.{Bool, true, false, not}
use mathlib.Core.Logic.{inl, inr}
use mathlib.Core.List.{List, [], ◌∷◌, map}
use Prim.Native.Nat.{ℕ, ◌+◌, ◌≤◌, zero-le}
use native.Mathlib.Omega.{arith}
use lib.Dec.{T, leb, leb→le, le→leb}
use lib.Ieee.{Float, le, is_nan}
use Rattle.floats.proofs.Order.{le_trans, lt_not_le}
use Rattle.detectors.specs.declared.presence.PresenceConfig.{PresenceConfig}
use Rattle.detectors.specs.Hysteresis.{Moved, moved, move}
use Rattle.detectors.specs.Presence.{presence_accepted, present_after}
use Rattle.detectors.specs.Pairs.{Pair, NoLower, EachNoLower, Keener}
use Rattle.detectors.proofs.Accepted.{presence_settings}
use Rattle.detectors.proofs.Confidence.{le_numbers}
use Rattle.detectors.proofs.Switch.{run}
use Rattle.detectors.proofs.PresenceHistory.{as-switch, same-on}

-- ---- how the two switches stand to each other: position and streak of the first, then of the second
abbrev Ahead : Bool → ℕ → Bool → ℕ → Type 0
Ahead false k false l = k ≤ l
Ahead false k true l = Unit
Ahead true k false l = ⊥
Ahead true k true l = l ≤ k

abbrev AheadM : Moved → Moved → Type 0
AheadM m n = Ahead m.on m.streak n.on n.streak

-- both off
off_off : (k l : ℕ) (x y x' y' : Bool) → k ≤ l → (T x → T x') → (T y → T y') → AheadM (moved false x y k) (moved false x' y' l)
off_off k l false y false y' h f g = zero-le
off_off k l false y true false h f g = zero-le
off_off k l false y true true h f g = tt
off_off k l true y false y' h f g = absurd (f tt)
off_off k l true false true false h f g = omega arith
off_off k l true false true true h f g = tt
off_off k l true true true false h f g = absurd (g tt)
off_off k l true true true true h f g = zero-le

-- both on
on_on : (k l : ℕ) (x y x' y' : Bool) → l ≤ k → (T x' → T x) → (T y' → T y) → AheadM (moved true x y k) (moved true x' y' l)
on_on k l false y false y' h f g = zero-le
on_on k l true false false y' h f g = zero-le
on_on k l true true false y' h f g = tt
on_on k l false y true y' h f g = absurd (f tt)
on_on k l true false true false h f g = omega arith
on_on k l true true true false h f g = tt
on_on k l true false true true h f g = absurd (g tt)
on_on k l true true true true h f g = zero-le

-- the first off and the second on: no window counts for both
off_on : (k l : ℕ) (x y x' y' : Bool) → (T x → T x' → ⊥) → AheadM (moved false x y k) (moved true x' y' l)
off_on k l false y false y' f = tt
off_on k l false y true false f = tt
off_on k l false y true true f = zero-le
off_on k l true false false y' f = tt
off_on k l true true false y' f = zero-le
off_on k l true y true y' f = absurd (f tt tt)

reached : (c d k l : ℕ) → d ≤ c → k ≤ l → T (leb c (k + 1)) → T (leb d (l + 1))
reached c d k l h j t = le→leb d (l + 1) (omega (arith, leb→le c (k + 1) t))

ahead_step : (enter exit enter' exit' : ℕ) → enter' ≤ enter → exit ≤ exit' → (hi lo hi' lo' : Bool) → (T hi → T hi') → (T lo' → T lo) → (T hi → T lo' → ⊥) → (b : Bool) (k : ℕ) (b' : Bool) (k' : ℕ)
    → Ahead b k b' k' → AheadM (move enter exit hi lo b k) (move enter' exit' hi' lo' b' k')
unfolding move
ahead_step enter exit enter' exit' e x hi lo hi' lo' up down apart false k false k' h = off_off k k' hi (leb enter (k + 1)) hi' (leb enter' (k' + 1)) h up (reached enter enter' k k' e h)
ahead_step enter exit enter' exit' e x hi lo hi' lo' up down apart false k true k' h = off_on k k' hi (leb enter (k + 1)) lo' (leb exit' (k' + 1)) apart
ahead_step enter exit enter' exit' e x hi lo hi' lo' up down apart true k false k' h = absurd h
ahead_step enter exit enter' exit' e x hi lo hi' lo' up down apart true k true k' h = on_on k k' lo (leb exit (k + 1)) lo' (leb exit' (k' + 1)) h down (reached exit' exit k' k x h)

says : (b : Bool) (k : ℕ) (b' : Bool) (k' : ℕ) → Ahead b k b' k' → b ≡ true → b' ≡ true
says false k b' k' h e = absurd (mathlib.Core.Bool.false≢true e)
says true k false k' h e = absurd h
says true k true k' h e = refl

not_so : (b : Bool) → T b → T (not b) → ⊥
not_so true p q = q
not_so false p q = p

abbrev firsts : List Pair → List Float
firsts windows = map (λ (w : Pair). w.first) windows

abbrev seconds : List Pair → List Float
seconds windows = map (λ (w : Pair). w.second) windows

module _ (c d : PresenceConfig) (ok : presence_accepted c ≡ true) (keener : Keener c d) where
  high : (w : Pair) → NoLower w → T (le c.on_threshold w.first) → T (le d.on_threshold w.second)
  high w (inl n) h = absurd (not_so (is_nan w.first) n.0 (le_numbers c.on_threshold w.first h).1)
  high w (inr n) h = le_trans d.on_threshold w.first w.second (le_trans d.on_threshold c.on_threshold w.first keener.on-no-higher h) n.2

  low : (w : Pair) → NoLower w → T (le w.second d.off_threshold) → T (le w.first c.off_threshold)
  low w (inl n) h = absurd (not_so (is_nan w.second) n.1 (le_numbers w.second d.off_threshold h).0)
  low w (inr n) h = le_trans w.first w.second c.off_threshold n.2 (le_trans w.second d.off_threshold c.off_threshold h keener.off-no-higher)

  apart : (w : Pair) → NoLower w → T (le c.on_threshold w.first) → T (le w.second d.off_threshold) → ⊥
  apart w n h k = lt_not_le c.off_threshold c.on_threshold (presence_settings c ok).apart (le_trans c.on_threshold w.first c.off_threshold h (low w n k))

  ahead : (windows : List Pair) → EachNoLower windows → AheadM (as-switch c (firsts windows)) (as-switch d (seconds windows))
  unfolding run
  ahead [] each = zero-le
  ahead (w ∷ windows) each =
      let m = as-switch c (firsts windows) in
      let n = as-switch d (seconds windows) in
      ahead_step c.enter_windows c.exit_windows d.enter_windows d.exit_windows keener.enter-no-higher keener.exit-no-lower (le c.on_threshold w.first) (le w.first c.off_threshold)
      (le d.on_threshold w.second) (le w.second d.off_threshold) (high w each.0) (low w each.0) (apart w each.0) m.on m.streak n.on n.streak (ahead windows each.1)

-- DEMAND 3. Two presence detectors, settings accepted, both fresh, equally many windows; in each pair of scores both NaN, or neither and the second no
-- lower; on, off and enter no higher, exit no lower: the first present implies the second present. Windows are newest first, so this speaks of the moment
-- after every window.
pub demand_3 : (c d : PresenceConfig) → presence_accepted c ≡ true → presence_accepted d ≡ true → Keener c d
    → (windows : List Pair) → EachNoLower windows
    → present_after c (map (λ (w : Pair). w.first) windows) ≡ true → present_after d (map (λ (w : Pair). w.second) windows) ≡ true
demand_3 c d ok ok' keener windows each here =
    let m = as-switch c (firsts windows) in
    let n = as-switch d (seconds windows) in
    same-on d (seconds windows) ∙ says m.on m.streak n.on n.streak (ahead c d ok keener windows each) (sym (same-on c (firsts windows)) ∙ here)
