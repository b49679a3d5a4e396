-- Two presence detectors side by side: what demand 3 takes of their scores and settings.
use Rattle.std.specs.Prelude.{not, List, [], ◌∷◌, ◌⊎◌, ◌≤◌, T, Float}
use Rattle.std.specs.Float.Ieee.{is_nan, le}
use Rattle.detectors.specs.declared.presence.PresenceConfig.{PresenceConfig}

-- one window's scores, for the first detector and for the second
pub record Pair : Type 0 where
  pub first : Float
  pub second : Float

-- "in each pair both scores NaN or neither and the second no lower"
abbrev pub NoLower : Pair → Type 0
NoLower w = (T (is_nan w.first) × T (is_nan w.second)) ⊎ (T (not (is_nan w.first)) × T (not (is_nan w.second)) × T (le w.first w.second))

abbrev pub EachNoLower : List Pair → Type 0
EachNoLower [] = Unit
EachNoLower (w ∷ l) = NoLower w × EachNoLower l

-- "on, off and enter no higher, exit no lower"
pub record Keener (c d : PresenceConfig) : Type 0 where
  pub on-no-higher : T (le d.on_threshold c.on_threshold)
  pub off-no-higher : T (le d.off_threshold c.off_threshold)
  pub enter-no-higher : d.enter_windows ≤ c.enter_windows
  pub exit-no-lower : c.exit_windows ≤ d.exit_windows
