-- A switch with two limits and two counts: presence and motion are each one. While it is off a window counts that meets the high limit,
-- while it is on one that meets the low limit. At the count it turns; a window that does not count sets the streak to 0.
use Rattle.std.specs.Prelude.{Bool, true, false, not, ℕ, ◌+◌, leb}

-- which way the switch went, if it did
pub data Turn : Type 0 where
  still rose fell : Turn

pub record Moved : Type 0 where
  pub on : Bool
  pub streak : ℕ
  pub turn : Turn

-- what goes for a switch that is off, and for one that is on
abbrev pub for : {X : Type 0} → Bool → X → X → X
for false a b = a
for true a b = b

-- the turn that leaves b
abbrev pub turned : Bool → Turn
turned false = rose
turned true = fell

-- does the window count, and is the count reached with it; b and k are the switch and its streak before
abbrev pub moved : Bool → Bool → Bool → ℕ → Moved
moved b false full k = record { on = b; streak = 0; turn = still }
moved b true false k = record { on = b; streak = k + 1; turn = still }
moved b true true k = record { on = not b; streak = 0; turn = turned b }

-- one window: `hi` and `lo` say which limits it meets
unfoldable pub move : ℕ → ℕ → Bool → Bool → Bool → ℕ → Moved
move enter exit hi lo b k = moved b (for b hi lo) (leb (for b enter exit) (k + 1)) k
