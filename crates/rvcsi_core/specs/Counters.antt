-- The counters' rule. Definitions only.
use Rattle.std.specs.Prelude.{ℕ, ◌+◌, cond, eqb, Option, Some, None}
use Rattle.rvcsi_core.specs.declared.ids.Ids.{Ids}
use Rattle.rvcsi_core.specs.declared.ids.Minted.{Minted}

-- 2^64 - 1, the number that is never given
abbrev pub last : ℕ
last = 0xffff_ffff_ffff_ffff

-- "each from 0"
abbrev pub fresh_ids : Ids
fresh_ids = record { window = 0; event = 0 }

abbrev pub minted : Option ℕ → Ids → Minted
minted t i = record { taken = t; ids = i }

-- what a counter at n gives, and the counter after it
unfoldable pub given : ℕ → Option ℕ
given n = cond (eqb n last) None (Some n)

unfoldable pub counted : ℕ → ℕ
counted n = cond (eqb n last) n (n + 1)

-- "by one"; at 2^64 - 1 no number is given and the counters stay
unfoldable pub next_window : Ids → Minted
next_window i = cond (eqb i.window last) (minted None i) (minted (Some i.window) (record { window = i.window + 1; event = i.event }))

-- the same of events
unfoldable pub next_event : Ids → Minted
next_event i = cond (eqb i.event last) (minted None i) (minted (Some i.event) (record { window = i.window; event = i.event + 1 }))
