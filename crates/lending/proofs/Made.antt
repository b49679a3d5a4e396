-- What two lent calls leave is `each_of`, and from fresh counters both numbers are 0. Assumes nothing.
use mathlib.Core.Path.{◌≡◌, refl, ap, ◌∙◌}
use Rattle.rvcsi_core.specs.Counters.{minted, fresh_ids, next_window, next_event}
use Rattle.rvcsi_core.specs.declared.ids.Ids.{Ids}
use Rattle.rvcsi_core.specs.declared.ids.Minted.{Minted}
use Rattle.std.specs.Prelude.{ℕ, Option, Some}
use Rattle.lending.specs.Each.{both, each_of}
use Rattle.lending.specs.declared.Each.{Each}

abbrev pub each : Option ℕ → Option ℕ → Ids → Each
each w e i = record { window = w; event = e; ids = i }

pub made_each : (h i j : Ids) (w e : Option ℕ) → minted w i ≡ next_window h → minted e j ≡ next_event i → each w e j ≡ each_of h
unfolding each_of
made_each h i j w e p q =
    let s : minted e j ≡ next_event (next_window h).ids = q ∙ ap (λ (m : Minted). next_event m.ids) p in
    λ t. both (p t) (s t)

pub from_fresh : each_of fresh_ids ≡ each (Some 0) (Some 0) (record { window = 1; event = 1 })
unfolding each_of next_window next_event
from_fresh = refl
