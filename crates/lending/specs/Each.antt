-- The counters after a window number and then an event number.
use Rattle.rvcsi_core.specs.Counters.{next_window, next_event}
use Rattle.rvcsi_core.specs.declared.ids.Ids.{Ids}
use Rattle.rvcsi_core.specs.declared.ids.Minted.{Minted}
use Rattle.lending.specs.declared.Each.{Each}

abbrev pub both : Minted → Minted → Each
both w e = record { window = w.taken; event = e.taken; ids = e.ids }

unfoldable pub each_of : Ids → Each
each_of i = both (next_window i) (next_event (next_window i).ids)
