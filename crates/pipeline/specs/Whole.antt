-- The whole state of a pipeline and all that it is lent, and the order of refusals.
use Rattle.std.specs.Prelude.{ℕ, Bool, ◌&&◌, ◌||◌, List, leb, length, Float}
use Rattle.rvcsi_core.specs.declared.frame.CsiFrame.{CsiFrame}
use Rattle.rvcsi_core.specs.declared.ids.Ids.{Ids}
use Rattle.buffer_rules.specs.Paper.{Ruling, fine}
use Rattle.buffer_rules.specs.State.{empty, state_ok}
use Rattle.buffer_rules.specs.Frames.{stores_ok, counts_ok, room_ok}
use Rattle.buffer_rules.specs.Rulings.{unless, source_ruling}
use Rattle.buffer_rules.specs.declared.Room.{Room}
use Rattle.slots.specs.Limits.{room_of, last}
use Rattle.slots.specs.Slots.{set_ok}
use Rattle.slots.specs.declared.Detectors.{Detectors}
use Rattle.pipeline.specs.Recents.{cap}
use Rattle.pipeline.specs.declared.EventPipeline.{EventPipeline}

-- not 13, "lent store short": the buffer's four lists, and n places for the baseline
unfoldable pub lent_ok : Room → ℕ → Bool
lent_ok r n = stores_ok r && leb room_of n

-- not 14: the detectors, "more than 32 recent windows", the buffer
unfoldable pub pipeline_ok : EventPipeline → Bool
pipeline_ok p = set_ok p.detectors && (leb p.recent.count cap && state_ok p.buffer)

-- not 8 for the events, "the next event number is above 2^64-7"
abbrev pub event_room : Ids → Bool
event_room i = leb i.event last

-- "Order for a frame: 13, 14, 5, 2, 3, 4, 6, 7, 8"; the buffer's rules go on from 2
unfoldable pub frame_ruling : Room → ℕ → Ids → EventPipeline → CsiFrame → List Float → List Float → List Float → Ruling
frame_ruling r n i p f amplitude phase pairs =
    unless (lent_ok r n) 13
    (unless (pipeline_ok p) 14
    (unless (counts_ok f (length amplitude) (length phase) (length pairs)) 5
    (source_ruling i (event_room i) p.buffer f amplitude phase pairs)))

-- "Flush: 13, 14, 8"; an empty buffer closes nothing
unfoldable pub flush_ruling : Room → ℕ → Ids → EventPipeline → Ruling
flush_ruling r n i p =
    unless (lent_ok r n) 13
    (unless (pipeline_ok p) 14
    (unless (empty p.buffer || room_ok i (event_room i)) 8 fine))

-- ---- as the code asks it: what the buffer does not look at itself, with k recent windows
unfoldable pub whole_ruling : Room → ℕ → Detectors → ℕ → Ruling
whole_ruling r n d k = unless (lent_ok r n) 13 (unless (set_ok d) 14 (unless (leb k cap) 14 fine))
