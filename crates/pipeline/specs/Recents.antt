-- "the scalar fields of the newest 32 windows, newest last"
use Rattle.std.specs.Prelude.{cond, List, [], ◌∷◌, ◌++◌, ℕ, ◌+◌, ◌-◌, ltb, set, length, take, drop, replicate}
use Rattle.floats.specs.Clamp.{zero32}
use Rattle.rvcsi_core.specs.declared.window.CsiWindow.{CsiWindow}
use Rattle.pipeline.specs.declared.recent.Recent.{Recent}

abbrev pub cap : ℕ
cap = 32

-- what stands in a place that no window was put in
abbrev pub unused : CsiWindow
unused =
    record {
      window_id = 0;
      session_id = 0;
      source_id = 0;
      start_ns = 0;
      end_ns = 0;
      frame_count = 0;
      motion_energy = zero32;
      presence_score = zero32;
      quality_score = zero32;
    }

unfoldable pub none_kept : Recent
none_kept = record { windows = replicate cap unused; count = 0 }

-- the windows held, oldest first
abbrev pub held : Recent → List CsiWindow
held r = take r.count r.windows

-- the newest n of a list, newest last
abbrev pub newest : ℕ → List CsiWindow → List CsiWindow
newest n l = drop (length l - n) l

-- behind the others while there is room; else the oldest goes
unfoldable pub remember_of : Recent → CsiWindow → Recent
remember_of r w =
    cond (ltb r.count cap) (record { windows = set r.windows r.count w; count = r.count + 1 })
    (record { windows = drop 1 r.windows ++ (w ∷ []); count = cap })
