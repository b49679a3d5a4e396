-- Where reading stands. Definitions only.
use Rattle.std.specs.Prelude.{ℕ, ◌+◌, ◌%◌, ◌^◌}
use Rattle.recording.specs.declared.Cursor.{Cursor}

-- "Offsets count from the input's first byte": the place of the next record
abbrev pub place_of : Cursor → ℕ
place_of c = (c.base + c.at) % 2 ^ 64
