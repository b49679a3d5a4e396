-- The counts of a run. Definitions only.
use Rattle.std.specs.Prelude.{ℕ, ◌+◌, Bool, true, false, cond, ◌&&◌, ◌||◌, leb, eqb}
use Rattle.listing.specs.declared.Counts.{Counts}

abbrev pub counts : ℕ → ℕ → ℕ → Counts
counts a w s = record { accepted = a; windows = w; skipped = s }

-- one more; 2^64 - 1 stays
unfoldable pub more : ℕ → ℕ
more n = cond (eqb n 0xffff_ffff_ffff_ffff) n (n + 1)

-- one more where the test holds
abbrev pub more_if : Bool → ℕ → ℕ
more_if true n = more n
more_if false n = n

-- "Replies 2 to 4, 6 to 8 skip a frame"
unfoldable pub skips : ℕ → Bool
skips number = leb 2 number && leb number 4 || leb 6 number && leb number 8

-- a frame: reply 0 accepts it, and may close a window
unfoldable pub count_frame : Counts → ℕ → Bool → Counts
count_frame c number closed =
    counts (more_if (eqb number 0) c.accepted) (more_if (eqb number 0 && closed) c.windows) (more_if (skips number) c.skipped)

-- the flush: it closes a window, or none
unfoldable pub count_flush : Counts → Bool → Counts
count_flush c closed = counts c.accepted (more_if closed c.windows) c.skipped
