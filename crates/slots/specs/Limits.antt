-- The numbers of a set of detectors.
use Rattle.std.specs.Prelude.{ℕ}

-- how many detectors it holds
abbrev pub places : ℕ
places = 4

-- "a batch of at most six"
abbrev pub most : ℕ
most = 6

-- the most values of a list and of a baseline
abbrev pub part : ℕ
part = 256

-- how many baseline values must be lent: "256 baseline"
abbrev pub room_of : ℕ
room_of = 256

-- 2^64-7, the last event number that leaves room for a batch
abbrev pub last : ℕ
last = 0xffff_ffff_ffff_fff9
