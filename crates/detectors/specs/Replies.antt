-- The replies of a detector of any kind, and what they are on paper.
use Rattle.std.specs.Prelude.{Bool, true, false, Result, Ok, Err}
use Rattle.detectors.specs.declared.NotAccepted.{NotAccepted}
use Rattle.detectors.specs.declared.OutOfRange.{OutOfRange}
use Rattle.detectors.specs.declared.Moved.{Moved}
use Rattle.detectors.specs.Answers as paper

-- the state that a detector begins with, or a refusal of its settings
abbrev pub Made : Type 0 → Type 0
Made S = Result S NotAccepted

abbrev pub made : {S : Type 0} → Bool → S → Made S
made true s = Ok s
made false s = Err (record {})

-- the state after a window with what is said, or a refusal
abbrev pub Reply : Type 0 → Type 0
Reply S = Result (Moved S) OutOfRange

abbrev pub judged : {S : Type 0} → Bool → Moved S → Reply S
judged true m = Ok m
judged false m = Err (record {})

-- 1 "settings not accepted"
abbrev pub on_paper_made : {S : Type 0} → Made S → paper.Answer S
on_paper_made (Ok s) = paper.taken s
on_paper_made (Err e) = paper.refusal 1

-- 14 "state out of range"
abbrev pub on_paper : {S : Type 0} → (Moved S → paper.Result S) → Reply S → paper.Answer (paper.Result S)
on_paper result (Ok m) = paper.taken (result m)
on_paper result (Err e) = paper.refusal 14
