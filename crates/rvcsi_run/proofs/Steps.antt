-- One record, by what the reader finds.
use Rattle.std.proofs.Common.{◌≡◌, ℕ, ◌+◌, ◌%◌, ◌^◌, min, Bool, List, length, take, ap, ◌∙◌, Option, Some, None, Result, Ok, Err}
use lib.Ieee.{Float}
use Rattle.records.specs.Answers.{fault_number}
use Rattle.records.specs.Answers as Reader
use Rattle.records.specs.declared.Fault.{Fault}
use Rattle.records.specs.declared.ReadError.{ReadError}
use Rattle.records.specs.declared.ReadError.TheVariants.{Stores, Refused}
use Rattle.records.specs.declared.Record.{Record}
use Rattle.recording.specs.Heard.{heard, heard_of}
use Rattle.window_buffer.specs.Push.{paper}
use Rattle.pipeline.specs.Process.{Outcome, outcome, process_of}
use Rattle.pipeline.specs.declared.Processed.{Processed}
use Rattle.rvcsi_run.specs.Frames.{frame_of, first_of, pairs_of}
use Rattle.rvcsi_run.specs.Course.{goes_on, moved_to, stopped_by, counted_by}
use Rattle.rvcsi_run.specs.Step.{stepped, at_hand, zeros, answered, step_with, step_of}
use Rattle.rvcsi_run.specs.declared.Course.{Course}
use Rattle.rvcsi_run.specs.declared.State.TheVariants.{Ended, Stopped}

-- what was read from the first n bytes of the buffer
abbrev Found : Course → List ℕ → ℕ → Result (Option Record) ReadError → List Float → List Float → List Float → Type 0
Found run buffer n r a p q = heard (Reader.paper r) a p q ≡ heard_of (take n buffer) run.cursor.at (zeros 256) (zeros 256) (zeros 512)

module _
    (run : Course) (buffer : List ℕ) (A P B M W : List Float) {n : ℕ} {r : Result (Option Record) ReadError} {a p q : List Float}
    (hand : n ≡ min run.cursor.have (length buffer))
    (found : Found run buffer n r a p q)
  where
    found_as : {x : Result (Option Record) ReadError} (written : Bool) → r ≡ x
        → step_with (Reader.paper x).value written run (heard (Reader.paper x) a p q) A P B M W ≡ step_of written (at_hand run buffer) run A P B M W
    unfolding step_of
    found_as {x} written e = rw (← hand, ← found) (rw e)

    pub steps : (done : Processed) (c : Course) (w : Record) {on : Course} {A' P' B' M' W' : List Float}
        → r ≡ Ok (Some w)
        → on ≡ moved_to run w.next
        → outcome done A' P' B' M' W' ≡ process_of on.ids on.pipeline (frame_of w.header) (first_of w.header.subcarriers a) (first_of w.header.subcarriers p) (pairs_of w.header.pairs q) A P B M W
        → c ≡ counted_by on (paper done.reply) done.ids done.pipeline (goes_on c.state)
        → stepped c A' P' B' M' W' ≡ step_of (goes_on c.state) (at_hand run buffer) run A P B M W
    steps done c w {on} {A'} {P'} {B'} {M'} {W'} e moved processed counted =
        ap (λ (x : Course). stepped x A' P' B' M' W') (rw moved at counted)
        ∙ ap (λ (o : Outcome). answered (goes_on c.state) (moved_to run w.next) o) (rw moved at processed)
        ∙ found_as (goes_on c.state) e

    pub refused : (c : Course) {f : Fault} {k number place : ℕ}
        → r ≡ Err (Refused f k)
        → number ≡ fault_number f
        → place ≡ (run.cursor.base + k) % 2 ^ 64
        → c ≡ stopped_by run (Stopped number place)
        → stepped c A P B M W ≡ step_of (goes_on c.state) (at_hand run buffer) run A P B M W
    refused c {f} {k} e en ep ec = ap (λ (x : Course). stepped x A P B M W) (rw (en, ep) at ec) ∙ found_as (goes_on c.state) e

    pub ended : (c : Course) → r ≡ Ok None → c ≡ stopped_by run Ended → stepped c A P B M W ≡ step_of (goes_on c.state) (at_hand run buffer) run A P B M W
    ended c e ec = ap (λ (x : Course). stepped x A P B M W) ec ∙ found_as (goes_on c.state) e

    pub short : (c : Course) → r ≡ Err Stores → c ≡ stopped_by run Ended → stepped c A P B M W ≡ step_of (goes_on c.state) (at_hand run buffer) run A P B M W
    short c e ec = ap (λ (x : Course). stepped x A P B M W) ec ∙ found_as (goes_on c.state) e
