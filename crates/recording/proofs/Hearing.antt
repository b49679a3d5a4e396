-- What is heard, by the reader's answer.
use Rattle.std.proofs.Common.{◌≡◌, ℕ, ◌*◌, min, List, replicate, Option, Some, None, Result, Ok, Err}
use lib.Ieee.{Float}
use Rattle.records.specs.Answers.{paper, read, read_of}
use Rattle.records.specs.declared.ReadError.{ReadError}
use Rattle.records.specs.declared.ReadError.TheVariants.{Stores, Refused}
use Rattle.records.specs.declared.Record.{Record}
use Rattle.recording.specs.Heard.{floats_over, heard, heard_with, heard_of}

module _ (bytes : List ℕ) (at : ℕ) (a p q : List Float) {r : Result (Option Record) ReadError} {xs ps qs : List ℕ} (found : read (paper r) xs ps qs ≡ read_of bytes at (replicate 256 0) (replicate 256 0) (replicate 512 0)) where
  found_as : {x : Result (Option Record) ReadError} → r ≡ x → heard_with (paper x).value (read (paper x) xs ps qs) a p q ≡ heard_of bytes at a p q
  unfolding heard_of
  found_as {x} e = rw (← found) (rw e)

  pub hears : {w : Record} {a' p' q' : List Float} {m : ℕ} → r ≡ Ok (Some w) → a' ≡ floats_over w.header.subcarriers xs a → p' ≡ floats_over w.header.subcarriers ps p → m ≡ min w.header.pairs 256 → q' ≡ floats_over (2 * m) qs q → heard (paper (Ok (Some w))) a' p' q' ≡ heard_of bytes at a p q
  hears e ea ep em eq = rw (ea, ep, eq, em) (found_as e)

  pub hears-nothing : r ≡ Ok None → heard (paper (Ok None)) a p q ≡ heard_of bytes at a p q
  hears-nothing e = found_as e

  pub hears-error : (x : ReadError) → r ≡ Err x → heard (paper (Err x)) a p q ≡ heard_of bytes at a p q
  hears-error Stores e = found_as e
  hears-error (Refused f o) e = found_as e
