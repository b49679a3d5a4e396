-- A call of the buffer that is not answered 8 goes as if there were numbers for its events, and the event counter passes through it. Assumes nothing.
use Rattle.std.specs.Prelude.{Option, Some, None}
use Prim.Native.Nat.{ℕ, ◌*◌}
use mathlib.Core.Path.{◌≡◌, refl, ap, ◌∙◌}
use mathlib.Core.Bool.{Bool, true, false, not, ◌&&◌, ◌||◌}
use mathlib.Core.Logic.{◌⊎◌, inl, inr}
use mathlib.Core.List.{List}
use lib.Dec.{eqb}
use lib.ListN.{length}
use lib.Seq.{paste}
use lib.Ieee.{Float}
use Rattle.rvcsi_core.specs.Counters.{last}
use Rattle.rvcsi_core.specs.Frame.{exposable}
use Rattle.rvcsi_core.specs.declared.frame.CsiFrame.{CsiFrame}
use Rattle.rvcsi_core.specs.declared.ids.Ids.{Ids}
use Rattle.frame_stats.specs.Scale.{scale_of}
use Rattle.frame_stats.specs.Scan.{frame_scan}
use Rattle.buffer_rules.specs.Paper.{nothing, answer, Ruling, fine, refused}
use Rattle.buffer_rules.specs.State.{empty, state_ok}
use Rattle.buffer_rules.specs.Frames.{stores_ok, counts_ok, source_ok, same_count, time_ok, closes, room_ok, numbers_ok}
use Rattle.buffer_rules.specs.Rulings.{unless, scanned, late_ruling, value_ruling, source_ruling, frame_ruling, flush_ruling}
use Rattle.buffer_rules.specs.declared.Room.{Room}
use Rattle.buffer_rules.specs.declared.WindowBuffer.{WindowBuffer}
use Rattle.window_buffer.specs.Window.{accepted_of}
use Rattle.window_buffer.specs.Push.{Outcome, outcome, room_of, refused_of, ruled, close_of, take_of, push_of, drain_of, flush_of}
use Rattle.pipeline_laws.proofs.Cases.{cond_made}

-- ---- a ruling that is 8, or the other one
abbrev Or8 : Ruling → Ruling → Type 0
Or8 x y = (x ≡ refused (answer 8 nothing)) ⊎ (x ≡ y)

past_test : (b : Bool) (n : ℕ) (x y : Ruling) → Or8 x y → Or8 (unless b n x) (unless b n y)
past_test true n x y h = h
past_test false n x y h = inr refl

past_scan : (s : Option ℕ) (x y : Ruling) → Or8 x y → Or8 (scanned s x) (scanned s y)
past_scan None x y h = h
past_scan (Some p) x y h = inr refl

at_last : (still room e : Bool) → Or8 (unless (still || (room && e)) 8 fine) (unless (still || (room && true)) 8 fine)
at_last true room e = inr refl
at_last false true true = inr refl
at_last false true false = inl refl
at_last false false e = inl refl

frame_or8 : (r : Room) (i : Ids) (e : Bool) (b : WindowBuffer) (f : CsiFrame) (a p q : List Float) → Or8 (frame_ruling r i e b f a p q) (frame_ruling r i true b f a p q)
unfolding frame_ruling source_ruling value_ruling late_ruling numbers_ok room_ok
frame_or8 r i e b f a p q =
    past_test (stores_ok r) 13 _ _ (past_test (state_ok b) 14 _ _ (past_test (counts_ok f (length a) (length p) (length q)) 5 _ _
    (past_test (exposable f) 2 _ _ (past_test (source_ok b f) 3 _ _ (past_test (same_count b f) 4 _ _ (past_scan (frame_scan f.quality_score a p q) _ _
    (past_test (time_ok b f.timestamp_ns) 7 _ _ (at_last (not (closes b f.timestamp_ns)) (not (eqb i.window last)) e))))))))

flush_or8 : (r : Room) (i : Ids) (e : Bool) (b : WindowBuffer) → Or8 (flush_ruling r i e b) (flush_ruling r i true b)
unfolding flush_ruling room_ok
flush_or8 r i e b = past_test (stores_ok r) 13 _ _ (past_test (state_ok b) 14 _ _ (at_last (empty b) (not (eqb i.window last)) e))

-- ---- a call that is not answered 8
ruled_free : (i : Ids) (b : WindowBuffer) (A P M W : List Float) (x y : Ruling) (o : Outcome) → Or8 x y → ((ruled x o (λ why. refused_of why i b A P M W)).reply.number ≡ 8 → ⊥)
    → ruled x o (λ why. refused_of why i b A P M W) ≡ ruled y o (λ why. refused_of why i b A P M W)
ruled_free i b A P M W x y o (inl e) h = absurd (h (ap (λ (z : Ruling). (ruled z o (λ why. refused_of why i b A P M W)).reply.number) e))
ruled_free i b A P M W x y o (inr e) h = ap (λ (z : Ruling). ruled z o (λ why. refused_of why i b A P M W)) e

module _ (i : Ids) (e : Bool) (b : WindowBuffer) where
  pub push-free : (f : CsiFrame) (a p q A P M W : List Float) → ((push_of i e b f a p q A P M W).reply.number ≡ 8 → ⊥) → push_of i e b f a p q A P M W ≡ push_of i true b f a p q A P M W
  unfolding push_of
  push-free f a p q A P M W h =
      ruled_free i b A P M W (frame_ruling (room_of A P M W) i e b f a p q) (frame_ruling (room_of A P M W) i true b f a p q) (take_of i b f a p q A P M W) (frame_or8 (room_of A P M W) i e b f a p q) h

  pub flush-free : (A P M W : List Float) → ((flush_of i e b A P M W).reply.number ≡ 8 → ⊥) → flush_of i e b A P M W ≡ flush_of i true b A P M W
  unfolding flush_of
  flush-free A P M W h =
      ruled_free i b A P M W (flush_ruling (room_of A P M W) i e b) (flush_ruling (room_of A P M W) i true b) (drain_of i b A P M W) (flush_or8 (room_of A P M W) i e b) h

-- ---- with another event number the rest is the same
abbrev pub at_event : ℕ → Ids → Ids
at_event n i = record { window = i.window; event = n }

abbrev pub evented : ℕ → Outcome → Outcome
evented n o = outcome o.reply (at_event n o.ids) o.buffer o.amplitudes o.phases o.means o.variances

ruled_evented : (n : ℕ) (i : Ids) (b : WindowBuffer) (A P M W : List Float) (x : Ruling) (o : Outcome)
    → ruled x (evented n o) (λ why. refused_of why (at_event n i) b A P M W) ≡ evented n (ruled x o (λ why. refused_of why i b A P M W))
ruled_evented n i b A P M W fine o = refl
ruled_evented n i b A P M W (refused why) o = refl

module _ (n : ℕ) (i : Ids) (e : Bool) (b : WindowBuffer) where
  pub push-evented : (f : CsiFrame) (a p q A P M W : List Float) → push_of (at_event n i) e b f a p q A P M W ≡ evented n (push_of i e b f a p q A P M W)
  unfolding push_of take_of close_of frame_ruling source_ruling value_ruling late_ruling numbers_ok room_ok
  push-evented f a p q A P M W =
      ap (λ (o : Outcome). ruled (frame_ruling (room_of A P M W) i e b f a p q) o (λ why. refused_of why (at_event n i) b A P M W))
      (cond_made (evented n) (closes b f.timestamp_ns) (close_of i (accepted_of b f (scale_of q a)) (paste A (256 * b.pending) a (length a)) (paste P (256 * b.pending) p (length p)) M W)
      (outcome (answer 0 nothing) i (accepted_of b f (scale_of q a)) (paste A (256 * b.pending) a (length a)) (paste P (256 * b.pending) p (length p)) M W))
      ∙ ruled_evented n i b A P M W (frame_ruling (room_of A P M W) i e b f a p q) (take_of i b f a p q A P M W)

  pub flush-evented : (A P M W : List Float) → flush_of (at_event n i) e b A P M W ≡ evented n (flush_of i e b A P M W)
  unfolding flush_of drain_of close_of flush_ruling room_ok
  flush-evented A P M W =
      ap (λ (o : Outcome). ruled (flush_ruling (room_of A P M W) i e b) o (λ why. refused_of why (at_event n i) b A P M W))
      (cond_made (evented n) (empty b) (outcome (answer 0 nothing) i b A P M W) (close_of i b A P M W))
      ∙ ruled_evented n i b A P M W (flush_ruling (room_of A P M W) i e b) (drain_of i b A P M W)
