-- Two buffers that differ in the presence threshold alone: the same frames are taken and the same windows close, and each score is the one of its own
-- threshold, no lower under the lower one. Assumes nothing.
use Prim.Native.Nat.{ℕ, ◌*◌}
use mathlib.Core.Path.{◌≡◌, refl, ap, ◌∙◌}
use mathlib.Core.Bool.{Bool, true}
use mathlib.Core.Logic.{inr}
use mathlib.Core.List.{List}
use lib.Dec.{T}
use lib.ListN.{length}
use lib.Seq.{paste}
use lib.Ieee.{Float, is_nan, le}
use lib.Ieee.Scale.{finite}
use Rattle.rvcsi_core.specs.declared.frame.CsiFrame.{CsiFrame}
use Rattle.rvcsi_core.specs.declared.window.CsiWindow.{CsiWindow}
use Rattle.rvcsi_core.specs.declared.ids.Ids.{Ids}
use Rattle.frame_stats.specs.Scale.{scale_of}
use Rattle.detectors.specs.Pairs.{NoLower}
use Rattle.window_stats.specs.Means.{mean_first}
use Rattle.window_stats.specs.Motion.{motion_of}
use Rattle.window_stats.proofs.Range.{motion_sound}
use Rattle.floats.proofs.Numbers.{not-false}
use Rattle.logistic.specs.Score.{presence_score}
use Rattle.logistic.proofs.Presence.{presence_number, presence_falling}
use Rattle.buffer_rules.specs.Paper.{Returns, nothing, place, window, answer, Ruling, fine, refused}
use Rattle.buffer_rules.specs.Settings.{settings_ok}
use Rattle.buffer_rules.specs.State.{empty, state_ok, pending_ok, first_ok, values_ok, width_ok, fresh_of}
use Rattle.buffer_rules.specs.Frames.{source_ok, same_count, time_ok, first_of, closes, numbers_ok}
use Rattle.buffer_rules.specs.Rulings.{late_ruling, value_ruling, source_ruling, frame_ruling, flush_ruling}
use Rattle.buffer_rules.specs.declared.WindowBuffer.{WindowBuffer}
use Rattle.buffer_rules.specs.declared.WindowBufferConfig.{WindowBufferConfig}
use Rattle.buffer_rules.specs.declared.Room.{Room}
use Rattle.buffer_rules.proofs.Numbers.{refusal_is, plain, frame-plain, flush-plain}
use Rattle.window_buffer.specs.Window.{accepted_of, emptied, window_of}
use Rattle.window_buffer.specs.Push.{Outcome, outcome, room_of, refused_of, ruled, close_of, take_of, push_of, drain_of, flush_of}
use Rattle.pipeline_laws.proofs.Cases.{cond_made}
use Rattle.window_buffer.proofs.Cases.{by_plain}

-- the buffer with another threshold
abbrev pub tilted_cfg : Float → WindowBufferConfig → WindowBufferConfig
tilted_cfg t c = record { max_frames = c.max_frames; max_duration_ns = c.max_duration_ns; presence_threshold = t }

abbrev pub tilted : Float → WindowBuffer → WindowBuffer
tilted t b =
    record {
      session_id = b.session_id;
      source_id = b.source_id;
      cfg = tilted_cfg t b.cfg;
      subcarrier_count = b.subcarrier_count;
      pending = b.pending;
      first = b.first;
      last = b.last;
      qualities = b.qualities;
      scales = b.scales;
    }

-- the window with the score of another threshold
abbrev pub rescored : Float → CsiWindow → CsiWindow
rescored t w =
    record {
      window_id = w.window_id;
      session_id = w.session_id;
      source_id = w.source_id;
      start_ns = w.start_ns;
      end_ns = w.end_ns;
      frame_count = w.frame_count;
      motion_energy = w.motion_energy;
      presence_score = presence_score w.motion_energy t;
      quality_score = w.quality_score;
    }

abbrev pub rescored_returns : Float → Returns → Returns
rescored_returns t nothing = nothing
rescored_returns t (place p) = place p
rescored_returns t (window w n) = window (rescored t w) n

abbrev pub tilted_outcome : Float → Outcome → Outcome
tilted_outcome t o =
    outcome (answer o.reply.number (rescored_returns t o.reply.returns)) o.ids (tilted t o.buffer) o.amplitudes o.phases o.means o.variances

module _ (t : Float) (i : Ids) (e : Bool) (b : WindowBuffer) (ok : settings_ok b.cfg ≡ true) (ok' : settings_ok (tilted_cfg t b.cfg) ≡ true) where
  frame_same : (r : Room) (f : CsiFrame) (a p q : List Float) → frame_ruling r i e (tilted t b) f a p q ≡ frame_ruling r i e b f a p q
  unfolding frame_ruling source_ruling value_ruling late_ruling state_ok pending_ok first_ok values_ok width_ok source_ok same_count time_ok numbers_ok closes first_of
  frame_same r f a p q = rw (ok, ok')

  flush-same : (r : Room) → flush_ruling r i e (tilted t b) ≡ flush_ruling r i e b
  unfolding flush_ruling state_ok pending_ok first_ok values_ok width_ok
  flush-same r = rw (ok, ok')

ruled_tilted : (t : Float) (i : Ids) (b : WindowBuffer) (A P M W : List Float) (x : Ruling) (o o' : Outcome) → refusal_is plain x ≡ true → o' ≡ tilted_outcome t o
    → ruled x o' (λ why. refused_of why i (tilted t b) A P M W) ≡ tilted_outcome t (ruled x o (λ why. refused_of why i b A P M W))
ruled_tilted t i b A P M W fine o o' h g = g
ruled_tilted t i b A P M W (refused why) o o' h g =
    let s = by_plain (λ r. r ≡ rescored_returns t r) refl (λ p. refl) why h in
    λ k. outcome (answer why.number (s k)) i (tilted t b) A P M W

-- ---- a call of the buffer with the other threshold
module _ (t : Float) (i : Ids) (e : Bool) (b : WindowBuffer) (ok : settings_ok b.cfg ≡ true) (ok' : settings_ok (tilted_cfg t b.cfg) ≡ true) where
  take-tilted : (f : CsiFrame) (a p q A P M W : List Float) → take_of i (tilted t b) f a p q A P M W ≡ tilted_outcome t (take_of i b f a p q A P M W)
  unfolding take_of closes first_of accepted_of close_of window_of emptied fresh_of
  take-tilted f a p q A P M W =
      cond_made (tilted_outcome t) (closes b f.timestamp_ns) (close_of i (accepted_of b f (scale_of q a)) (paste A (256 * b.pending) a (length a)) (paste P (256 * b.pending) p (length p)) M W)
      (outcome (answer 0 nothing) i (accepted_of b f (scale_of q a)) (paste A (256 * b.pending) a (length a)) (paste P (256 * b.pending) p (length p)) M W)

  pub push-tilted : (f : CsiFrame) (a p q A P M W : List Float) → push_of i e (tilted t b) f a p q A P M W ≡ tilted_outcome t (push_of i e b f a p q A P M W)
  unfolding push_of
  push-tilted f a p q A P M W =
      ap (λ (x : Ruling). ruled x (take_of i (tilted t b) f a p q A P M W) (λ why. refused_of why i (tilted t b) A P M W)) (frame_same t i e b ok ok' (room_of A P M W) f a p q)
      ∙ ruled_tilted t i b A P M W (frame_ruling (room_of A P M W) i e b f a p q) (take_of i b f a p q A P M W) (take_of i (tilted t b) f a p q A P M W) (frame-plain (room_of A P M W) i e b f a p q) (take-tilted f a p q A P M W)

  drain-tilted : (A P M W : List Float) → drain_of i (tilted t b) A P M W ≡ tilted_outcome t (drain_of i b A P M W)
  unfolding drain_of close_of window_of emptied fresh_of
  drain-tilted A P M W = cond_made (tilted_outcome t) (empty b) (outcome (answer 0 nothing) i b A P M W) (close_of i b A P M W)

  pub flush-tilted : (A P M W : List Float) → flush_of i e (tilted t b) A P M W ≡ tilted_outcome t (flush_of i e b A P M W)
  unfolding flush_of
  flush-tilted A P M W =
      ap (λ (x : Ruling). ruled x (drain_of i (tilted t b) A P M W) (λ why. refused_of why i (tilted t b) A P M W)) (flush-same t i e b ok ok' (room_of A P M W))
      ∙ ruled_tilted t i b A P M W (flush_ruling (room_of A P M W) i e b) (drain_of i b A P M W) (drain_of i (tilted t b) A P M W) (flush-plain (room_of A P M W) i e b) (drain-tilted A P M W)

-- ---- a threshold no higher never gives a lower score
pub no_lower : (b : WindowBuffer) (A : List Float) (n : ℕ) (t : Float) → T (finite t) → T (finite b.cfg.presence_threshold) → T (le t b.cfg.presence_threshold)
    → NoLower (record { first = (window_of b A n).presence_score; second = (rescored t (window_of b A n)).presence_score })
unfolding window_of
no_lower b A n t p q h =
    let m = motion_of A b.pending b.subcarrier_count (mean_first b.scales b.pending) in
    let s = motion_sound A b.pending b.subcarrier_count (mean_first b.scales b.pending) in
    inr
    (not-false (is_nan (presence_score m b.cfg.presence_threshold)) (presence_number m b.cfg.presence_threshold s.0 q), not-false (is_nan (presence_score m t)) (presence_number m t s.0 p), presence_falling m t b.cfg.presence_threshold s.0 p q h)
