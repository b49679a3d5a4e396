-- What a call of the buffer returns under one threshold, against a threshold no higher; and the buffer's settings stay. Assumes nothing.
use mathlib.Core.Path.{◌≡◌, sym, subst}
use mathlib.Core.Bool.{Bool, true}
use mathlib.Core.List.{List}
use Rattle.std.proofs.lemmas.Bool.{cond_both}
use lib.Dec.{T}
use lib.Ieee.{Float, le}
use lib.Ieee.Scale.{finite}
use Rattle.rvcsi_core.specs.declared.frame.CsiFrame.{CsiFrame}
use Rattle.rvcsi_core.specs.declared.ids.Ids.{Ids}
use Rattle.frame_stats.specs.Scale.{scale_of}
use Rattle.detectors.specs.Pairs.{NoLower}
use Rattle.buffer_rules.specs.Paper.{Returns, nothing, place, window, Answer}
use Rattle.buffer_rules.specs.State.{empty, fresh_of}
use Rattle.buffer_rules.specs.Frames.{closes}
use Rattle.buffer_rules.specs.Rulings.{frame_ruling, flush_ruling}
use Rattle.buffer_rules.specs.declared.WindowBuffer.{WindowBuffer}
use Rattle.buffer_rules.specs.declared.WindowBufferConfig.{WindowBufferConfig}
use Rattle.buffer_rules.proofs.Numbers.{plain, frame-plain, flush-plain}
use Rattle.window_buffer.specs.Window.{accepted_of, emptied}
use Rattle.window_buffer.specs.Push.{Outcome, room_of, refused_of, close_of, take_of, push_of, drain_of, flush_of}
use Rattle.window_buffer.proofs.Cases.{by_ruling, by_plain}
use Rattle.pipeline_laws.proofs.Tilted.{rescored, no_lower}

-- a window that is returned has no higher score than with threshold t
abbrev pub Scored : Float → Returns → Type 0
Scored t nothing = Unit
Scored t (place k) = Unit
Scored t (window w n) = NoLower (record { first = w.presence_score; second = (rescored t w).presence_score })

pub record Kept (t : Float) (c : WindowBufferConfig) (o : Outcome) : Type 0 where
  pub scored : Scored t o.reply.returns
  pub settings : o.buffer.cfg ≡ c

module _ (t : Float) (c : WindowBufferConfig) (p : T (finite t)) (q : T (finite c.presence_threshold)) (h : T (le t c.presence_threshold)) where
  left-kept : (i : Ids) (b : WindowBuffer) (A P M W : List Float) → b.cfg ≡ c → (why : Answer) → plain why ≡ true → Kept t c (refused_of why i b A P M W)
  left-kept i b A P M W e why g = record { scored = by_plain (Scored t) tt (λ n. tt) why g; settings = e }

  close-kept : (i : Ids) (b : WindowBuffer) (A P M W : List Float) → b.cfg ≡ c → Kept t c (close_of i b A P M W)
  unfolding close_of emptied fresh_of
  close-kept i b A P M W e =
      record {
        scored =
            no_lower b A i.window t p (subst (λ (x : WindowBufferConfig). T (finite x.presence_threshold)) (sym e) q)
            (subst (λ (x : WindowBufferConfig). T (le t x.presence_threshold)) (sym e) h);
        settings = e;
      }

  pub push_kept : (i : Ids) (s : Bool) (b : WindowBuffer) (f : CsiFrame) (a u v A P M W : List Float) → b.cfg ≡ c → Kept t c (push_of i s b f a u v A P M W)
  unfolding push_of take_of accepted_of
  push_kept i s b f a u v A P M W e =
      by_ruling (Kept t c) plain (frame_ruling (room_of A P M W) i s b f a u v) _ _ (frame-plain (room_of A P M W) i s b f a u v)
      (λ y. cond_both (closes b f.timestamp_ns) _ _ (Kept t c) (λ z. close-kept i (accepted_of b f (scale_of v a)) _ _ M W e) (λ z. record { scored = tt; settings = e }))
      (left-kept i b A P M W e)

  pub flush-kept : (i : Ids) (s : Bool) (b : WindowBuffer) (A P M W : List Float) → b.cfg ≡ c → Kept t c (flush_of i s b A P M W)
  unfolding flush_of drain_of
  flush-kept i s b A P M W e =
      by_ruling (Kept t c) plain (flush_ruling (room_of A P M W) i s b) _ _ (flush-plain (room_of A P M W) i s b)
      (λ y. cond_both (empty b) _ _ (Kept t c) (λ z. record { scored = tt; settings = e }) (λ z. close-kept i b A P M W e))
      (left-kept i b A P M W e)
