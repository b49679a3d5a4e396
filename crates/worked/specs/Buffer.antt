-- The window buffer, made by `with_config` and given frames by `push`: all that a call left goes into the next. Definitions only.
use Rattle.std.specs.Prelude.{◌/◌, List, [], ◌∷◌, true, cond, length, take, replicate, Float}
use Rattle.floats.specs.Clamp.{one32}
use Rattle.rvcsi_core.specs.Counters.{fresh_ids}
use Rattle.rvcsi_core.specs.declared.frame.CsiFrame.{CsiFrame}
use Rattle.buffer_rules.specs.Paper.{Returns, nothing, place, window, answer}
use Rattle.buffer_rules.specs.Settings.{settings_ok}
use Rattle.buffer_rules.specs.State.{fresh_of}
use Rattle.buffer_rules.specs.declared.WindowBufferConfig.{WindowBufferConfig}
use Rattle.window_buffer.specs.Push.{Outcome, outcome, push_of}
use Rattle.worked.specs.Rows.{Frame, Fact, mean, variance, energy, end}
use Rattle.worked.specs.Runs.{Reply, goes, stops, numbered}

-- a frame of session 1, source 1, exposable, quality 1
abbrev pub frame_of : Frame → CsiFrame
frame_of f =
    record {
      session_id = 1;
      source_id = 1;
      timestamp_ns = f.time;
      exposable = 1;
      subcarrier_count = length f.amplitudes;
      pair_count = length f.pairs / 2;
      quality_score = one32;
    }

-- a buffer just made, or 1 "settings not accepted"; its stores and lists hold x everywhere
unfoldable pub buffer_new : Float → WindowBufferConfig → Reply Outcome
buffer_new x c =
    cond (settings_ok c)
    (goes (outcome (answer 0 nothing) fresh_ids (fresh_of 1 1 c) (replicate 4096 x) (replicate 4096 x) (replicate 256 x) (replicate 256 x)) [])
    (stops 1)

-- what is told of a window that closed, with what was written of its two lists
abbrev pub closed : Returns → List Float → List Float → List Fact
closed nothing M W = []
closed (place p) M W = []
closed (window w n) M W = mean (take n M) ∷ variance (take n W) ∷ energy w.motion_energy ∷ end w.end_ns ∷ []

abbrev pub pushed : Outcome → Reply Outcome
pushed o = numbered o.reply.number o (closed o.reply.returns o.means o.variances)

unfoldable pub push_on : Outcome → Frame → Reply Outcome
push_on o f =
    pushed
    (push_of o.ids true o.buffer (frame_of f) f.amplitudes f.phases f.pairs o.amplitudes o.phases o.means o.variances)
