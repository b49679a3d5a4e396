-- Two worlds given the same calls, alike but for the presence threshold and what their detectors hold: they stay alike, the same windows close, and each
-- score of the second is no lower. Assumes nothing.
use mathlib.Core.Path.{◌≡◌, refl, sym, ap, subst, ◌∙◌}
use mathlib.Core.Bool.{true}
use mathlib.Core.List.{List, [], ◌∷◌, map}
use lib.Dec.{T}
use lib.Ieee.{Float, le}
use lib.Ieee.Scale.{finite}
use Rattle.detectors.specs.Pairs.{EachNoLower}
use Rattle.buffer_rules.specs.Paper.{Returns, nothing, place, window}
use Rattle.buffer_rules.specs.Settings.{settings_ok}
use Rattle.buffer_rules.specs.declared.WindowBuffer.{WindowBuffer}
use Rattle.buffer_rules.specs.declared.WindowBufferConfig.{WindowBufferConfig}
use Rattle.window_buffer.specs.Push as Push
use Rattle.slots.specs.Runs.{Turn}
use Rattle.slots.proofs.Keen.{Turns, firsts, seconds, pairs}
use Rattle.pipeline.specs.Whole.{event_room}
use Rattle.pipeline_laws.specs.Calls.{World, Call, framed, flushed, called, left, after, turned, turns}
use Rattle.pipeline_laws.specs.Pairs.{NoEight}
use Rattle.pipeline_laws.proofs.Following.{buffered}
use Rattle.pipeline_laws.proofs.Owed.{Sound, passed, after_sound}
use Rattle.pipeline_laws.proofs.Tilted.{tilted_cfg, tilted, rescored, rescored_returns, tilted_outcome, push-tilted, flush-tilted}
use Rattle.pipeline_laws.proofs.NotEight.{at_event, evented, push-free, flush-free, push-evented, flush-evented}
use Rattle.pipeline_laws.proofs.Scoring.{Scored, Kept, push_kept, flush-kept}

-- a window, and the same with the score of threshold t
abbrev again : Float → Turn → Turn
again t x = record { window = rescored t x.window; means = x.means }

abbrev pub twice : Float → Turn → Turns
twice t x = record { first = x; second = again t x }

pub twice_firsts : (t : Float) (l : List Turn) → firsts (map (twice t) l) ≡ l
twice_firsts t [] = refl
twice_firsts t (x ∷ l) = ap (λ (r : List Turn). x ∷ r) (twice_firsts t l)

-- the second world is the first with threshold t
pub record Alike (t : Float) (v v' : World) : Type 0 where
  pub windows : v'.ids.window ≡ v.ids.window
  pub buffer : v'.pipeline.buffer ≡ tilted t v.pipeline.buffer
  pub amplitudes : v'.amplitudes ≡ v.amplitudes
  pub phases : v'.phases ≡ v.phases
  pub means : v'.means ≡ v.means
  pub variances : v'.variances ≡ v.variances

-- ---- one call
module _ (t : Float) (v v' : World) (k : Alike t v v') where
  same-ids : v'.ids ≡ at_event v'.ids.event v.ids
  same-ids = λ s. record { window = k.windows s; event = v'.ids.event }

  module _ (ok : settings_ok v.pipeline.buffer.cfg ≡ true) (ok' : settings_ok (tilted_cfg t v.pipeline.buffer.cfg) ≡ true) where
    buffers-alike : (c : Call) → ((buffered c v).reply.number ≡ 8 → ⊥) → ((buffered c v').reply.number ≡ 8 → ⊥) → buffered c v' ≡ evented v'.ids.event (tilted_outcome t (buffered c v))
    buffers-alike (framed f a p q) n n' =
        push-free v'.ids (event_room v'.ids) v'.pipeline.buffer f a p q v'.amplitudes v'.phases v'.means v'.variances n'
        ∙ (λ s. Push.push_of (same-ids s) true (k.buffer s) f a p q (k.amplitudes s) (k.phases s) (k.means s) (k.variances s))
        ∙ push-evented v'.ids.event v.ids true (tilted t v.pipeline.buffer) f a p q v.amplitudes v.phases v.means v.variances
        ∙ ap (evented v'.ids.event)
        (push-tilted t v.ids true v.pipeline.buffer ok ok' f a p q v.amplitudes v.phases v.means v.variances
        ∙ ap (tilted_outcome t) (sym (push-free v.ids (event_room v.ids) v.pipeline.buffer f a p q v.amplitudes v.phases v.means v.variances n)))
    buffers-alike flushed n n' =
        flush-free v'.ids (event_room v'.ids) v'.pipeline.buffer v'.amplitudes v'.phases v'.means v'.variances n'
        ∙ (λ s. Push.flush_of (same-ids s) true (k.buffer s) (k.amplitudes s) (k.phases s) (k.means s) (k.variances s))
        ∙ flush-evented v'.ids.event v.ids true (tilted t v.pipeline.buffer) v.amplitudes v.phases v.means v.variances
        ∙ ap (evented v'.ids.event)
        (flush-tilted t v.ids true v.pipeline.buffer ok ok' v.amplitudes v.phases v.means v.variances
        ∙ ap (tilted_outcome t) (sym (flush-free v.ids (event_room v.ids) v.pipeline.buffer v.amplitudes v.phases v.means v.variances n)))

buffer_kept : (t : Float) (b : WindowBufferConfig) → T (finite t) → T (finite b.presence_threshold) → T (le t b.presence_threshold) → (c : Call) (v : World) → v.pipeline.buffer.cfg ≡ b → Kept t b (buffered c v)
buffer_kept t b p q h (framed f a u w) v e = push_kept t b p q h v.ids (event_room v.ids) v.pipeline.buffer f a u w v.amplitudes v.phases v.means v.variances e
buffer_kept t b p q h flushed v e = flush-kept t b p q h v.ids (event_room v.ids) v.pipeline.buffer v.amplitudes v.phases v.means v.variances e

-- ---- what joins the histories
again_turned : (t : Float) (r : Returns) (means : List Float) (past : List Turn) → turned (rescored_returns t r) means (seconds (map (twice t) past)) ≡ seconds (map (twice t) (turned r means past))
again_turned t nothing means past = refl
again_turned t (place k) means past = refl
again_turned t (window w n) means past = refl

each_turned : (t : Float) (r : Returns) (means : List Float) (past : List Turn) → Scored t r → EachNoLower (pairs (map (twice t) past)) → EachNoLower (pairs (map (twice t) (turned r means past)))
each_turned t nothing means past s e = e
each_turned t (place k) means past s e = e
each_turned t (window w n) means past s e = (s, e)

-- ---- any calls
pub record Together (t : Float) (b : WindowBufferConfig) (v v' : World) (past past' : List Turn) : Type 0 where
  pub alike : Alike t v v'
  pub settings : v.pipeline.buffer.cfg ≡ b
  pub same-windows : past' ≡ seconds (map (twice t) past)
  pub no_lower : EachNoLower (pairs (map (twice t) past))

module _ (t : Float) (b : WindowBufferConfig) (p : T (finite t)) (q : T (finite b.presence_threshold)) (h : T (le t b.presence_threshold)) where
  call-together : (c : Call) (v v' : World) (past past' : List Turn) → Sound v → Sound v' → ((called c v).reply.number ≡ 8 → ⊥) → ((called c v').reply.number ≡ 8 → ⊥) → Together t b v v' past past'
      → Together t b (left (called c v)) (left (called c v')) (turned (called c v).reply.returns (called c v).means past) (turned (called c v').reply.returns (called c v').means past')
  call-together c v v' past past' s s' n n' g =
      let o = buffered c v in
      let k = passed c v s in
      let k' = passed c v' s' in
      let ok' : settings_ok (tilted_cfg t v.pipeline.buffer.cfg) ≡ true = subst (λ (x : WindowBuffer). settings_ok x.cfg ≡ true) g.alike.buffer s'.buffer.range.settings in
      let e : buffered c v' ≡ evented v'.ids.event (tilted_outcome t o)
      = buffers-alike t v v' g.alike s.buffer.range.settings ok' c (λ x. n (ap (λ y. y.number) k.reply ∙ x)) (λ x. n' (ap (λ y. y.number) k'.reply ∙ x)) in
      let w = buffer_kept t b p q h c v g.settings in
      record {
        alike =
            record {
              windows = k'.window ∙ ap (λ (x : Push.Outcome). x.ids.window) e ∙ sym k.window;
              buffer = k'.buffer ∙ ap (λ (x : Push.Outcome). x.buffer) e ∙ sym (ap (tilted t) k.buffer);
              amplitudes = k'.amplitudes ∙ ap (λ (x : Push.Outcome). x.amplitudes) e ∙ sym k.amplitudes;
              phases = k'.phases ∙ ap (λ (x : Push.Outcome). x.phases) e ∙ sym k.phases;
              means = k'.means ∙ ap (λ (x : Push.Outcome). x.means) e ∙ sym k.means;
              variances = k'.variances ∙ ap (λ (x : Push.Outcome). x.variances) e ∙ sym k.variances;
            };
        settings = ap (λ (x : WindowBuffer). x.cfg) k.buffer ∙ w.settings;
        same-windows =
            (λ x. turned ((k'.reply ∙ ap (λ (y : Push.Outcome). y.reply) e) x).returns ((k'.means ∙ ap (λ (y : Push.Outcome). y.means) e) x) (g.same-windows x))
            ∙ again_turned t o.reply.returns o.means past
            ∙ λ x. seconds (map (twice t) (turned (sym k.reply x).returns (sym k.means x) past));
        no_lower =
            subst (λ (l : List Turn). EachNoLower (pairs (map (twice t) l))) (λ x. turned (sym k.reply x).returns (sym k.means x) past)
            (each_turned t o.reply.returns o.means past w.scored g.no_lower);
      }

  pub together : (v v' : World) → Sound v → Sound v' → v.pipeline.buffer.cfg ≡ b → Alike t v v' → (cs : List Call) → NoEight cs v → NoEight cs v' → Together t b (after cs v) (after cs v') (turns cs v) (turns cs v')
  unfolding after turns
  together v v' s s' e k [] n n' = record { alike = k; settings = e; same-windows = refl; no_lower = tt }
  together v v' s s' e k (c ∷ cs) n n' =
      call-together c (after cs v) (after cs v') (turns cs v) (turns cs v') (after_sound cs v s) (after_sound cs v' s') n.0 n'.0 (together v v' s s' e k cs n.1 n'.1)
