-- After any calls the detectors stand where the windows that closed, one after the other, bring them. Assumes nothing.
use Prim.Native.Nat.{ℕ}
use mathlib.Core.Path.{◌≡◌, refl, sym, ap, subst, ◌∙◌}
use mathlib.Core.List.{List, [], ◌∷◌}
use lib.ListN.{take}
use lib.Ieee.{Float}
use Rattle.rvcsi_core.specs.declared.window.CsiWindow.{CsiWindow}
use Rattle.rvcsi_core.specs.declared.ids.Ids.{Ids}
use Rattle.buffer_rules.specs.Paper.{Returns, nothing, place, window, Answer}
use Rattle.buffer_rules.specs.declared.WindowBuffer.{WindowBuffer}
use Rattle.slots.specs.Slots.{step_of}
use Rattle.slots.specs.Judging.{hear_to, done, judge_of}
use Rattle.slots.specs.Judging as Judging
use Rattle.slots.specs.Runs.{Turn, heard_all}
use Rattle.slots.specs.declared.Detectors.{Detectors}
use Rattle.slots.specs.declared.Slot.{Slot}
use Rattle.pipeline.specs.Process.{onward_with, Outcome}
use Rattle.pipeline.specs.declared.EventPipeline.{EventPipeline}
use Rattle.pipeline_laws.specs.Calls.{World, Call, called, after, turned, turns}
use Rattle.pipeline_laws.proofs.Following.{buffered}
use Rattle.pipeline_laws.proofs.Owed.{Sound, carries, passed, close_judged, after_sound}

-- the set and its store of baselines, after a history from the first n of some slots and a store
pub record Hears (slots : List Slot) (n : ℕ) (store : List Float) (past : List Turn) (s : Detectors) (base : List Float) : Type 0 where
  pub slots-are : s.slots ≡ (heard_all slots n store past).slots
  pub count-is : s.count ≡ n
  pub store_is : base ≡ (heard_all slots n store past).store

module _ (slots : List Slot) (n : ℕ) (store : List Float) (past : List Turn) where
  onward-hears : (r : Returns) (a : Answer) (i : Ids) (b : WindowBuffer) (p : EventPipeline) (means base : List Float)
      → ((w : CsiWindow) (k : ℕ) → r ≡ window w k → judge_of i p.detectors w (take k means) base ≡ done i p.detectors.count w (hear_to (step_of w (take k means)) p.detectors.slots base p.detectors.count))
      → Hears slots n store past p.detectors base
      → Hears slots n store (turned r means past) (onward_with r a i b p means base).pipeline.detectors (onward_with r a i b p means base).baseline
  unfolding heard_all
  onward-hears nothing a i b p means base j h = h
  onward-hears (place k) a i b p means base j h = h
  onward-hears (window w k) a i b p means base j h =
      let e = j w k refl in
      record {
        slots-are = ap (λ (o : Judging.Outcome). o.set.slots) e ∙ λ t. (hear_to (step_of w (take k means)) (h.slots-are t) (h.store_is t) (h.count-is t)).slots;
        count-is = ap (λ (o : Judging.Outcome). o.set.count) e ∙ h.count-is;
        store_is = ap (λ (o : Judging.Outcome). o.store) e ∙ λ t. (hear_to (step_of w (take k means)) (h.slots-are t) (h.store_is t) (h.count-is t)).store;
      }

  call-hears : (c : Call) (v : World) → Sound v → Hears slots n store past v.pipeline.detectors v.baseline
      → Hears slots n store (turned (called c v).reply.returns (called c v).means past) (called c v).pipeline.detectors (called c v).baseline
  call-hears c v s h =
      let o = buffered c v in
      let k = passed c v s in
      subst (λ (l : List Turn). Hears slots n store l (called c v).pipeline.detectors (called c v).baseline) (λ t. turned (sym k.reply t).returns (sym k.means t) past)
      (subst (λ (x : Outcome). Hears slots n store (turned o.reply.returns o.means past) x.pipeline.detectors x.baseline) (carries c v s)
      (onward-hears o.reply.returns o.reply o.ids o.buffer v.pipeline o.means v.baseline (close_judged c v s) h))

pub hears_all : (cs : List Call) (v : World) → Sound v
    → Hears v.pipeline.detectors.slots v.pipeline.detectors.count v.baseline (turns cs v) (after cs v).pipeline.detectors (after cs v).baseline
unfolding after turns heard_all
hears_all [] v s = record { slots-are = refl; count-is = refl; store_is = refl }
hears_all (c ∷ cs) v s = call-hears v.pipeline.detectors.slots v.pipeline.detectors.count v.baseline (turns cs v) c (after cs v) (after_sound cs v s) (hears_all cs v s)
