-- `judge_one` meets its contract.
use mathlib.Core.Path.{refl}
use Rattle.slots.specs.Slots.{step_of}
use Rattle.slots.proofs.Rounds as law
use Rattle.slots.proofs.judge_one.Goals as goal

pub returns : goal.returns
returns c =
    law.one (step_of c.args.w c.args.mean_amplitude.now) c.args.w c.args.first c.args.d c.args.i c.args.g _ _
    c.step-s.result _ _ _ _ c.place_of-at.ensures refl c.step-s.ensures c.push.ensures c.push-batch.ensures
