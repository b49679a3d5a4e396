-- `presence::default` meets its contract.
use mathlib.Core.Path.{refl}
use lib.Ieee.{of_bits}
use Rattle.detectors.specs.Presence.{presence_default}
use Rattle.detectors.proofs.presence.PresenceConfigDefault.default.Goals as goal

pub returns : goal.returns
unfolding of_bits presence_default
returns c = refl
