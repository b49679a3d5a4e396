-- What `with_config` of a detector of any kind promises at the drift detector: the answer that document 01 has. Assumes nothing.
use mathlib.Core.Path.{◌≡◌, ap, ◌∙◌}
use Rattle.detectors.specs.Replies.{Made, made, on_paper_made}
use Rattle.detectors.proofs.Promised.{made_on_paper}
use Rattle.drift.specs.declared.BaselineDriftConfig.{BaselineDriftConfig}
use Rattle.drift.specs.declared.DriftState.{DriftState}
use Rattle.drift.specs.Settings.{drift_accepted, drift_fresh, drift_new, paper_made}

pub drift_made : (c : BaselineDriftConfig) (r : Made DriftState) → r ≡ made (drift_accepted c) drift_fresh → paper_made r ≡ drift_new c
unfolding drift_new
drift_made c r e = ap on_paper_made e ∙ made_on_paper (drift_accepted c) drift_fresh
