-- The settings of the drift detector, and making one.
use Rattle.std.specs.Prelude.{Bool, ◌&&◌, leb, None}
use Rattle.std.specs.Float.{binary32}
use Rattle.std.specs.Float.Ieee.{of_bits, le, lt}
use Rattle.floats.specs.Clamp.{zero32, one32}
use Rattle.detectors.specs.Common.{limits_ok}
use Rattle.detectors.specs.Answers.{Answer, taken, unless}
use Rattle.drift.specs.declared.BaselineDriftConfig.{BaselineDriftConfig}
use Rattle.drift.specs.declared.DriftState.{DriftState}
use Rattle.detectors.specs.Replies.{Made, on_paper_made}

-- "drift 0.15, 3 windows, anomaly 1.0, alpha 0.1"
abbrev pub drift_default : BaselineDriftConfig
drift_default =
    record { drift_threshold = of_bits binary32 0x3e19_999a; drift_windows = 3; anomaly_threshold = one32; ewma_alpha = of_bits binary32 0x3dcc_cccd }

-- "all other counts are at least 1; every threshold .. from 0 to 1,000,000; .. anomaly above drift; 0 < ewma_alpha <= 1"
unfoldable pub drift_accepted : BaselineDriftConfig → Bool
drift_accepted c =
    limits_ok c.anomaly_threshold c.drift_threshold
    && leb 1 c.drift_windows
    && lt zero32 c.ewma_alpha
    && le c.ewma_alpha one32

abbrev pub drift_fresh : DriftState
drift_fresh = record { baseline = None; drift_streak = 0 }

-- ---- on paper

-- 1 "settings not accepted"
unfoldable pub drift_new : BaselineDriftConfig → Answer DriftState
drift_new c = unless (drift_accepted c) 1 (taken drift_fresh)

abbrev pub paper_made : Made DriftState → Answer DriftState
paper_made r = on_paper_made r
