-- How a row is answered: by the definitions that the promises of the public functions cite. Definitions only.
use Rattle.std.specs.Prelude.{List, [], ◌∷◌, map, replicate, Float}
use Rattle.logistic.specs.Score.{Answer, taken, refusal, answer_of}
use Rattle.frame_stats.specs.Scale.{scale_of}
use Rattle.detectors.specs.Presence.{presence_new, presence_step}
use Rattle.detectors.specs.Motion.{motion_new, motion_step}
use Rattle.detectors.specs.Quality.{quality_new, quality_step}
use Rattle.drift.specs.Settings.{drift_new}
use Rattle.slots.specs.declared.DetectorConfig.TheVariants as given
use Rattle.worked.specs.Rows.{Question, presence, motion, quality, drift, frames, pairs, z, recording, Fact, scale, score, refused, Seen, at, Row}
use Rattle.worked.specs.Runs.{run}
use Rattle.worked.specs.Alone.{made, judged, beside, drift_on}
use Rattle.worked.specs.InSet.{set_new, judge_on, by_presence, by_motion, by_quality, by_means}
use Rattle.worked.specs.Buffer.{buffer_new, push_on}
use Rattle.worked.specs.Recording.{pipeline_new, record_on}

-- a detector is asked by itself, and in a set
pub data Way : Type 0 where
  alone in_set : Way

abbrev pub scored : Answer → Fact
scored (taken n x) = score x
scored (refusal n p) = refused n

-- what comes out; x is what the lent stores hold everywhere before
unfoldable pub answer : Way → Float → Question → List Seen
answer alone x (presence c before ws) = run (λ s w. judged (presence_step c s w)) (made (presence_new c)) before ws
answer alone x (motion c before ws) = run (λ s w. judged (motion_step c s w)) (made (motion_new c)) before ws
answer alone x (quality c before ws) = run (λ s w. judged (quality_step c s w)) (made (quality_new c)) before ws
answer alone x (drift c before ls) = run (drift_on c) (beside (replicate 256 x) [] (made (drift_new c))) before ls
answer in_set x (presence c before ws) = run judge_on (set_new x (given.Presence c)) (map by_presence before) (map by_presence ws)
answer in_set x (motion c before ws) = run judge_on (set_new x (given.Motion c)) (map by_motion before) (map by_motion ws)
answer in_set x (quality c before ws) = run judge_on (set_new x (given.Quality c)) (map by_quality before) (map by_quality ws)
answer in_set x (drift c before ls) = run judge_on (set_new x (given.Drift c)) (map by_means before) (map by_means ls)
answer way x (frames c fs) = run push_on (buffer_new x c) [] fs
answer way x (pairs q) = at 1 (scale (scale_of q [])) ∷ []
answer way x (z v) = at 1 (scored (answer_of v)) ∷ []
answer way x (recording ts) = run record_on (pipeline_new x) [] ts

-- what comes out of a row's question
abbrev pub found : Way → Float → Row → List Seen
found way x r = answer way x r.asks
