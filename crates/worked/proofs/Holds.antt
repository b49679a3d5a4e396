-- T1 to T12 and the listing hold, by computation: each detector asked by itself and in a set, whatever the lent stores hold before. Assumes nothing.
use mathlib.Core.Path.{◌≡◌, refl}
use mathlib.Core.List.{map}
use lib.Ieee.{Float, of_bits, is_nan, add, sub, mul, div, of_int, lt, le, eq, round}
use Rattle.floats.specs.Clamp.{clamp_of}
use Rattle.floats.specs.Convert.{convert}
use Rattle.floats.specs.Sqrt.{sqrt, root_of, halves, whole, digit}
use Rattle.lists.specs.All.{all_to}
use Rattle.lists.specs.Fold.{sum_to, mean_to}
use Rattle.lists.specs.Tab.{tab}
use Rattle.lists.specs.Laid.{laid}
use Rattle.logistic.specs.Table as logistic
use Rattle.logistic.specs.Score.{floor, q_of, u_of, units_at, score_of, answer_of, z_of, presence_score}
use Rattle.frame_stats.specs.Scan.{scan_of, frame_scan}
use Rattle.frame_stats.specs.Scale as scales
use Rattle.frame_stats.specs.Scale.{numbers_of, finite_or0, scale_of}
use Rattle.window_stats.specs.Means.{mean_of, var_of, mean_first, quality_of}
use Rattle.window_stats.specs.Motion.{step_of, floor_of, sound_of, motion_of}
use Rattle.buffer_rules.specs.Settings.{threshold_ok, settings_ok}
use Rattle.buffer_rules.specs.State.{fresh_of, pending_ok, first_ok, scale_ok, values_ok, width_ok, state_ok}
use Rattle.buffer_rules.specs.Frames.{stores_ok, counts_ok, source_ok, same_count, time_ok, first_of, closes, room_ok, numbers_ok}
use Rattle.buffer_rules.specs.Rulings.{late_ruling, value_ruling, source_ruling, frame_ruling}
use Rattle.window_buffer.specs.Window.{accepted_of, emptied, end_of, window_of}
use Rattle.window_buffer.specs.Push.{close_of, take_of, push_of}
use Rattle.detectors.specs.Common.{limits_ok, over_twice}
use Rattle.detectors.specs.Hysteresis.{move}
use Rattle.detectors.specs.Presence.{presence_default, presence_accepted, presence_new, presence_in, presence_move, presence_step}
use Rattle.detectors.specs.Motion.{motion_default, motion_accepted, motion_new, motion_in, motion_move, motion_step}
use Rattle.detectors.specs.Quality.{quality_default, quality_accepted, quality_new, quality_in, quality_move, quality_step}
use Rattle.drift.specs.Settings.{drift_accepted, drift_new}
use Rattle.drift.specs.Distance.{distance_of, root_mean, relative_to}
use Rattle.drift.specs.Drift.{drift_in, drift_move, drift_step, weighed, measured, anomaly_if, streak_of}
use Rattle.slots.specs.Slots as slots
use Rattle.slots.specs.Slots.{set_ok}
use Rattle.slots.specs.Adding.{no_detectors, put_of, add_of}
use Rattle.slots.specs.Batches.{numbered, fill}
use Rattle.slots.specs.Judging.{hear_to, verdict_of, judge_of}
use Rattle.pipeline.specs.Recents.{none_kept, remember_of}
use Rattle.pipeline.specs.Making.{default_detectors, defaults_of}
use Rattle.pipeline.specs.Whole.{lent_ok, pipeline_ok}
use Rattle.pipeline.specs.Whole as pipelines
use Rattle.pipeline.specs.Process.{process_of}
use Rattle.worked.specs.Rows.{Row}
use Rattle.worked.specs.Runs.{run_from, after}
use Rattle.worked.specs.Alone.{told, drift_on}
use Rattle.worked.specs.InSet.{set_new, judge_on}
use Rattle.worked.specs.Buffer.{buffer_new, push_on}
use Rattle.worked.specs.Recording.{record_on}
use Rattle.worked.specs.Answers.{Way, alone, in_set, answer, found}
use Rattle.worked.specs.Table.{table}

pub table_holds : (way : Way) (x : Float) → map (found way x) table ≡ map (λ (r : Row). r.due) table
unfolding table answer run_from after told drift_on set_new judge_on buffer_new push_on record_on defaults_of default_detectors none_kept remember_of lent_ok pipeline_ok pipelines.frame_ruling process_of presence_score z_of set_ok slots.step_of no_detectors put_of add_of numbered fill hear_to verdict_of judge_of presence_default presence_accepted presence_new presence_in presence_move presence_step motion_default motion_accepted motion_new motion_in motion_move motion_step quality_default quality_accepted quality_new quality_in quality_move quality_step limits_ok over_twice move drift_accepted drift_new drift_in drift_move drift_step weighed measured anomaly_if streak_of distance_of root_mean relative_to laid tab push_of take_of close_of accepted_of emptied window_of end_of fresh_of stores_ok state_ok settings_ok threshold_ok pending_ok first_ok values_ok scale_ok width_ok counts_ok source_ok same_count time_ok first_of closes room_ok numbers_ok late_ruling value_ruling source_ruling frame_ruling frame_scan scan_of all_to scale_of numbers_of scales.rms_of finite_or0 convert sqrt root_of halves whole digit clamp_of sum_to mean_to mean_of var_of mean_first quality_of motion_of step_of floor_of sound_of answer_of score_of units_at u_of q_of floor logistic.table is_nan add sub mul div of_int round lt le eq of_bits
table_holds alone x = refl
table_holds in_set x = refl
