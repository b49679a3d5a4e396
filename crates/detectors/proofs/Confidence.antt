-- No judgement carries a NaN, whatever the score, and every confidence is from 0 to 1: so every event is valid. Assumes nothing.
use mathlib.Core.Path.{◌≡◌, refl, sym, subst}
use mathlib.Core.Bool.{Bool, true, false, not, ◌&&◌, ◌||◌, cond}
use Prim.Native.Nat.{ℕ, zero, suc, ◌+◌, ◌*◌, ◌%◌, ◌^◌, ◌<◌, ◌≤◌, min}
use native.Mathlib.Omega.{arith}
use native.Mathlib.Nat.{mul-pos, mul-le-mul, zero-mul}
use borrow.Author.Tests.{ne_eqb}
use lib.IntN.{ℤ, negsuc}
use lib.Dec.{T, leb, ltb, eqb, leb→le, lt→ltb}
use lib.Ieee.{Float, nan, inf, fin, Format, binary32, of_bits, le, lt, is_nan, fits, neg, add, sub, mul, div, round, up, down}
use lib.Ieee.Fits.{and_l, and_r, up_pos}
use lib.Ieee.Positive.{positive, cross→le, between, mul_mono}
use lib.Ieee.Scale.{finite}
use Rattle.floats.specs.Clamp.{zero32, one32, clamp_of}
use Rattle.floats.proofs.Order as order
use Rattle.floats.proofs.Exact.{add_number, some, div_number}
use Rattle.floats.proofs.Numbers.{not-false}
use Rattle.rvcsi_core.specs.Score.{score_ok}
use Rattle.rvcsi_core.specs.Settings.{million}
use Rattle.rvcsi_core.proofs.Valid.{clamped_score, score_range, event_valid}
use Rattle.rvcsi_core.specs.Event.{event_validity_of}
use Rattle.rvcsi_core.specs.declared.event.CsiEvent.{CsiEvent}
use Rattle.rvcsi_core.specs.declared.event.CsiEventKind.{CsiEventKind}
use Rattle.std.specs.Prelude.{Ok}
use Rattle.detectors.specs.declared.presence.PresenceConfig.{PresenceConfig}
use Rattle.detectors.specs.declared.presence.PresenceState.{PresenceState}
use Rattle.detectors.specs.declared.motion.MotionConfig.{MotionConfig}
use Rattle.detectors.specs.declared.motion.MotionState.{MotionState}
use Rattle.detectors.specs.declared.quality.QualityConfig.{QualityConfig}
use Rattle.detectors.specs.declared.quality.QualityState.{QualityState}
use Rattle.detectors.specs.Common.{two32, over_twice}
use Rattle.detectors.specs.Answers.{Kind, Said, said, event, Valid}
use Rattle.detectors.specs.Hysteresis.{Turn, still, rose, fell, for, moved, move}
use Rattle.detectors.specs.Presence.{presence_said, presence_move}
use Rattle.detectors.specs.Motion.{motion_accepted, motion_said, motion_move, settled_of}
use Rattle.detectors.specs.Quality.{quality_move, said_if, low, good, top}
use Rattle.detectors.proofs.Accepted.{motion_settings}

-- ---- what is compared is a number
pub le_numbers : (x y : Float) → T (le x y) → T (not (is_nan x)) × T (not (is_nan y))
le_numbers x y h = let n = order.not_nan x y h in (not-false (is_nan x) n.0, not-false (is_nan y) n.1)

-- ---- differences and quotients that are numbers
sub_number : (f : Format) (x y : Float) → T (finite x) → T (not (is_nan y)) → T (not (is_nan (sub f x y)))
unfolding sub add neg is_nan
sub_number f nan y p q = absurd p
sub_number f (inf s) y p q = absurd p
sub_number f (fin s m e) nan p q = absurd q
sub_number f (fin s m e) (inf t) p q = tt
sub_number f (fin s m e) (fin t n d) p q = not-false (is_nan (add f (fin s m e) (fin (not t) n d))) (add_number f (fin s m e) (fin (not t) n d) tt tt)

pub one_less : (y : Float) → T (not (is_nan y)) → T (not (is_nan (sub binary32 one32 y)))
unfolding of_bits
one_less y q = sub_number binary32 one32 y tt q

over_positive : (f : Format) (x y : Float) → T (not (is_nan x)) → T (positive y) → T (not (is_nan (div f x y)))
over_positive f x y p q = let s = positive-some y q in not-false (is_nan (div f x y)) (div_number f x y (not-false-is (is_nan x) p) s.0 (some_right (some x) (some y) s.1))
  where
    positive-some : (y : Float) → T (positive y) → T (finite y) × T (some y)
    positive-some nan q = absurd q
    positive-some (inf t) q = absurd q
    positive-some (fin true n d) q = absurd q
    positive-some (fin false zero d) q = absurd q
    positive-some (fin false (suc n) d) q = (tt, rw (ne_eqb (suc n) 0 (λ e. omega (arith, e))) tt)

    not-false-is : (b : Bool) → T (not b) → b ≡ false
    not-false-is true t = absurd t
    not-false-is false t = refl

    some_right : (a b : Bool) → T b → T (a || b)
    some_right true b t = tt
    some_right false b t = t

-- ---- twice an accepted threshold above another is finite and above 0
pub positive_on : (on off : Float) → T (le zero32 off) → T (lt off on) → T (le on million) → T (positive on)
unfolding of_bits le lt is_nan
positive_on nan off z l m = absurd m
positive_on (inf false) off z l m = absurd m
positive_on (inf true) off z l m = absurd (order.lt_not_le off (inf true) l (order.le_trans (inf true) zero32 off tt z))
positive_on (fin true n e) off z l m = absurd (order.lt_not_le off (fin true n e) l (order.le_trans (fin true n e) zero32 off (order.not_lt_le zero32 (fin true n e) tt tt tt) z))
positive_on (fin false zero e) off z l m =
    absurd (order.lt_not_le off (fin false zero e) l (order.le_trans (fin false zero e) zero32 off (order.not_lt_le zero32 (fin false zero e) tt tt (nothing-below e)) z))
  where
    nothing-below : (e : ℤ) → T (not (lt zero32 (fin false zero e)))
    nothing-below e = simp zero-mul tt
positive_on (fin false (suc n) e) off z l m = lt→ltb 0 (suc n) (omega arith)

-- the smallest f32 above 0
abbrev pub least : Float
least = fin false 1 (negsuc 148)

at_least : (m u d p : ℕ) → 0 < u → d ≤ p → 1 * 1 * d ≤ suc m * u * p
at_least m u d p h k = mul-le-mul (mul-pos (omega arith) h) k

pub least_of : (x : Float) → T (fits binary32 x) → T (positive x) → T (le least x)
unfolding fits
least_of nan t p = absurd p
least_of (inf s) t p = absurd p
least_of (fin true m e) t p = absurd p
least_of (fin false zero e) t p = absurd p
least_of (fin false (suc m) e) t p =
    let A = eqb (suc m % 2) 1 && ltb (suc m) (2 ^ 24) in
    let C = leb (down e) (2 ^ 149) in
    let D = ltb (suc m * up e) (2 ^ 128 * down e) in
    cross→le least (fin false (suc m) e) tt p (at_least m (up e) (down e) (2 ^ 149) (up_pos e) (leb→le (down e) (2 ^ 149) (and_r A C (and_l (A && C) D t))))

pub twice_positive : (on off : Float) → T (fits binary32 on) → T (le zero32 off) → T (lt off on) → T (le on million) → T (positive (mul binary32 two32 on))
unfolding of_bits mul round le lt
twice_positive on off t z l m =
    let p = positive_on on off z l m in
    between (mul binary32 two32 least) (mul binary32 two32 on) (mul binary32 two32 million) tt tt
    (mul_mono binary32 two32 two32 least on tt tt tt p tt (least_of on t p)) (mul_mono binary32 two32 two32 on million tt tt p tt tt m)

pub over_twice_number : (x on off : Float) → T (not (is_nan x)) → T (fits binary32 on) → T (le zero32 off) → T (lt off on) → T (le on million) → T (score_ok (over_twice x on))
unfolding over_twice
over_twice_number x on off n t z l m = clamped_score (div binary32 x (mul binary32 two32 on)) (over_positive binary32 x (mul binary32 two32 on) n (twice_positive on off t z l m))

-- ---- a switch speaks only of windows that met a limit
turn_valid : (says : Turn → Said) (b hi lo full : Bool) (k : ℕ) → Valid (says still) → (T hi → Valid (says rose)) → (T lo → Valid (says fell)) → Valid (says (moved b (for b hi lo) full k).turn)
turn_valid says false false lo full k s r f = s
turn_valid says false true lo false k s r f = s
turn_valid says false true lo true k s r f = r tt
turn_valid says true hi false full k s r f = s
turn_valid says true hi true false k s r f = s
turn_valid says true hi true true k s r f = f tt

-- presence, whatever the settings, the state and the score
pub presence_valid : (c : PresenceConfig) (s : PresenceState) (p : Float) → Valid (said (presence_move c s p).first)
unfolding presence_move move
presence_valid c s p =
    turn_valid (λ (t : Turn). said (presence_said t p)) s.present (le c.on_threshold p) (le p c.off_threshold) _ s.streak tt
    (λ h. clamped_score p (le_numbers c.on_threshold p h).1) (λ h. clamped_score (sub binary32 one32 p) (one_less p (le_numbers p c.off_threshold h).0))

-- motion, with settings accepted; `fits` says that the threshold is an f32
pub motion_valid : (c : MotionConfig) → motion_accepted c ≡ true → T (fits binary32 c.on_threshold) → (s : MotionState) (m : Float) → Valid (said (motion_move c s m).first)
unfolding motion_move move settled_of
motion_valid c ok t s m =
    let a = motion_settings c ok in
    let over : T (not (is_nan m)) → T (score_ok (over_twice m c.on_threshold)) = λ n. over_twice_number m c.on_threshold c.off_threshold n t a.off-least a.apart a.on-most in
    turn_valid (λ (t : Turn). said (motion_said t c.on_threshold m)) s.moving (lt c.on_threshold m) (lt m c.off_threshold) _ s.streak tt
    (λ h. over (le_numbers c.on_threshold m (order.lt_le c.on_threshold m h)).1)
    (λ h. clamped_score (sub binary32 one32 (over_twice m c.on_threshold))
    (one_less (over_twice m c.on_threshold) (le_numbers zero32 (over_twice m c.on_threshold) (score_range (over_twice m c.on_threshold) (over (le_numbers m c.off_threshold (order.lt_le m c.off_threshold h)).0)).0).1))

-- quality, whatever the settings, the state and the score
due_valid : (b : Bool) (k : CsiEventKind) (x : Float) → T (score_ok x) → Valid (said (said_if b k x))
due_valid true k x t = t
due_valid false k x t = tt

pub quality_valid : (c : QualityConfig) (s : QualityState) (q : Float) → Valid (said (quality_move c s q).first) × Valid (said (quality_move c s q).second)
unfolding quality_move
quality_valid c s q = go (lt q c.drop_threshold) (λ h. clamped_score (sub binary32 one32 q) (one_less q (le_numbers q c.drop_threshold (order.lt_le q c.drop_threshold h)).0))
  where
    go : (b : Bool) → (T b → T (score_ok (clamp_of (sub binary32 one32 q))))
        → Valid (said (cond b (low c s (min (s.low_streak + 1) (top c)) (clamp_of (sub binary32 one32 q))) good).first) × Valid (said (cond b (low c s (min (s.low_streak + 1) (top c)) (clamp_of (sub binary32 one32 q))) good).second)
    go true f = (due_valid (not s.dropped_emitted && leb c.debounce_windows (min (s.low_streak + 1) (top c))) _ (clamp_of (sub binary32 one32 q)) (f tt), due_valid (not s.calib_emitted && leb c.calib_windows (min (s.low_streak + 1) (top c))) _ (clamp_of (sub binary32 one32 q)) (f tt))
    go false f = (tt, tt)

-- an event with such a confidence passes `validate`
pub event_passes : (k : Kind) (x : Float) → Valid (event k x) → (e : CsiEvent) → e.confidence ≡ x → event_validity_of e ≡ Ok tt
event_passes k x v e h = event_valid e (subst (λ (y : Float). T (score_ok y)) (sym h) v)
