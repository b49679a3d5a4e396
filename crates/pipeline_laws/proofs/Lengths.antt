-- A push and a flush leave every list its length; a window has at most 256 places, and comes only while there are event numbers. Assumes nothing.
use Prim.Native.Nat.{ℕ, ◌*◌, ◌≤◌, ◌<◌}
use mathlib.Core.Path.{◌≡◌, refl, ◌∙◌}
use mathlib.Core.Bool.{Bool, true, false, not, ◌||◌}
use mathlib.Core.List.{List, ◌++◌}
use native.Mathlib.Omega.{arith}
use Rattle.std.proofs.lemmas.Bool.{and_parts, cond_both}
use lib.Dec.{eqb}
use lib.ListN.{length, drop, length-append, length-drop}
use lib.Seq.{paste, length-paste}
use lib.Ieee.{Float}
use Rattle.lists.specs.Tab.{tab}
use Rattle.lists.proofs.Tab.{length-tab}
use Rattle.frame_stats.specs.Scale.{scale_of}
use Rattle.rvcsi_core.specs.Counters.{last}
use Rattle.rvcsi_core.specs.declared.frame.CsiFrame.{CsiFrame}
use Rattle.rvcsi_core.specs.declared.ids.Ids.{Ids}
use Rattle.buffer_rules.specs.Paper.{Returns, nothing, place, window, Answer, fine}
use Rattle.buffer_rules.specs.State.{empty}
use Rattle.buffer_rules.specs.Frames.{closes, room_ok, numbers_ok}
use Rattle.buffer_rules.specs.Rulings.{frame_ruling, flush_ruling}
use Rattle.buffer_rules.specs.declared.WindowBuffer.{WindowBuffer}
use Rattle.buffer_rules.proofs.Facts.{state_fact, width_fact, stores_fact}
use Rattle.buffer_rules.proofs.Ruled.{fine-free, flush-fine-free}
use Rattle.buffer_rules.proofs.Numbers.{plain, frame-plain, flush-plain}
use Rattle.window_buffer.specs.Window.{accepted_of}
use Rattle.window_buffer.specs.Push.{Outcome, room_of, refused_of, close_of, take_of, push_of, drain_of, flush_of}
use Rattle.window_buffer.proofs.Handing.{taking}
use Rattle.window_buffer.proofs.Cases.{by_ruling, by_plain}

-- what a window that is returned has: at most 256 places, and numbers for its events
abbrev pub Numbered : Bool → Returns → Type 0
Numbered e nothing = Unit
Numbered e (place p) = Unit
Numbered e (window w n) = (n ≤ 256) × (e ≡ true)

pub record Long (e : Bool) (A P M W : List Float) (o : Outcome) : Type 0 where
  pub amplitudes : length o.amplitudes ≡ length A
  pub phases : length o.phases ≡ length P
  pub means : length o.means ≡ length M
  pub variances : length o.variances ≡ length W
  pub returns : Numbered e o.reply.returns

-- ---- a close
over : (f : ℕ → Float) (n : ℕ) (l : List Float) → n ≤ 256 → 256 ≤ length l → length (tab f n ++ drop n l) ≡ length l
over f n l h k = simp (length-append, length-tab, length-drop) (omega arith)

close_long : (e : Bool) (i : Ids) (b : WindowBuffer) (A P M W : List Float) → b.subcarrier_count ≤ 256 → 256 ≤ length M → 256 ≤ length W → e ≡ true → Long e A P M W (close_of i b A P M W)
unfolding close_of
close_long e i b A P M W n m w r =
    record { amplitudes = refl; phases = refl; means = over _ b.subcarrier_count M n m; variances = over _ b.subcarrier_count W n w; returns = (n, r) }

-- ---- a frame
room_events : (i : Ids) (e : Bool) (b : WindowBuffer) (t : ℕ) → numbers_ok i e b t ≡ true → closes b t ≡ true → e ≡ true
unfolding numbers_ok room_ok
room_events i e b t h due = (and_parts (not (eqb i.window last)) e (rw due at h)).1

stored : (A a : List Float) (k : ℕ) → k < 16 → length a ≤ 256 → 4096 ≤ length A → length (paste A (256 * k) a (length a)) ≡ length A
stored A a k h n m = length-paste A (256 * k) a (length a) (omega arith) (omega arith)

take_long : (e : Bool) (i : Ids) (b : WindowBuffer) (f : CsiFrame) (a p q A P M W : List Float) → frame_ruling (room_of A P M W) i e b f a p q ≡ fine → Long e A P M W (take_of i b f a p q A P M W)
unfolding take_of accepted_of
take_long e i b f a p q A P M W h =
    let k = taking (room_of A P M W) i e b f a p q h in
    let s = stored A a b.pending k.few k.amplitude k.stores.amplitudes in
    let t = stored P p b.pending k.few k.phase k.stores.phases in
    cond_both (closes b f.timestamp_ns) _ _ (Long e A P M W)
    (λ due.
    let c = close_long e i (accepted_of b f (scale_of q a)) (paste A (256 * b.pending) a (length a)) (paste P (256 * b.pending) p (length p)) M W k.width k.stores.means k.stores.variances
    (room_events i e b f.timestamp_ns (fine-free (room_of A P M W) i e b f a p q h).numbers due) in
    record { amplitudes = c.amplitudes ∙ s; phases = c.phases ∙ t; means = c.means; variances = c.variances; returns = c.returns })
    (λ still. record { amplitudes = s; phases = t; means = refl; variances = refl; returns = tt })

-- a refusal leaves all
left_long : (e : Bool) (i : Ids) (b : WindowBuffer) (A P M W : List Float) (why : Answer) → plain why ≡ true → Long e A P M W (refused_of why i b A P M W)
left_long e i b A P M W why h = record { amplitudes = refl; phases = refl; means = refl; variances = refl; returns = by_plain (Numbered e) tt (λ p. tt) why h }

pub push_long : (e : Bool) (i : Ids) (b : WindowBuffer) (f : CsiFrame) (a p q A P M W : List Float) → Long e A P M W (push_of i e b f a p q A P M W)
unfolding push_of
push_long e i b f a p q A P M W =
    by_ruling (Long e A P M W) plain (frame_ruling (room_of A P M W) i e b f a p q) _ _ (frame-plain (room_of A P M W) i e b f a p q)
    (take_long e i b f a p q A P M W) (left_long e i b A P M W)

-- ---- a flush
flush_events : (i : Ids) (e : Bool) (b : WindowBuffer) → (empty b || room_ok i e) ≡ true → empty b ≡ false → e ≡ true
unfolding room_ok
flush_events i e b h n = (and_parts (not (eqb i.window last)) e (rw n at h)).1

drain_long : (e : Bool) (i : Ids) (b : WindowBuffer) (A P M W : List Float) → flush_ruling (room_of A P M W) i e b ≡ fine → Long e A P M W (drain_of i b A P M W)
unfolding drain_of
drain_long e i b A P M W h =
    cond_both (empty b) _ _ (Long e A P M W) (λ none. record { amplitudes = refl; phases = refl; means = refl; variances = refl; returns = tt })
    (λ some.
    let g = flush-fine-free (room_of A P M W) i e b h in
    let s = stores_fact (room_of A P M W) g.stores in
    close_long e i b A P M W (width_fact b (state_fact b g.state).width) s.means s.variances (flush_events i e b g.numbers some))

pub flush_long : (e : Bool) (i : Ids) (b : WindowBuffer) (A P M W : List Float) → Long e A P M W (flush_of i e b A P M W)
unfolding flush_of
flush_long e i b A P M W =
    by_ruling (Long e A P M W) plain (flush_ruling (room_of A P M W) i e b) _ _ (flush-plain (room_of A P M W) i e b) (drain_long e i b A P M W) (left_long e i b A P M W)
