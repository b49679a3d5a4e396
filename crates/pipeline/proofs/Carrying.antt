-- What the code does makes the definitions: the tests of the whole, and what follows the buffer. Assumes nothing.
use Prim.Native.Nat.{ℕ, zero, suc}
use mathlib.Core.Path.{◌≡◌, refl, sym, ap, ◌∙◌}
use mathlib.Core.Bool.{Bool, true, false, ◌&&◌, ◌||◌, false≢true}
use mathlib.Core.List.{List}
use native.Mathlib.Omega.{arith}
use lib.Dec.{leb}
use lib.ListN.{length}
use lib.Ieee.{Float}
use Rattle.std.specs.Prelude.{Result, Ok, Err}
use Rattle.rvcsi_core.specs.declared.frame.CsiFrame.{CsiFrame}
use Rattle.rvcsi_core.specs.declared.ids.Ids.{Ids}
use Rattle.buffer_rules.specs.Paper.{Returns, nothing, place, window, Answer, numbered, Ruling, fine, refused, ruling}
use Rattle.buffer_rules.specs.Frames.{stores_ok, counts_ok, room_ok}
use Rattle.buffer_rules.specs.State.{empty, state_ok}
use Rattle.buffer_rules.specs.Rulings.{unless, source_ruling}
use Rattle.buffer_rules.specs.Rulings as Buffer
use Rattle.buffer_rules.specs.declared.Refusal.{Refusal}
use Rattle.buffer_rules.specs.declared.WindowBuffer.{WindowBuffer}
use Rattle.buffer_rules.proofs.Numbers.{refusal_is, plainly, plain, frame-plain, flush-plain}
use Rattle.window_buffer.specs.Push.{paper, room_of, take_of, drain_of}
use Rattle.window_buffer.specs.Push as Push
use Rattle.window_buffer.specs.declared.Pushed.{Pushed}
use Rattle.slots.specs.Slots.{set_ok}
use Rattle.slots.specs.Batches as Batches
use Rattle.slots.specs.declared.Batch.{Batch}
use Rattle.slots.specs.Limits as Limits
use Rattle.slots.proofs.Pushes.{nothing_is}
use Rattle.pipeline.specs.Recents.{cap}
use Rattle.pipeline.specs.Whole.{lent_ok, pipeline_ok, event_room, frame_ruling, flush_ruling, whole_ruling}
use Rattle.pipeline.specs.Process.{Carried, still, onward_with, onward, Outcome, outcome, carry, carried, joins, refused_of, ruled, process_of, flush_of}
use Rattle.pipeline.specs.declared.EventPipeline.{EventPipeline}
use Rattle.pipeline.specs.declared.Processed.{Processed}

-- ---- the buffer's answer

-- an answer that returns no window leaves the rest
module _ (i : Ids) (b : WindowBuffer) (p : EventPipeline) (means base : List Float) where
  plain_still : (a : Answer) (k : ℕ) (r : Returns) → plainly k r ≡ true → onward_with r a i b p means base ≡ still a i b p base
  plain_still a zero r h = absurd (false≢true h)
  plain_still a (suc k) nothing h = refl
  plain_still a (suc k) (place n) h = refl
  plain_still a (suc k) (window w n) h = absurd (false≢true h)

-- ---- the tests of the whole

-- what the whole refuses is refused, whatever follows
whole_refuses : (l d k b : Bool) (rest : Ruling) (a : Answer) → refused a ≡ unless l 13 (unless d 14 (unless k 14 fine)) → unless l 13 (unless (d && (k && b)) 14 rest) ≡ refused a
whole_refuses false d k b rest a e = sym e
whole_refuses true false k b rest a e = sym e
whole_refuses true true false b rest a e = sym e
whole_refuses true true true b rest a e = absurd (let z : ◌≡◌ {A = ℕ} 0 1 = cc in omega arith)

-- else the buffer's order goes on
whole_goes_on : (s m d k b : Bool) (rest : Ruling) → fine ≡ unless (s && m) 13 (unless d 14 (unless k 14 fine)) → unless (s && m) 13 (unless (d && (k && b)) 14 rest) ≡ unless s 13 (unless b 14 rest)
whole_goes_on false m d k b rest e = absurd (let z : ◌≡◌ {A = ℕ} 0 1 = cc in omega arith)
whole_goes_on true false d k b rest e = absurd (let z : ◌≡◌ {A = ℕ} 0 1 = cc in omega arith)
whole_goes_on true true false k b rest e = absurd (let z : ◌≡◌ {A = ℕ} 0 1 = cc in omega arith)
whole_goes_on true true true false b rest e = absurd (let z : ◌≡◌ {A = ℕ} 0 1 = cc in omega arith)
whole_goes_on true true true true b rest e = refl

-- ---- the whole after the buffer

-- a ruling carried through the buffer
carry_ruled : (pl : EventPipeline) (i : Ids) (A P B M W : List Float) (x : Ruling) → refusal_is plain x ≡ true → (o : Push.Outcome)
    → carry pl B (Push.ruled x o (λ why. Push.refused_of why i pl.buffer A P M W)) ≡ ruled x (carry pl B o) (λ why. refused_of why i pl A P B M W)
carry_ruled pl i A P B M W fine h o = refl
carry_ruled pl i A P B M W (refused why) h o =
    ap (λ (c : Carried). joins c (Push.refused_of why i pl.buffer A P M W)) (plain_still i pl.buffer pl M B why why.number why.returns h)

-- all that comes out, from the two calls
both_calls : (r : Processed) (A P B M W : List Float) (c : Carried) (o : Push.Outcome) → carried r B ≡ c → o.amplitudes ≡ A → o.phases ≡ P → o.means ≡ M → o.variances ≡ W → outcome r A P B M W ≡ joins c o
both_calls r A P B M W c o ec ea ep em ew =
    λ t. record {
      reply = (ec t).reply;
      ids = (ec t).ids;
      pipeline = (ec t).pipeline;
      batch = (ec t).batch;
      amplitudes = sym ea t;
      phases = sym ep t;
      baseline = (ec t).baseline;
      means = sym em t;
      variances = sym ew t;
    }

-- ---- a call of the pipeline, over one of its buffer

-- `out` follows the buffer's outcome `o` where the whole has nothing against it, and is refused where it has
pub record Follows (i : Ids) (pl : EventPipeline) (A P B M W : List Float) (o : Push.Outcome) (out : Outcome) : Type 0 where
  pub refuses : (a : Answer) → refused a ≡ whole_ruling (room_of A P M W) (length B) pl.detectors pl.recent.count → refused_of a i pl A P B M W ≡ out
  pub goes_on : fine ≡ whole_ruling (room_of A P M W) (length B) pl.detectors pl.recent.count → carry pl B o ≡ out

-- any order that begins with the whole's tests and goes on as the buffer's does
follows_order : (i : Ids) (pl : EventPipeline) (A P B M W : List Float) (rest : Ruling) (taken : Push.Outcome)
    → refusal_is plain (unless (stores_ok (room_of A P M W)) 13 (unless (state_ok pl.buffer) 14 rest)) ≡ true
    → Follows i pl A P B M W
    (Push.ruled (unless (stores_ok (room_of A P M W)) 13 (unless (state_ok pl.buffer) 14 rest)) taken (λ why. Push.refused_of why i pl.buffer A P M W))
    (ruled (unless (lent_ok (room_of A P M W) (length B)) 13 (unless (pipeline_ok pl) 14 rest)) (carry pl B taken) (λ why. refused_of why i pl A P B M W))
unfolding lent_ok pipeline_ok whole_ruling
follows_order i pl A P B M W rest taken h =
    let s = stores_ok (room_of A P M W) in
    let m = leb Limits.room_of (length B) in
    let d = set_ok pl.detectors in
    let k = leb pl.recent.count cap in
    let b = state_ok pl.buffer in
    record {
      refuses = λ a e. sym (ap (λ (x : Ruling). ruled x (carry pl B taken) (λ why. refused_of why i pl A P B M W)) (whole_refuses (s && m) d k b rest a e));
      goes_on = λ e.
          carry_ruled pl i A P B M W (unless s 13 (unless b 14 rest)) h taken
          ∙ sym (ap (λ (x : Ruling). ruled x (carry pl B taken) (λ why. refused_of why i pl A P B M W)) (whole_goes_on s m d k b rest e));
    }

pub frame_follows : (i : Ids) (pl : EventPipeline) (f : CsiFrame) (a p q A P B M W : List Float)
    → Follows i pl A P B M W (Push.push_of i (event_room i) pl.buffer f a p q A P M W) (process_of i pl f a p q A P B M W)
unfolding process_of Push.push_of frame_ruling Buffer.frame_ruling
frame_follows i pl f a p q A P B M W =
    follows_order i pl A P B M W (unless (counts_ok f (length a) (length p) (length q)) 5 (source_ruling i (event_room i) pl.buffer f a p q)) (take_of i pl.buffer f a p q A P M W)
    (frame-plain (room_of A P M W) i (event_room i) pl.buffer f a p q)

pub flush_follows : (i : Ids) (pl : EventPipeline) (A P B M W : List Float)
    → Follows i pl A P B M W (Push.flush_of i (event_room i) pl.buffer A P M W) (flush_of i pl A P B M W)
unfolding flush_of Push.flush_of flush_ruling Buffer.flush_ruling
flush_follows i pl A P B M W =
    follows_order i pl A P B M W (unless (empty pl.buffer || room_ok i (event_room i)) 8 fine) (drain_of i pl.buffer A P M W)
    (flush-plain (room_of A P M W) i (event_room i) pl.buffer)

-- ---- as the code returns it
module _ {i : Ids} {pl : EventPipeline} {A P B M W : List Float} {o : Push.Outcome} {out : Outcome} (g : Follows i pl A P B M W o out)
    (v : Result Unit Refusal) (is-v : ruling v ≡ whole_ruling (room_of A P M W) (length B) pl.detectors pl.recent.count) where
  pub refused-by : (why : Refusal) (e : Batch) → v ≡ Err why → e ≡ Batches.nothing
      → record { reply = numbered why; ids = i; pipeline = pl; batch = e; amplitudes = A; phases = P; baseline = B; means = M; variances = W } ≡ out
  refused-by why e h k =
      (λ t. record { reply = numbered why; ids = i; pipeline = pl; batch = (k ∙ nothing_is) t; amplitudes = A; phases = P; baseline = B; means = M; variances = W })
      ∙ g.refuses (numbered why) (sym (ap ruling h) ∙ is-v)

  pub taken-by : v ≡ Ok tt → (p : Pushed) (r : Processed) (A' P' B' M' W' : List Float) → Push.outcome (paper p.reply) p.ids p.buffer A' P' M' W' ≡ o
      → carried r B' ≡ onward (paper p.reply) p.ids p.buffer pl M' B → outcome r A' P' B' M' W' ≡ out
  taken-by h p r A' P' B' M' W' is-o is-r =
      both_calls r A' P' B' M' W' _ (Push.outcome (paper p.reply) p.ids p.buffer A' P' M' W') is-r refl refl refl refl
      ∙ ap (carry pl B) is-o ∙ g.goes_on (sym (ap ruling h) ∙ is-v)
