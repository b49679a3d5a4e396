-- What the counters hand out: each number but 2^64 - 1, once, in order. Assumes nothing.
use Prim.Native.Nat.{ℕ, ◌+◌, ◌<◌}
use mathlib.Core.Path.{◌≡◌, refl}
use mathlib.Core.Bool.{Bool, true, false, cond}
use native.Mathlib.Omega.{arith}
use lib.Dec.{eqb}
use borrow.Author.Tests.{eq-eqb, ne_eqb}
use Rattle.rvcsi_core.specs.Counters.{last, minted, given, counted, next_window, next_event}
use Rattle.rvcsi_core.specs.declared.ids.Ids.{Ids}
use Rattle.std.specs.Prelude.{Some, None}
use Rattle.rvcsi_core.specs.declared.ids.Minted.{Minted}

module _ (n : ℕ) (x y : Minted) where
  pub at_last : n ≡ last → x ≡ cond (eqb n last) x y
  at_last e = rw (eq-eqb n last e)

  pub below_last : (n ≡ last → ⊥) → y ≡ cond (eqb n last) x y
  below_last e = rw (ne_eqb n last e)

-- what one counter gives, beside the other counter as it stood
pub window_by : (i : Ids) → minted (given i.window) (record { window = counted i.window; event = i.event }) ≡ next_window i
unfolding given counted next_window
window_by i =
    let n = i.window in
    elim (eqb n last) as (λ b. minted (cond b None (Some n)) (record { window = cond b n (n + 1); event = i.event }) ≡ cond b (minted None i) (minted (Some n) (record { window = n + 1; event = i.event }))) [ true ↦ refl | false ↦ refl ]

pub event_by : (i : Ids) → minted (given i.event) (record { window = i.window; event = counted i.event }) ≡ next_event i
unfolding given counted next_event
event_by i =
    let n = i.event in
    elim (eqb n last) as (λ b. minted (cond b None (Some n)) (record { window = i.window; event = cond b n (n + 1) }) ≡ cond b (minted None i) (minted (Some n) (record { window = i.window; event = n + 1 }))) [ true ↦ refl | false ↦ refl ]

-- below 2^64 - 1 the number at hand is given, and the counter rises by one
pub window_given : (i : Ids) → i.window < last → minted (Some i.window) (record { window = i.window + 1; event = i.event }) ≡ next_window i
unfolding next_window
window_given i h = below_last i.window _ _ (λ e. omega arith)

pub event_given : (i : Ids) → i.event < last → minted (Some i.event) (record { window = i.window; event = i.event + 1 }) ≡ next_event i
unfolding next_event
event_given i h = below_last i.event _ _ (λ e. omega arith)

-- at 2^64 - 1 none is given, and the counters stay
pub window_full : (i : Ids) → i.window ≡ last → minted None i ≡ next_window i
unfolding next_window
window_full i e = at_last i.window _ _ e

pub event_full : (i : Ids) → i.event ≡ last → minted None i ≡ next_event i
unfolding next_event
event_full i e = at_last i.event _ _ e

-- 2^64 - 1 itself is never handed out
never : (n : ℕ) (x y : Minted) → x.taken ≡ None → y.taken ≡ Some n → (cond (eqb n last) x y).taken ≡ Some last → ⊥
never n x y p q = go (eqb n last) (λ e. borrow.Author.Tests.eqb-false n last e)
  where
    go : (b : Bool) → (b ≡ false → n ≡ last → ⊥) → (cond b x y).taken ≡ Some last → ⊥
    go true h g = let z : ◌≡◌ {A = ℕ} 0 1 = cc in omega arith
    go false h g = h refl (cc)

pub window_never : (i : Ids) → (next_window i).taken ≡ Some last → ⊥
unfolding next_window
window_never i = never i.window _ _ refl refl

pub event_never : (i : Ids) → (next_event i).taken ≡ Some last → ⊥
unfolding next_event
event_never i = never i.event _ _ refl refl
