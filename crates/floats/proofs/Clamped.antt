-- A clamped value that is no NaN lies in 0..1, and one that lies there stays. Assumes nothing.
use Rattle.std.proofs.Common.{◌≡◌, Bool, true, false, cond, not, T, refl}
use lib.Ieee.{Float, le, lt, is_nan, of_bits}
use Rattle.floats.specs.Clamp.{zero32, one32, clamp_of}
use Rattle.floats.proofs.Order.{not_lt_le, lt_not_le}

pub clamp_range : (x : Float) → T (not (is_nan x)) → T (le zero32 (clamp_of x)) × T (le (clamp_of x) one32)
unfolding clamp_of is_nan of_bits le
clamp_range x p = go (lt x zero32) (lt one32 x) (not_lt_le x zero32 p tt) (not_lt_le one32 x tt p)
  where
    go : (a b : Bool) → (T (not a) → T (le zero32 x)) → (T (not b) → T (le x one32)) → T (le zero32 (cond a zero32 (cond b one32 x))) × T (le (cond a zero32 (cond b one32 x)) one32)
    go true b f g = (tt, tt)
    go false true f g = (tt, tt)
    go false false f g = (f tt, g tt)

pub clamp_fixed : (x : Float) → T (le zero32 x) → T (le x one32) → clamp_of x ≡ x
unfolding clamp_of
clamp_fixed x p q = go (lt x zero32) (lt one32 x) (λ (h : T (lt x zero32)). lt_not_le x zero32 h p) (λ (h : T (lt one32 x)). lt_not_le one32 x h q)
  where
    go : (a b : Bool) → (T a → ⊥) → (T b → ⊥) → cond a zero32 (cond b one32 x) ≡ x
    go true b f g = absurd (f tt)
    go false true f g = absurd (g tt)
    go false false f g = refl
