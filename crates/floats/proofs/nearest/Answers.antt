-- `floats::nearest` meets its contract: its three ways are `nearest`'s three outcomes. Assumes nothing.
use Rattle.std.proofs.Common.{◌≡◌, ℕ, ◌+◌, ◌-◌, ◌*◌, ◌/◌, ◌%◌, ◌^◌, ◌<◌, ◌≤◌, sym, ap, ◌∙◌, subst, one-mul, add-one, arith, lit<, shl_exact}
use lib.Bits.{bit_and, and_mask}
use lib.Ieee.Nearest.{closest}
use Rattle.floats.proofs.Compared.{nearest_below, nearest_above, nearest_tie}
use Rattle.floats.proofs.nearest.Goals as goal

-- `1 << h`
one_shl : (h : ℕ) → h < 64 → 1 * 2 ^ h % 2 ^ 64 ≡ 2 ^ h
one_shl h l = let w : 1 + h ≤ 64 = omega arith in shl_exact 1 h 64 (lit< tt) w ∙ one-mul (2 ^ h)

-- `(a & (d - 1)) * 2`
twice : (a h : ℕ) → h < 64 → bit_and a (1 * 2 ^ h % 2 ^ 64 - 1) * 2 ≡ a % 2 ^ h * 2
twice a h l = ap (λ (d : ℕ). bit_and a (d - 1) * 2) (one_shl h l) ∙ ap (λ (x : ℕ). x * 2) (and_mask a h)

module _ (a h : ℕ) (l : h < 64) where
  below : bit_and a (1 * 2 ^ h % 2 ^ 64 - 1) * 2 < 1 * 2 ^ h % 2 ^ 64 → a / 2 ^ h ≡ closest a (2 ^ h)
  below t = sym (nearest_below (a / 2 ^ h) (a % 2 ^ h * 2) (2 ^ h) (subst (λ (x : ℕ). x < 2 ^ h) (twice a h l) (subst (λ (d : ℕ). bit_and a (1 * 2 ^ h % 2 ^ 64 - 1) * 2 < d) (one_shl h l) t)))

  above : 1 * 2 ^ h % 2 ^ 64 < bit_and a (1 * 2 ^ h % 2 ^ 64 - 1) * 2 → a / 2 ^ h + 1 ≡ closest a (2 ^ h)
  above t = add-one (a / 2 ^ h) ∙ sym (nearest_above (a / 2 ^ h) (a % 2 ^ h * 2) (2 ^ h) (subst (λ (d : ℕ). d < a % 2 ^ h * 2) (one_shl h l) (subst (λ (x : ℕ). 1 * 2 ^ h % 2 ^ 64 < x) (twice a h l) t)))

  level : bit_and a (1 * 2 ^ h % 2 ^ 64 - 1) * 2 ≡ 1 * 2 ^ h % 2 ^ 64 → a / 2 ^ h + a / 2 ^ h % 2 ≡ closest a (2 ^ h)
  level t = sym (nearest_tie (a / 2 ^ h) (a % 2 ^ h * 2) (2 ^ h) (sym (twice a h l) ∙ t ∙ one_shl h l))

pub returns-then-t-d : goal.returns-then-t-d
returns-then-t-d c = below c.args.a c.args.h c.requires.h_bound c.if-t-d.true

pub returns-then-t-d-2 : goal.returns-then-t-d-2
returns-then-t-d-2 c = above c.args.a c.args.h c.requires.h_bound c.if-t-d-2.true

pub returns : goal.returns
returns c = level c.args.a c.args.h c.requires.h_bound (omega arith)
