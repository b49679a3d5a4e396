-- `listing::field` meets its contract.
-- Assumes nothing.
use native.Mathlib.Omega.{arith}
use Prim.Native.Nat.{◌-◌}
use mathlib.Core.Path.{ap}
use lib.ListN.{length}
use Rattle.listing.proofs.Digits.{field_done, digits_long}
use Rattle.listing.proofs.field.Goals as goal

pub returns : goal.returns
returns c = field_done c.args.n c.args.behind c.zeros-from.result (20 - c.zeros-from.result) c.twenty-text.ensures c.zeros-from.ensures.0 (omega (arith, ap length c.twenty-text.ensures, digits_long 10 20 c.args.n)) c.put-p.ensures.0 c.put-p.ensures.1
