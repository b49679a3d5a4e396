-- A turn adds the square of the difference at the next place. Assumes nothing.
use Rattle.std.proofs.Common.{◌≡◌, ◌+◌, ◌∷◌, [], ◌++◌, arith, length, sym}
use Rattle.std.proofs.lemmas.Grind.{common_steps}
use Rattle.std.proofs.lemmas.Slice.Zip.{zip_turn}
use lib.Ieee.{nan, binary64}
use Rattle.lists.specs.Squares.{away_at}
use Rattle.lists.proofs.Fold.{sum_to_more}
use Rattle.lists.proofs.squares_away.Goals as goal

pub loop-x-preserved : goal.loop-x-preserved
loop-x-preserved c =
    let k = length c.loop-x.yielded in
    let turn = zip_turn c.args.list.now c.args.from.now c.loop-x.yielded c.into_iter-x-iterator.result c.loop-x.x-iterator c.next.new.self c.next.result (cc) (cc) c.loop-x.yielded_by (c.in-Some.x, c.in-Some.y) c.in-Some.is c.next.ensures.steps in
    let more = sum_to_more binary64 (away_at c.args.list.now c.args.from.now) k in
    let n : length (c.loop-x.yielded ++ (c.in-Some.x, c.in-Some.y) ∷ []) ≡ k + 1 = grind (arith, common_steps) in
    rw (n, ← more, sym (turn.2 nan), sym (turn.3 nan)) (cc)
