-- None of the members has the product.
use Rattle.std.proofs.Common.{arith}
use Rattle.irr_climb.proofs.splits.member_for.Goals as goal

pub returns : goal.returns
returns c = λ n inside a b. c.loop-n.invariant.none n (let stop = c.loop-n-test.false in omega (arith, inside, stop)) a b
