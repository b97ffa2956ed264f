-- What is before and after the middle.
use Rattle.std.proofs.Common.{◌≤◌, length, arith}
use Rattle.irr_sparse.proofs.terms.place_of.Goals as goal

pub loop-low-preserved : goal.loop-low-preserved
loop-low-preserved c =
    let ordered : c.loop-low.low ≤ c.loop-low.high = c.loop-low.invariant.ordered in
    let within : c.loop-low.high ≤ length c.args.terms.now = c.loop-low.invariant.within in
    record {
      ordered = omega arith;
      within = omega arith;
      before = c.loop-low.invariant.before;
      after = λ _. c.if-terms-middle.false;
    }
