-- A power of z, or 0.
use Rattle.std.proofs.Common.{sym, subst, arith}
use Rattle.irr_canonical.specs.RootSum.{IsRootSum}
use Rattle.irr_canonical.proofs.RootSums.{IsRootSum-more, IsRootSum-root, IsRootSum-zero}
use Rattle.irr_real.proofs.tests.entry.Goals as goal

pub returns-in_ok-root-in-Some-clause-few : goal.returns-in_ok-root-in-Some-clause-few
returns-in_ok-root-in-Some-clause-few g c =
    let n = c.args.order.now.n in
    subst (IsRootSum n 1 1) (sym c.in_ok-root-in-Some.ensures.value) (IsRootSum-root n _)

pub returns-in_ok-zero-in-None-clause-few : goal.returns-in_ok-zero-in-None-clause-few
returns-in_ok-zero-in-None-clause-few g c =
    let n = c.args.order.now.n in
    subst (IsRootSum n 1 1) (sym c.in_ok-zero-in-None.ensures.value)
    (IsRootSum-more n 1 (omega arith) (IsRootSum-zero n 1 (omega arith)))
