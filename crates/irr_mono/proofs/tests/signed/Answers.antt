-- 0, 1 and -1 are sums of at most one power with a sign.
use Rattle.std.proofs.Common.{sym, subst, arith}
use Rattle.irr_canonical.specs.RootSum.{IsRootSum}
use Rattle.irr_canonical.proofs.RootSums.{IsRootSum-more, IsRootSum-one, IsRootSum-zero}
use Rattle.irr_mono.proofs.Trial.{minus_one}
use Rattle.irr_mono.proofs.tests.signed.Goals as goal

pub returns-in_ok-x-in-Nought-clause-sum : goal.returns-in_ok-x-in-Nought-clause-sum
returns-in_ok-x-in-Nought-clause-sum g c =
    let n = c.args.order.now.n in
    subst (IsRootSum n 1 1) (sym c.in_ok-x-in-Nought.ensures.value) (IsRootSum-more n 1 (omega arith) (IsRootSum-zero n 1 (omega arith)))

pub returns-in_ok-x-in-Plus-clause-sum : goal.returns-in_ok-x-in-Plus-clause-sum
returns-in_ok-x-in-Plus-clause-sum g c =
    let n = c.args.order.now.n in
    subst (IsRootSum n 1 1) (sym c.in_ok-x-in-Plus.ensures.value) (IsRootSum-one n)

pub returns-in_ok-x-in-Minus-clause-sum : goal.returns-in_ok-x-in-Minus-clause-sum
returns-in_ok-x-in-Minus-clause-sum g c =
    let n = c.args.order.now.n in
    minus_one n (g.S.Scalar.value n c.in_ok-x-in-Minus.x) c.in_ok-x-in-Minus.ensures.value
