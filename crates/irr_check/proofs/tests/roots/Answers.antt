-- Powers of z.
use Rattle.std.proofs.Common.{◌≡◌, sym, subst, length, ◌%◌, rules}
use Rattle.irr_canonical.specs.RootSum.{IsRootSum}
use Rattle.irr_canonical.proofs.RootSums.{IsRootSum-root}
use Rattle.irr_check.proofs.MadeReports.{RootsSoFar, limited_roots, roots-more, roots-none}
use Rattle.irr_check.proofs.tests.roots.Goals as goal

pub loop-e-init : goal.loop-e-init
loop-e-init g c = roots-none g.S.Scalar.order_of g.S.Scalar.value c.args.order.now.n c.new-row.result.items c.new-row.ensures.items

pub loop-e-preserved : goal.loop-e-preserved
loop-e-preserved g c =
    let n = c.args.order.now.n in
    roots-more g.S.Scalar.order_of g.S.Scalar.value n c.loop-e.e-index c.loop-e.row.items c.push.new.self.items c.in_ok-root.root c.loop-e.invariant
    c.in_ok-push.ensures.items c.in_ok-root.ensures.order (subst (IsRootSum n 1 1) (sym c.in_ok-root.ensures.value) (IsRootSum-root n _))

pub returns : goal.returns
returns g c =
    let done : c.loop-e.e-index ≡ length c.args.exponents.now = search rules in
    limited_roots g.S.Scalar.order_of g.S.Scalar.value c.args.order.now.n (length c.args.exponents.now) c.loop-e.row.items
    (subst (λ k. RootsSoFar g.S.Scalar.order_of g.S.Scalar.value c.args.order.now.n k c.loop-e.row.items) done c.loop-e.invariant)
