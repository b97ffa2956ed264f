-- The numbers are powers of z.
use Rattle.std.proofs.Common.{sym, ◌∙◌, subst, arith}
use Rattle.irr_canonical.specs.RootSum.{IsRootSum}
use Rattle.irr_canonical.proofs.RootSums.{IsRootSum-root}
use Rattle.irr_root.proofs.Smalls.{denominators_of_small, sizes_of_small}
use Rattle.irr_root.proofs.extensions.tests.is_imaginary_unit.Goals as goal

pub equal-requires-clause-orders : goal.equal-requires-clause-orders
equal-requires-clause-orders g c = c.in_ok-root.ensures.order ∙ sym c.requires.small.has_order

pub equal-requires-clause-denominators : goal.equal-requires-clause-denominators
equal-requires-clause-denominators g c =
    let n = c.args.order.now.n in
    denominators_of_small g.S.Scalar.order_of g.S.Scalar.value
    (λ y. g.met.S.Scalar.admitted_positive (g.S.Scalar.order_of y) (g.met.S.Scalar.order_admitted y))
    (λ y. g.met.S.Scalar.admitted_limited (g.S.Scalar.order_of y) (g.met.S.Scalar.order_admitted y))
    n 1 1 c.args.x.now c.in_ok-root.root c.requires.small
    (record { has_order = c.in_ok-root.ensures.order; few = subst (IsRootSum n 1 1) (sym c.in_ok-root.ensures.value) (IsRootSum-root n 1) })

pub equal-requires-clause-sizes : goal.equal-requires-clause-sizes
equal-requires-clause-sizes g c =
    let n = c.args.order.now.n in
    sizes_of_small g.S.Scalar.order_of g.S.Scalar.value
    (λ y. g.met.S.Scalar.admitted_positive (g.S.Scalar.order_of y) (g.met.S.Scalar.order_admitted y))
    (λ y. g.met.S.Scalar.admitted_limited (g.S.Scalar.order_of y) (g.met.S.Scalar.order_admitted y))
    n 1 1 c.args.x.now c.in_ok-root.root c.requires.small
    (record { has_order = c.in_ok-root.ensures.order; few = subst (IsRootSum n 1 1) (sym c.in_ok-root.ensures.value) (IsRootSum-root n 1) })
    (omega arith) (omega arith)

pub equal-requires-2-clause-orders : goal.equal-requires-2-clause-orders
equal-requires-2-clause-orders g c = c.in_ok-opposite.ensures.order ∙ sym c.requires.small.has_order

pub equal-requires-2-clause-denominators : goal.equal-requires-2-clause-denominators
equal-requires-2-clause-denominators g c =
    let n = c.args.order.now.n in
    denominators_of_small g.S.Scalar.order_of g.S.Scalar.value
    (λ y. g.met.S.Scalar.admitted_positive (g.S.Scalar.order_of y) (g.met.S.Scalar.order_admitted y))
    (λ y. g.met.S.Scalar.admitted_limited (g.S.Scalar.order_of y) (g.met.S.Scalar.order_admitted y))
    n 1 1 c.args.x.now c.in_ok-opposite.opposite c.requires.small
    (record { has_order = c.in_ok-opposite.ensures.order; few = subst (IsRootSum n 1 1) (sym c.in_ok-opposite.ensures.value) (IsRootSum-root n 3) })

pub equal-requires-2-clause-sizes : goal.equal-requires-2-clause-sizes
equal-requires-2-clause-sizes g c =
    let n = c.args.order.now.n in
    sizes_of_small g.S.Scalar.order_of g.S.Scalar.value
    (λ y. g.met.S.Scalar.admitted_positive (g.S.Scalar.order_of y) (g.met.S.Scalar.order_admitted y))
    (λ y. g.met.S.Scalar.admitted_limited (g.S.Scalar.order_of y) (g.met.S.Scalar.order_admitted y))
    n 1 1 c.args.x.now c.in_ok-opposite.opposite c.requires.small
    (record { has_order = c.in_ok-opposite.ensures.order; few = subst (IsRootSum n 1 1) (sym c.in_ok-opposite.ensures.value) (IsRootSum-root n 3) })
    (omega arith) (omega arith)
