-- The sizes of the root and the sum.
use Rattle.std.proofs.Common.{sym, subst, ◌+◌, ◌*◌, ◌/◌, arith}
use Rattle.irr_canonical.specs.RootSum.{IsRootSum}
use Rattle.irr_canonical.proofs.RootSums.{IsRootSum-root}
use Rattle.irr_rep.specs.Twisted.{phase_table}
use Rattle.irr_root.proofs.Smalls.{denominators_of_small, sizes_of_small}
use Rattle.irr_root.proofs.sums.with_root.Goals as goal

pub add-requires-clause-denominators : goal.add-requires-clause-denominators
add-requires-clause-denominators g c =
    let n = c.args.order.now.n in
    denominators_of_small g.S.Scalar.order_of g.S.Scalar.value (λ x. g.met.S.Scalar.admitted_positive (g.S.Scalar.order_of x) (g.met.S.Scalar.order_admitted x))
    (λ x. g.met.S.Scalar.admitted_limited (g.S.Scalar.order_of x) (g.met.S.Scalar.order_admitted x)) n 1 47 c.in_ok-root.root c.args.sum.now
    (record {
      has_order = c.in_ok-root.ensures.order;
      few = subst (IsRootSum n 1 1) (sym c.in_ok-root.ensures.value) (IsRootSum-root n ((c.args.e / c.args.p + c.args.j * (c.order.result / c.args.p)) * (n / (phase_table c.args.t.now).order)));
    }) c.requires.small

pub add-requires-clause-sizes : goal.add-requires-clause-sizes
add-requires-clause-sizes g c =
    let n = c.args.order.now.n in
    sizes_of_small g.S.Scalar.order_of g.S.Scalar.value (λ x. g.met.S.Scalar.admitted_positive (g.S.Scalar.order_of x) (g.met.S.Scalar.order_admitted x))
    (λ x. g.met.S.Scalar.admitted_limited (g.S.Scalar.order_of x) (g.met.S.Scalar.order_admitted x)) n 1 47 c.in_ok-root.root c.args.sum.now
    (record {
      has_order = c.in_ok-root.ensures.order;
      few = subst (IsRootSum n 1 1) (sym c.in_ok-root.ensures.value) (IsRootSum-root n ((c.args.e / c.args.p + c.args.j * (c.order.result / c.args.p)) * (n / (phase_table c.args.t.now).order)));
    }) c.requires.small (omega arith) (omega arith)
