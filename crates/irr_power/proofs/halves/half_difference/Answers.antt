-- Sizes, and the half.
use Rattle.std.proofs.Common.{sym, subst, refl, ◌^◌, arith}
use Rattle.irr_canonical.specs.RootSum.{IsRootSum}
use Rattle.irr_mat.proofs.Sizes.{sum_denominators, sum_sizes}
use Rattle.irr_power.proofs.HalfNumbers.{denominator_room, few_difference, half_of, size_room, sum_room}
use Rattle.irr_power.proofs.halves.half_difference.Goals as goal

pub sub-requires-clause-denominators : goal.sub-requires-clause-denominators
sub-requires-clause-denominators g c =
    let x = c.args.x.now in
    let n = g.S.Scalar.order_of x in
    sum_denominators g.S.Scalar.value n n (g.met.S.Scalar.admitted_positive n (g.met.S.Scalar.order_admitted x)) refl 5308416 1 110592 1
    x c.args.y.now c.requires.first c.requires.second (2 ^ 60) (omega arith)

pub sub-requires-clause-sizes : goal.sub-requires-clause-sizes
sub-requires-clause-sizes g c =
    let x = c.args.x.now in
    let n = g.S.Scalar.order_of x in
    let admitted = g.met.S.Scalar.order_admitted x in
    sum_sizes g.S.Scalar.value n n (g.met.S.Scalar.admitted_positive n admitted) refl 5308416 1 110592 1
    x c.args.y.now c.requires.first c.requires.second (2 ^ 110) (sum_room n (g.met.S.Scalar.admitted_limited n admitted))

pub scale-requires-clause-denominators : goal.scale-requires-clause-denominators
scale-requires-clause-denominators g c =
    let x = c.args.x.now in
    let s = c.in_ok-difference.difference in
    let n = g.S.Scalar.order_of x in
    let admitted = g.met.S.Scalar.order_admitted x in
    denominator_room n (g.S.Scalar.order_of s) c.in_ok-difference.ensures.order (g.met.S.Scalar.admitted_positive n admitted)
    (g.met.S.Scalar.admitted_limited n admitted) g.S.Scalar.value s
    (subst (IsRootSum n 5419008 1) (sym c.in_ok-difference.ensures.value) (few_difference n (g.S.Scalar.value n x) (g.S.Scalar.value n c.args.y.now)
    c.requires.first c.requires.second))

pub scale-requires-clause-sizes : goal.scale-requires-clause-sizes
scale-requires-clause-sizes g c =
    let x = c.args.x.now in
    let s = c.in_ok-difference.difference in
    let n = g.S.Scalar.order_of x in
    let admitted = g.met.S.Scalar.order_admitted x in
    size_room n (g.S.Scalar.order_of s) c.in_ok-difference.ensures.order (g.met.S.Scalar.admitted_positive n admitted)
    (g.met.S.Scalar.admitted_limited n admitted) g.S.Scalar.value s
    (subst (IsRootSum n 5419008 1) (sym c.in_ok-difference.ensures.value) (few_difference n (g.S.Scalar.value n x) (g.S.Scalar.value n c.args.y.now)
    c.requires.first c.requires.second))

pub returns-clause-value : goal.returns-clause-value
returns-clause-value g c = half_of (g.S.Scalar.order_of c.args.x.now) (g.S.Scalar.order_of c.in_ok-difference.difference) c.in_ok-difference.ensures.order
    g.S.Scalar.value c.in_ok-difference.difference c.in_ok-half.half _ c.in_ok-difference.ensures.value c.in_ok-half.ensures.value
