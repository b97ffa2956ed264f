-- A projection is tried.
use Rattle.std.proofs.Common.{◌≡◌, Bool, true, IsTrue, rules}
use Rattle.irr_mat.specs.Entries.{first_order}
use Rattle.irr_mat.proofs.Trial.{product_fits, trace_fits, sums_fit, idempotent}
use Rattle.irr_mat.proofs.tests.tried_rank.Goals as goal

is-true : (b : Bool) → b ≡ true → IsTrue b
is-true b e = search rules

pub mul-requires-clause-sizes : goal.mul-requires-clause-sizes
mul-requires-clause-sizes g c =
    let m = c.args.m.now in
    let n = first_order g.S.Scalar.order_of m.entries.items in
    product_fits g.S.Scalar.value n m.rows c.args.den c.requires.few c.requires.small c.requires.limited m.entries.items c.requires.within m.cols c.requires.square

pub equal-requires-clause-sizes : goal.equal-requires-clause-sizes
equal-requires-clause-sizes g c =
    let m = c.args.m.now in
    let q = c.in_ok-square.square in
    let n = first_order g.S.Scalar.order_of m.entries.items in
    sums_fit g.S.Scalar.value n m.rows c.args.den c.requires.few c.requires.small c.requires.limited m.entries.items c.requires.within m.cols
    (first_order g.S.Scalar.order_of q.entries.items) q.rows q.cols q.entries.items c.requires.square c.in_ok-square.ensures.order c.in_ok-square.ensures.rows c.in_ok-square.ensures.cols c.in_ok-square.ensures.value

pub projection_rank-requires-clause-projection : goal.projection_rank-requires-clause-projection
projection_rank-requires-clause-projection g c =
    let m = c.args.m.now in
    let q = c.in_ok-square.square in
    let n = first_order g.S.Scalar.order_of m.entries.items in
    idempotent g.S.Scalar.value n m.rows c.args.den c.requires.few c.requires.small c.requires.limited m.entries.items c.requires.within m.cols
    (first_order g.S.Scalar.order_of q.entries.items) q.rows q.cols q.entries.items c.requires.square c.in_ok-square.ensures.order c.in_ok-square.ensures.rows c.in_ok-square.ensures.cols c.in_ok-square.ensures.value
    (c.equal.ensures.0 (is-true c.equal.result c.if-equal.true)).2

pub projection_rank-requires-clause-sizes : goal.projection_rank-requires-clause-sizes
projection_rank-requires-clause-sizes g c =
    let m = c.args.m.now in
    let n = first_order g.S.Scalar.order_of m.entries.items in
    trace_fits g.S.Scalar.value n m.rows c.args.den c.requires.few c.requires.small c.requires.limited m.entries.items c.requires.within
