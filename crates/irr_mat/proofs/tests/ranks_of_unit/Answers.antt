-- The unit matrix and its multiple by 0 have small entries.
use Rattle.irr_mat.specs.Entries.{first_order}
use Rattle.irr_mat.proofs.Trial.{unit-within, zero_fits, zero-within}
use Rattle.irr_mat.proofs.tests.ranks_of_unit.Goals as goal

pub scale-requires-clause-sizes : goal.scale-requires-clause-sizes
scale-requires-clause-sizes g c =
    let u = c.in_ok-unit.unit in
    zero_fits g.S.Scalar.value c.args.order.now.n u.entries.items u.rows u.cols c.in_ok-unit.ensures.rows c.in_ok-unit.ensures.cols c.in_ok-unit.ensures.value
    c.in_ok-none.none c.in_ok-none.ensures.value (first_order g.S.Scalar.order_of u.entries.items) c.in_ok-unit.ensures.order

pub tried_rank-requires-clause-within : goal.tried_rank-requires-clause-within
tried_rank-requires-clause-within g c =
    let u = c.in_ok-unit.unit in
    unit-within g.S.Scalar.value c.args.order.now.n u.entries.items u.rows u.cols c.in_ok-unit.ensures.rows c.in_ok-unit.ensures.cols c.in_ok-unit.ensures.value
    (first_order g.S.Scalar.order_of u.entries.items) c.in_ok-unit.ensures.order

pub tried_rank-requires-2-clause-within : goal.tried_rank-requires-2-clause-within
tried_rank-requires-2-clause-within g c =
    let u = c.in_ok-unit.unit in
    let z = c.in_ok-zero.zero in
    zero-within g.S.Scalar.value c.args.order.now.n u.entries.items u.rows u.cols c.in_ok-unit.ensures.rows c.in_ok-unit.ensures.cols c.in_ok-unit.ensures.value
    c.in_ok-none.none c.in_ok-none.ensures.value (first_order g.S.Scalar.order_of u.entries.items) c.in_ok-unit.ensures.order
    (first_order g.S.Scalar.order_of z.entries.items) z.rows z.cols z.entries.items c.in_ok-zero.ensures.order c.in_ok-zero.ensures.rows c.in_ok-zero.ensures.value
