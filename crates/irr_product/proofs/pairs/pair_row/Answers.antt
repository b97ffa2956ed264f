-- The rows of two members.
use Rattle.irr_product.proofs.PairEntries.{own_row, own_rows}
use Rattle.irr_product.proofs.pairs.pair_row.Goals as goal

pub part_row-requires-clause-rows : goal.part_row-requires-clause-rows
part_row-requires-clause-rows g c = own_rows g.S.Scalar.order_of g.S.Scalar.value c.args.order.now.n c.args.a c.args.b
    c.args.star.now c.args.meeting.now c.len-places.result c.len-places.ensures.count c.index-left.result.now c.index-right.result.now
    c.index-left.ensures c.index-right.ensures c.as_slice.result.now c.as_slice-2.result.now c.as_slice.ensures.value
    c.as_slice-2.ensures.value c.as_slice-classes.result.now c.as_slice-classes.ensures.value c.requires

pub returns : goal.returns
returns g c = own_row g.S.Scalar.order_of g.S.Scalar.value c.args.order.now.n c.args.a c.args.b
    c.args.star.now c.args.meeting.now c.len-places.result c.len-places.ensures.count c.index-left.result.now c.index-right.result.now
    c.index-left.ensures c.index-right.ensures c.as_slice.result.now c.as_slice-2.result.now c.as_slice.ensures.value
    c.as_slice-2.ensures.value c.as_slice-classes.result.now c.as_slice-classes.ensures.value c.requires.first c.requires.second
    c.in_ok-row.row.items c.in_ok-row.ensures
