-- Star by star.
use Rattle.std.proofs.Common.{rules, ◌≡◌, sym, subst, length}
use Rattle.irr_mult.proofs.AllListings.{AllSoFar, all_of_all, asked_at, next_of_all, none_of_all}
use Rattle.irr_mult.proofs.listing.all_parts.Goals as goal

pub loop-i-init : goal.loop-i-init
loop-i-init g c A t =
    let order = g.S.Scalar.order_of in
    let value = g.S.Scalar.value in
    subst (AllSoFar order value A c.args.stars.now c.args.traces.now t 0) (sym c.new-parts.ensures.items)
    (none_of_all order value A c.args.stars.now c.args.traces.now t)

pub push_parts-requires : goal.push_parts-requires
push_parts-requires g c =
    asked_at g.S.Scalar.order_of g.S.Scalar.value c.requires.0 c.args.stars.now c.args.traces.now c.requires.1
    c.loop-i.i c.loop-i-test.true
    c.index-stars-i.result c.index-stars-i.is c.index-traces-i.result c.as_slice.result.now c.index-traces-i.is
    c.as_slice.ensures.value

pub loop-i-preserved : goal.loop-i-preserved
loop-i-preserved g c A t =
    next_of_all g.S.Scalar.order_of g.S.Scalar.value A c.args.stars.now c.args.traces.now t c.loop-i.i
    c.loop-i-test.true
    c.index-stars-i.result c.index-stars-i.is c.index-traces-i.result c.as_slice.result.now c.index-traces-i.is
    c.as_slice.ensures.value
    c.loop-i.parts.items c.push_parts.new.parts.items c.in_ok-push_parts.ensures (c.loop-i.invariant A t)

pub returns : goal.returns
returns g c A t =
    let done : c.loop-i.i ≡ length c.args.stars.now = search rules in
    all_of_all g.S.Scalar.order_of g.S.Scalar.value A c.args.stars.now c.args.traces.now t c.loop-i.i done
    c.loop-i.parts.items (c.loop-i.invariant A t)
