-- Number by number.
use Rattle.std.proofs.Common.{rules, ◌≡◌, sym, subst, ◌<◌, length}
use Rattle.std.specs.Int.{◌∣◌}
use Rattle.irr_char.proofs.AverageTerms.{item-order}
use Rattle.irr_mult.proofs.LiftedRows.{LiftedSoFar, lifted_all, lifted_more, lifted_none, small_lift}
use Rattle.irr_mult.proofs.lifting.lifted.Goals as goal

pub loop-x-init : goal.loop-x-init
loop-x-init g c =
    let order = g.S.Scalar.order_of in
    let value = g.S.Scalar.value in
    subst (LiftedSoFar order value c.args.order.now.n c.args.row.now 0) (sym c.new-made.ensures.items)
    (lifted_none order value c.args.order.now.n c.args.row.now)

pub lift-requires-clause-divides : goal.lift-requires-clause-divides
lift-requires-clause-divides g c =
    let r = c.requires in
    subst (λ m. m ∣ c.args.order.now.n) (sym (item-order g.S.Scalar.order_of g.S.Scalar.value r.0 r.1 c.args.row.now
    r.3 c.loop-x.x-index
    (subst (λ m. c.loop-x.x-index < m) r.3.count c.loop-x-test.true) c.x-item.result c.x-item.is)) r.2

pub lift-requires-clause-size : goal.lift-requires-clause-size
lift-requires-clause-size g c =
    let r = c.requires in
    let x = c.x-item.result in
    let admitted = g.met.S.Scalar.order_admitted x in
    let n = g.S.Scalar.order_of x in
    small_lift g.S.Scalar.order_of g.S.Scalar.value c.args.order.now.n c.args.row.now r.0 r.1 r.3 c.loop-x.x-index
    c.loop-x-test.true x c.x-item.is
    (g.met.S.Scalar.admitted_positive n admitted) (g.met.S.Scalar.admitted_limited n admitted)

pub loop-x-preserved : goal.loop-x-preserved
loop-x-preserved g c =
    lifted_more g.S.Scalar.order_of g.S.Scalar.value c.args.order.now.n c.args.row.now c.loop-x.x-index
    c.loop-x-test.true c.x-item.result c.x-item.is
    c.in_ok-number.number c.in_ok-number.ensures.order c.in_ok-number.ensures.value c.loop-x.made.items
    c.push.new.self.items
    c.in_ok-push.ensures.items c.loop-x.invariant

pub returns : goal.returns
returns g c n h f p v r =
    let done : c.loop-x.x-index ≡ length c.args.row.now = search rules in
    lifted_all g.S.Scalar.order_of g.S.Scalar.value c.args.order.now.n c.args.row.now c.loop-x.x-index done
    c.loop-x.made.items c.loop-x.invariant
    n h f p v r
