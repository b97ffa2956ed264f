-- One more sum.
use Rattle.std.proofs.Common.{rules, ◌≡◌, subst}
use Rattle.irr_algebra.specs.Fin.{Fin, to_nat}
use Rattle.irr_side.specs.ArmTraces.{AreEach}
use Rattle.irr_power.specs.Returns.{return_sum}
use Rattle.irr_side.proofs.EachItems.{each_more, each_none}
use Rattle.irr_power.proofs.ReturnItems.{row_of_each}
use Rattle.irr_power.proofs.returns.return_row.Goals as goal

pub loop-place-init : goal.loop-place-init
loop-place-init g c e = each_none _ c.new-row.result.items c.new-row.ensures.items

pub loop-place-preserved : goal.loop-place-preserved
loop-place-preserved g c e = each_more (λ k (x : g.row.S.Denot). (g.S.Scalar.order_of x ≡ c.args.order.now.n)
    × ((p : Fin c.args.places) → to_nat p ≡ k → g.S.Scalar.value c.args.order.now.n x ≡ return_sum e p))
    c.loop-place.place c.loop-place.row.items c.push.new.self.items c.in_ok-sum.sum c.in_ok-push.ensures.items (c.loop-place.invariant e)
    (c.in_ok-sum.ensures.order, λ p is. c.in_ok-sum.ensures.value c.args.places e p is)

pub returns : goal.returns
returns g c e =
    let done : c.loop-place.place ≡ c.args.places = search rules in
    row_of_each g.S.Scalar.order_of g.S.Scalar.value c.args.order.now.n c.args.places (return_sum e) c.loop-place.row.items
    (subst (λ m. AreEach (λ k (x : g.row.S.Denot). (g.S.Scalar.order_of x ≡ c.args.order.now.n)
    × ((p : Fin c.args.places) → to_nat p ≡ k → g.S.Scalar.value c.args.order.now.n x ≡ return_sum e p)) m c.loop-place.row.items)
    done (c.loop-place.invariant e))
