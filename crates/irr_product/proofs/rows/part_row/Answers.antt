-- One more sum.
use Rattle.std.proofs.Common.{rules, ◌≡◌, ◌∙◌, sym, subst, ◌<◌}
use Rattle.irr_algebra.specs.Fin.{Fin, to_nat}
use Rattle.irr_product.specs.ClassRows.{ClassRows, class_sum}
use Rattle.irr_side.proofs.EachItems.{each_more, each_none}
use Rattle.irr_product.proofs.RowItems.{row_of_each}
use Rattle.irr_product.proofs.rows.part_row.Goals as goal

pub loop-place-init : goal.loop-place-init
loop-place-init g c = each_none _ c.new-row.result.items c.new-row.ensures.items

pub sum_at-requires-clause-rows : goal.sum_at-requires-clause-rows
sum_at-requires-clause-rows g c = (c.args.places, c.loop-place-test.true, c.requires.rows)

pub loop-place-preserved : goal.loop-place-preserved
loop-place-preserved g c = each_more (λ n (x : g.row.S.Denot). (g.S.Scalar.order_of x ≡ c.args.order.now.n)
    × ((e : ClassRows g.S.Scalar.order_of g.S.Scalar.value c.args.order.now.n c.args.places c.args.left.now c.args.right.now c.args.classes.now)
    (p : Fin c.args.places) → to_nat p ≡ n → g.S.Scalar.value c.args.order.now.n x ≡ class_sum e p)) c.loop-place.place
    c.loop-place.row.items c.push.new.self.items c.in_ok-sum.sum c.in_ok-push.ensures.items c.loop-place.invariant
    (c.in_ok-sum.ensures.order, λ e p is. c.in_ok-sum.ensures.value c.args.places e p is)

pub returns : goal.returns
returns g c = λ e.
    let done : c.loop-place.place ≡ c.args.places = search rules in
    let made = c.loop-place.invariant in
    row_of_each g.S.Scalar.order_of g.S.Scalar.value c.args.order.now.n c.args.places (class_sum e) c.loop-place.row.items
    (made.count ∙ done) (λ k x l. (made.each k x (subst (λ n. k < n) (sym done) l)).0)
    (λ k x l p is. (made.each k x (subst (λ n. k < n) (sym done) l)).1 e p is)
