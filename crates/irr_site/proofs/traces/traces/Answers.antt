-- Row by row.
use Rattle.std.proofs.Common.{rules, refl, ◌≡◌, sym, ◌∙◌, ap, subst, ◌<◌, length, get_or, map}
use Rattle.std.proofs.lemmas.List.{get_or_default}
use Rattle.irr_site.specs.Traces.{IsSumOf}
use Rattle.irr_site.proofs.TraceLists.{SumsSoFar, sums_all, sums_more, sums_none}
use Rattle.irr_site.proofs.traces.traces.Goals as goal

pub loop-rests-init : goal.loop-rests-init
loop-rests-init g c =
    let n = c.args.order.now.n in
    let xs = map (g.S.Scalar.value n) c.args.row.now in
    subst (SumsSoFar g.S.Scalar.order_of g.S.Scalar.value n (λ i. xs) c.args.rows.now 0) (sym c.new-numbers.ensures.items)
    (sums_none g.S.Scalar.order_of g.S.Scalar.value n (λ i. xs) c.args.rows.now)

pub loop-rests-preserved : goal.loop-rests-preserved
loop-rests-preserved g c =
    let n = c.args.order.now.n in
    let value = g.S.Scalar.value in
    let row = map (value n) c.args.row.now in
    let k = c.loop-rests.rests-index in
    sums_more g.S.Scalar.order_of value n (λ i. row) c.args.rows.now k c.loop-rests.numbers.items c.push.new.self.items
    c.in_ok-number.number c.in_ok-push.ensures.items c.in_ok-number.ensures.order
    (λ v. subst (λ xs. IsSumOf n row xs (value n c.in_ok-number.number))
    (c.as_slice.ensures.value ∙ ap (λ w. w.items) (c.rests-item.is ∙ get_or_default c.args.rows.now k c.rests-item.result v c.loop-rests-test.true))
    c.in_ok-number.ensures.sum) c.loop-rests.invariant

pub returns : goal.returns
returns g c =
    let n = c.args.order.now.n in
    let done : c.loop-rests.rests-index ≡ length c.args.rows.now = search rules in
    sums_all g.S.Scalar.order_of g.S.Scalar.value n (λ i. map (g.S.Scalar.value n) c.args.row.now) c.args.rows.now
    c.loop-rests.rests-index done c.loop-rests.numbers.items c.loop-rests.invariant
