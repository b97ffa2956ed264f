-- Operation by operation.
use Rattle.std.proofs.Common.{rules, refl, ◌≡◌, sym, ◌∙◌, ap, subst, ◌<◌, length, get_or, slice_index, map}
use Rattle.std.proofs.lemmas.List.{get_or_default}
use Rattle.irr_algebra.specs.Matrix.{trace}
use Rattle.irr_number.specs.Number.{numbers}
use Rattle.irr_rational.specs.Integer.{whole_matrix}
use Rattle.irr_seitz.specs.OperationMeaning.{operation}
use Rattle.irr_seitz.specs.declared.op.Op.{Op}
use Rattle.irr_seitz.specs.Rotation.{IsWithin}
use Rattle.irr_rep.specs.Twisted.{operation_places, place_count}
use Rattle.irr_site.specs.Products.{rotation_at}
use Rattle.irr_site.specs.Traces.{AreRestsWithin, IsSumOf, number_at}
use Rattle.irr_site.proofs.OperationLists.{read_at}
use Rattle.irr_site.proofs.SameSums.{same_sum}
use Rattle.irr_site.proofs.TraceLists.{SumsSoFar, sums_all, sums_more, sums_none}
use Rattle.irr_site.proofs.traces.displacement_traces.Goals as goal

pub loop-i-init : goal.loop-i-init
loop-i-init g c row are =
    let n = c.args.order.now.n in
    subst (SumsSoFar g.S.Scalar.order_of g.S.Scalar.value n row c.args.rows.now 0) (sym c.new-numbers.ensures.items)
    (sums_none g.S.Scalar.order_of g.S.Scalar.value n row c.args.rows.now)

pub loop-i-preserved : goal.loop-i-preserved
loop-i-preserved g c row are =
    let n = c.args.order.now.n in
    let value = g.S.Scalar.value in
    let group = c.args.group.now in
    let i = c.loop-i.i in
    let count = c.len-i-end.ensures.count in
    let inside = subst (λ m. i < m) count c.loop-i-test.true in
    let p = c.place.result in
    let here = c.as_slice-in-loop-i.result.now in
    let below = subst (λ m. m < length group.ops.items) (sym c.place.ensures)
    (c.requires.places i 0 (subst (λ m. i < m) c.args.t.now.places.ok.0 inside)) in
    sums_more g.S.Scalar.order_of value n row c.args.rows.now i c.loop-i.numbers.items c.push.new.self.items
    c.in_ok-number.number c.in_ok-push.ensures.items c.in_ok-number.ensures.order
    (λ v.
    let listed : c.as_slice.result.now ≡ (get_or c.args.rows.now i v).items = c.as_slice.ensures.value
    ∙ ap (λ w. w.items) (c.index-rows-i.is ∙ get_or_default c.args.rows.now i c.index-rows-i.result v (subst (λ m. i < m) (sym c.requires.rows) inside)) in
    subst (λ rs. IsSumOf n (row i) rs (value n c.in_ok-number.number)) listed
    (same_sum n (map (value n) here) (row i) c.args.places
    (λ q l. ap (λ xs. number_at n (map (value n) xs) q) c.as_slice-in-loop-i.ensures.value ∙ c.in_ok-row.ensures.value q l
    ∙ ap (λ (o : Op). trace (whole_matrix (numbers n) (operation o).rotation))
    (read_at c.ops-ops.result.now group.ops.items c.ops-ops.ensures.list p c.index-ops-place.result c.index-ops-place.result below c.index-ops-place.is)
    ∙ ap (λ m. trace (whole_matrix (numbers n) (rotation_at group m c.index-ops-place.result))) c.place.ensures
    ∙ sym (are i q c.index-ops-place.result inside l))
    c.as_slice.result.now
    (subst (λ rs. AreRestsWithin n c.args.places rs) (sym listed) (c.requires.fit i v (subst (λ m. i < m) (sym c.requires.rows) inside)).1)
    (value n c.in_ok-number.number) c.in_ok-number.ensures.sum))
    (c.loop-i.invariant row are)

pub returns : goal.returns
returns g c row are =
    let n = c.args.order.now.n in
    let done : c.loop-i.i ≡ place_count c.args.t.now = search rules in
    sums_all g.S.Scalar.order_of g.S.Scalar.value n row c.args.rows.now
    c.loop-i.i (done ∙ sym c.requires.rows) c.loop-i.numbers.items (c.loop-i.invariant row are)
