-- The first place at which two rows differ.
use Rattle.std.proofs.Common.{rules, ◌≡◌, sym, ◌∙◌, subst, inl, inr, ◌<◌, ◌≤◌, ◌^◌, length, arith}
use Rattle.irr_algebra.specs.Fin.{Fin, to_nat}
use Rattle.irr_algebra.proofs.Indices.{from_nat, to_nat-from_nat, to_nat-lt}
use Rattle.irr_canonical.specs.RootSum.{IsRootSum}
use Rattle.irr_mat.proofs.Sizes.{sum_denominators, sum_sizes}
use Rattle.irr_rep.specs.Defects.{IsFirstFailure}
use Rattle.irr_rep.proofs.WrongPairs.{is-true, not-true}
use Rattle.irr_check.proofs.RowDifferences.{before_or_at, item_order, limited_sums, row_at, row_item}
use Rattle.irr_check.proofs.fault.first_difference.Goals as goal

pub equal-requires-clause-denominators : goal.equal-requires-clause-denominators
equal-requires-clause-denominators g c =
    let order = g.S.Scalar.order_of in
    let value = g.S.Scalar.value in
    let q = c.requires in
    let n = q.0 in
    let h = q.1 in
    let x = c.index-traces-i.result in
    let y = c.index-chars-i.result in
    let i = c.loop-i.i in
    let l : i < length c.args.traces.now = search rules in
    let m : i < length c.args.chars.now = search rules in
    let same : order x ≡ n = item_order order value n c.args.traces.now i x l c.index-traces-i.is q.3.orders in
    let below : i < h = subst (λ k. i < k) q.3.count l in
    let k : Fin h = from_nat h i below in
    let e : to_nat k ≡ i = to_nat-from_nat h i below in
    sum_denominators value (order x) n (g.met.S.Scalar.admitted_positive (order x) (g.met.S.Scalar.order_admitted x)) same 48 1 (2 ^ 30) q.2 x y
    (subst (IsRootSum n 48 1) (sym (row_at order value n c.args.traces.now i x l c.index-traces-i.is k e)) (q.3.small k))
    (subst (IsRootSum n (2 ^ 30) q.2) (sym (row_at order value n c.args.chars.now i y m c.index-chars-i.is k e)) (q.4.within k))
    (2 ^ 60) (let s = q.5 in omega arith)

pub equal-requires-clause-sizes : goal.equal-requires-clause-sizes
equal-requires-clause-sizes g c =
    let order = g.S.Scalar.order_of in
    let value = g.S.Scalar.value in
    let q = c.requires in
    let n = q.0 in
    let h = q.1 in
    let x = c.index-traces-i.result in
    let y = c.index-chars-i.result in
    let i = c.loop-i.i in
    let l : i < length c.args.traces.now = search rules in
    let m : i < length c.args.chars.now = search rules in
    let same : order x ≡ n = item_order order value n c.args.traces.now i x l c.index-traces-i.is q.3.orders in
    let below : i < h = subst (λ k. i < k) q.3.count l in
    let k : Fin h = from_nat h i below in
    let e : to_nat k ≡ i = to_nat-from_nat h i below in
    let limit : n ≤ 12000 = subst (λ u. u ≤ 12000) same (g.met.S.Scalar.admitted_limited (order x) (g.met.S.Scalar.order_admitted x)) in
    sum_sizes value (order x) n (g.met.S.Scalar.admitted_positive (order x) (g.met.S.Scalar.order_admitted x)) same 48 1 (2 ^ 30) q.2 x y
    (subst (IsRootSum n 48 1) (sym (row_at order value n c.args.traces.now i x l c.index-traces-i.is k e)) (q.3.small k))
    (subst (IsRootSum n (2 ^ 30) q.2) (sym (row_at order value n c.args.chars.now i y m c.index-chars-i.is k e)) (q.4.within k))
    (2 ^ 110) (limited_sums n q.2 limit q.5)

pub returns-then-not-equal : goal.returns-then-not-equal
unfolding IsFirstFailure
returns-then-not-equal g c n h f e r s =
    let order = g.S.Scalar.order_of in
    let value = g.S.Scalar.value in
    let x = c.index-traces-i.result in
    let y = c.index-chars-i.result in
    let i = c.loop-i.i in
    let l : i < length c.args.traces.now = search rules in
    let m : i < length c.args.chars.now = search rules in
    let same : order x ≡ n = item_order order value n c.args.traces.now i x l c.index-traces-i.is r.orders in
    let below : i < h = subst (λ k. i < k) r.count l in
    let k : Fin h = from_nat h i below in
    let at : to_nat k ≡ i = to_nat-from_nat h i below in (
      k,
      at,
      λ u. not-true c.equal.result c.if-not-equal.true (c.equal.ensures.1 (subst (λ w. value w x ≡ value w y) (sym same)
          (row_item order value n c.args.traces.now i x l c.index-traces-i.is f r k at
          ∙ sym u ∙ sym (row_item order value n c.args.chars.now i y m c.index-chars-i.is e s k at)))),
      λ j b. c.loop-i.invariant n h f e r s j b,
    )

pub loop-i-preserved : goal.loop-i-preserved
loop-i-preserved g c n h f e r s k b =
    let order = g.S.Scalar.order_of in
    let value = g.S.Scalar.value in
    let x = c.index-traces-i.result in
    let y = c.index-chars-i.result in
    let i = c.loop-i.i in
    let l : i < length c.args.traces.now = search rules in
    let m : i < length c.args.chars.now = search rules in
    let same : order x ≡ n = item_order order value n c.args.traces.now i x l c.index-traces-i.is r.orders in
    elim (before_or_at (to_nat k) i b) [
      | inl less ↦ c.loop-i.invariant n h f e r s k less
      | inr at ↦ sym (row_item order value n c.args.chars.now i y m c.index-chars-i.is e s k at)
          ∙ sym (subst (λ w. value w x ≡ value w y) same (c.equal.ensures.0 (is-true c.equal.result c.if-not-equal.false)))
          ∙ row_item order value n c.args.traces.now i x l c.index-traces-i.is f r k at
    ]

pub returns : goal.returns
unfolding IsFirstFailure
returns g c n h f e r s =
    let done : c.loop-i.i ≡ length c.args.traces.now = search rules in
    λ j. c.loop-i.invariant n h f e r s j (subst (λ k. to_nat j < k) (sym (done ∙ r.count)) (to_nat-lt j))
