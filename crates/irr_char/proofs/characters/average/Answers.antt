-- The scalar product, and the dimension that it counts.
use Rattle.std.proofs.Common.{rules, ◌≡◌, sym, ◌∙◌, subst, ◌*◌, ◌<◌, ◌≤◌, ◌^◌, IsTrue, map, arith}
use native.Mathlib.Nat as Nat
use Rattle.irr_algebra.specs.Action.{HasDimension}
use Rattle.irr_number.specs.Number.{numbers}
use Rattle.irr_canonical.specs.Coefficient.{denominator, size}
use Rattle.irr_canonical.specs.RootSum.{IsRootSum}
use Rattle.irr_mat.proofs.PartialSums.{partial-add, partial-none, partial-skip, partial-within}
use Rattle.irr_mat.proofs.Sizes.{sum_denominators, sum_sizes}
use Rattle.irr_rep.specs.Twisted.{place_count, phase_table}
use Rattle.irr_char.specs.Rows.{row_of}
use Rattle.irr_char.specs.Characters.{average_term}
use Rattle.irr_char.proofs.Traces.{extended}
use Rattle.irr_char.proofs.ScalarProducts.{dimension_at, divides_at, few_terms, left_at, mean-value, mean_denominator, mean_size, next-value, own_order, right_at, sum-whole, sum-within, terms_at, whole_small}
use Rattle.irr_char.proofs.characters.average.Goals as goal

pub loop-i-init : goal.loop-i-init
loop-i-init g c =
    let value = g.S.Scalar.value in
    let n = c.in_ok-order.order.n in
    partial-none g.S.Scalar.order_of value n
    (extended n (average_term (phase_table c.args.t.now) n (row_of n (map (value n) c.args.a.now)) (row_of n (map (value n) c.args.b.now))))
    c.in_ok-sum.sum c.in_ok-sum.ensures.order c.in_ok-sum.ensures.value

pub term-requires-clause-divides : goal.term-requires-clause-divides
term-requires-clause-divides g c =
    let n = c.in_ok-order.order.n in
    let T = phase_table c.args.t.now in
    let p = c.requires in
    divides_at g.S.Scalar.order_of g.S.Scalar.value T c.args.a.now c.args.b.now p n
    (own_order g.S.Scalar.order_of g.S.Scalar.value T c.args.a.now c.args.b.now p c.index-a-0.result n c.order.result c.index-a-0.is c.order.ensures
    c.in_ok-order.ensures) c.in_ok-order.order.positive

pub term-requires-clause-left : goal.term-requires-clause-left
term-requires-clause-left g c =
    let n = c.in_ok-order.order.n in
    let T = phase_table c.args.t.now in
    let p = c.requires in
    left_at g.S.Scalar.order_of g.S.Scalar.value T c.args.a.now c.args.b.now p n
    (own_order g.S.Scalar.order_of g.S.Scalar.value T c.args.a.now c.args.b.now p c.index-a-0.result n c.order.result c.index-a-0.is c.order.ensures
    c.in_ok-order.ensures) c.in_ok-order.order.positive

pub term-requires-clause-right : goal.term-requires-clause-right
term-requires-clause-right g c =
    let n = c.in_ok-order.order.n in
    let T = phase_table c.args.t.now in
    let p = c.requires in
    right_at g.S.Scalar.order_of g.S.Scalar.value T c.args.a.now c.args.b.now p n
    (own_order g.S.Scalar.order_of g.S.Scalar.value T c.args.a.now c.args.b.now p c.index-a-0.result n c.order.result c.index-a-0.is c.order.ensures
    c.in_ok-order.ensures) c.in_ok-order.order.positive

pub add-requires-clause-denominators : goal.add-requires-clause-denominators
add-requires-clause-denominators g c =
    let order = g.S.Scalar.order_of in
    let value = g.S.Scalar.value in
    let n = c.in_ok-order.order.n in
    let T = phase_table c.args.t.now in
    let e = own_order order value T c.args.a.now c.args.b.now c.requires c.index-a-0.result n c.order.result c.index-a-0.is c.order.ensures
    c.in_ok-order.ensures in
    let t = average_term T n (row_of n (map (value n) c.args.a.now)) (row_of n (map (value n) c.args.b.now)) in
    let k = c.loop-i.i in
    let l : k < place_count c.args.t.now = search rules in
    let terms = terms_at order value T c.args.a.now c.args.b.now c.requires n e c.in_ok-order.order.positive in
    sum_denominators value (order c.loop-i.sum) n (g.met.S.Scalar.admitted_positive (order c.loop-i.sum)
    (g.met.S.Scalar.order_admitted c.loop-i.sum)) c.loop-i.invariant.has_order
    (k * 110592) 1 110592 1 c.loop-i.sum c.in_ok-next.next
    (partial-within order value n (extended n t) k 110592 1 c.loop-i.sum c.loop-i.invariant (omega arith) (λ i q. terms i (Nat.lt_trans q l)))
    (subst (IsRootSum n 110592 1) (sym (next-value n t k l (value n c.in_ok-next.next) c.in_ok-next.ensures.value)) (terms k l))
    (2 ^ 60) (omega arith)

pub add-requires-clause-sizes : goal.add-requires-clause-sizes
add-requires-clause-sizes g c =
    let order = g.S.Scalar.order_of in
    let value = g.S.Scalar.value in
    let n = c.in_ok-order.order.n in
    let T = phase_table c.args.t.now in
    let e = own_order order value T c.args.a.now c.args.b.now c.requires c.index-a-0.result n c.order.result c.index-a-0.is c.order.ensures
    c.in_ok-order.ensures in
    let t = average_term T n (row_of n (map (value n) c.args.a.now)) (row_of n (map (value n) c.args.b.now)) in
    let k = c.loop-i.i in
    let l : k < place_count c.args.t.now = search rules in
    let terms = terms_at order value T c.args.a.now c.args.b.now c.requires n e c.in_ok-order.order.positive in
    sum_sizes value (order c.loop-i.sum) n (g.met.S.Scalar.admitted_positive (order c.loop-i.sum)
    (g.met.S.Scalar.order_admitted c.loop-i.sum)) c.loop-i.invariant.has_order
    (k * 110592) 1 110592 1 c.loop-i.sum c.in_ok-next.next
    (partial-within order value n (extended n t) k 110592 1 c.loop-i.sum c.loop-i.invariant (omega arith) (λ i q. terms i (Nat.lt_trans q l)))
    (subst (IsRootSum n 110592 1) (sym (next-value n t k l (value n c.in_ok-next.next) c.in_ok-next.ensures.value)) (terms k l))
    (2 ^ 110) (few_terms n (place_count c.args.t.now) k c.in_ok-order.order.limited c.args.t.now.places_within l)

pub loop-i-preserved : goal.loop-i-preserved
loop-i-preserved g c =
    let value = g.S.Scalar.value in
    let n = c.in_ok-order.order.n in
    let t = average_term (phase_table c.args.t.now) n (row_of n (map (value n) c.args.a.now)) (row_of n (map (value n) c.args.b.now)) in
    let k = c.loop-i.i in
    let l : k < place_count c.args.t.now = search rules in
    partial-add g.S.Scalar.order_of value n (extended n t) k c.loop-i.sum c.in_ok-sum-2.sum (value n c.in_ok-next.next) c.loop-i.invariant
    (c.in_ok-sum-2.ensures.order ∙ c.loop-i.invariant.has_order)
    (subst (λ u. value u c.in_ok-sum-2.sum ≡ (numbers u).add (value u c.loop-i.sum)
    (value u c.in_ok-next.next)) c.loop-i.invariant.has_order c.in_ok-sum-2.ensures.value)
    (next-value n t k l (value n c.in_ok-next.next) c.in_ok-next.ensures.value)

pub vanishes-requires-clause-rows : goal.vanishes-requires-clause-rows
vanishes-requires-clause-rows g c =
    let order = g.S.Scalar.order_of in
    let value = g.S.Scalar.value in
    let n = c.in_ok-order.order.n in
    let T = phase_table c.args.t.now in
    let p = c.requires in
    let e = own_order order value T c.args.a.now c.args.b.now p c.index-a-0.result n c.order.result c.index-a-0.is c.order.ensures c.in_ok-order.ensures in (
      n,
      left_at order value T c.args.a.now c.args.b.now p n e c.in_ok-order.order.positive,
      right_at order value T c.args.a.now c.args.b.now p n e c.in_ok-order.order.positive,
    )

pub loop-i-preserved-then-vanishes : goal.loop-i-preserved-then-vanishes
loop-i-preserved-then-vanishes g c =
    let order = g.S.Scalar.order_of in
    let value = g.S.Scalar.value in
    let n = c.in_ok-order.order.n in
    let T = phase_table c.args.t.now in
    let p = c.requires in
    let e = own_order order value T c.args.a.now c.args.b.now p c.index-a-0.result n c.order.result c.index-a-0.is c.order.ensures c.in_ok-order.ensures in
    let t = average_term T n (row_of n (map (value n) c.args.a.now)) (row_of n (map (value n) c.args.b.now)) in
    let k = c.loop-i.i in
    let l : k < place_count c.args.t.now = search rules in
    let zero = c.vanishes.ensures n (left_at order value T c.args.a.now c.args.b.now p n e c.in_ok-order.order.positive)
    (right_at order value T c.args.a.now c.args.b.now p n e c.in_ok-order.order.positive) (let b : IsTrue c.vanishes.result = search rules in b) in
    partial-skip order value n (extended n t) k c.loop-i.sum c.loop-i.invariant (sym (next-value n t k l (numbers n).zero (λ i q. sym (zero i q))))

pub scale-requires-clause-denominators : goal.scale-requires-clause-denominators
scale-requires-clause-denominators g c =
    let order = g.S.Scalar.order_of in
    let value = g.S.Scalar.value in
    let n = c.in_ok-order.order.n in
    let h = place_count c.args.t.now in
    let T = phase_table c.args.t.now in
    let e = own_order order value T c.args.a.now c.args.b.now c.requires c.index-a-0.result n c.order.result c.index-a-0.is c.order.ensures
    c.in_ok-order.ensures in
    let done : c.loop-i.i ≡ h = search rules in
    let within = sum-within order value T c.args.a.now c.args.b.now c.requires n e c.in_ok-order.order.positive c.loop-i.i c.loop-i.sum done
    c.loop-i.invariant in
    subst (λ k. denominator (order c.loop-i.sum) (value (order c.loop-i.sum) c.loop-i.sum) * k ≤ 2 ^ 60) (sym c.len.ensures.count)
    (subst (λ u. denominator u (value u c.loop-i.sum) * h ≤ 2 ^ 60) (sym c.loop-i.invariant.has_order)
    (mean_denominator n h (value n c.loop-i.sum) c.in_ok-order.order.positive c.in_ok-order.order.limited c.args.t.now.places_within within))

pub scale-requires-clause-sizes : goal.scale-requires-clause-sizes
scale-requires-clause-sizes g c =
    let order = g.S.Scalar.order_of in
    let value = g.S.Scalar.value in
    let n = c.in_ok-order.order.n in
    let h = place_count c.args.t.now in
    let T = phase_table c.args.t.now in
    let e = own_order order value T c.args.a.now c.args.b.now c.requires c.index-a-0.result n c.order.result c.index-a-0.is c.order.ensures
    c.in_ok-order.ensures in
    let done : c.loop-i.i ≡ h = search rules in
    let within = sum-within order value T c.args.a.now c.args.b.now c.requires n e c.in_ok-order.order.positive c.loop-i.i c.loop-i.sum done
    c.loop-i.invariant in
    subst (λ u. size u (value u c.loop-i.sum) * 1 ≤ 2 ^ 100) (sym c.loop-i.invariant.has_order)
    (mean_size n h (value n c.loop-i.sum) c.in_ok-order.order.positive c.in_ok-order.order.limited c.args.t.now.places_within within)

pub whole_number-requires : goal.whole_number-requires
whole_number-requires g c =
    let order = g.S.Scalar.order_of in
    let value = g.S.Scalar.value in
    let n = c.in_ok-order.order.n in
    let h = place_count c.args.t.now in
    let T = phase_table c.args.t.now in
    let p = c.requires in
    let e = own_order order value T c.args.a.now c.args.b.now p c.index-a-0.result n c.order.result c.index-a-0.is c.order.ensures
    c.in_ok-order.ensures in
    let done : c.loop-i.i ≡ h = search rules in
    let m = (dimension_at order value T c.args.a.now c.args.b.now p n e c.in_ok-order.order.positive).0 in
    let within = sum-within order value T c.args.a.now c.args.b.now p n e c.in_ok-order.order.positive c.loop-i.i c.loop-i.sum done
    c.loop-i.invariant in
    let is = sum-whole order value T c.args.a.now c.args.b.now p n e c.in_ok-order.order.positive c.loop-i.i c.loop-i.sum done c.loop-i.invariant in
    record {
      whole = (
        m,
        whole_small n h (value n c.loop-i.sum) c.in_ok-order.order.positive c.in_ok-order.order.limited c.args.t.now.places_within within m
            c.args.t.now.not_empty is,
        mean-value order value n h c.len.result m c.loop-i.sum c.in_ok-mean.mean c.in_ok-order.order.positive c.args.t.now.not_empty c.len.ensures.count
            c.loop-i.invariant.has_order c.in_ok-mean.ensures.order c.in_ok-mean.ensures.value is,
      );
    }

pub returns : goal.returns
returns g c p =
    let order = g.S.Scalar.order_of in
    let value = g.S.Scalar.value in
    let n = c.in_ok-order.order.n in
    let h = place_count c.args.t.now in
    let T = phase_table c.args.t.now in
    let e = own_order order value T c.args.a.now c.args.b.now p c.index-a-0.result n c.order.result c.index-a-0.is c.order.ensures
    c.in_ok-order.ensures in
    let done : c.loop-i.i ≡ h = search rules in
    let d = dimension_at order value T c.args.a.now c.args.b.now p n e c.in_ok-order.order.positive in
    let is = sum-whole order value T c.args.a.now c.args.b.now p n e c.in_ok-order.order.positive c.loop-i.i c.loop-i.sum done c.loop-i.invariant in
    subst (HasDimension p.left.at p.right.at) (sym (c.in_ok-dimension.ensures d.0
    (mean-value order value n h c.len.result d.0 c.loop-i.sum c.in_ok-mean.mean c.in_ok-order.order.positive c.args.t.now.not_empty c.len.ensures.count
    c.loop-i.invariant.has_order c.in_ok-mean.ensures.order c.in_ok-mean.ensures.value is))) d.1
