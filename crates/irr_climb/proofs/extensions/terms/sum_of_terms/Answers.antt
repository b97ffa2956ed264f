-- One term, one more, and all of them.
use Rattle.std.proofs.Common.{◌≡◌, ◌<◌, ◌≤◌, sym, ◌∙◌, ap, subst, arith, rules}
use Rattle.irr_algebra.proofs.Indices.{from_nat, to_nat-from_nat}
use Rattle.irr_rep.specs.Defects.{IsMatrix}
use Rattle.irr_rep.specs.Twisted.{place_count}
use Rattle.irr_climb.specs.Extensions.{trace_term}
use Rattle.irr_climb.proofs.ExtensionFits.{terms_fit}
use Rattle.irr_climb.proofs.ExtensionSums.{add_fits, added, first_all, first_next, first_one, first_terms}
use Rattle.irr_climb.proofs.ExtensionTerms.{members_positive}
use Rattle.irr_climb.proofs.extensions.terms.sum_of_terms.Goals as goal

pub term-requires-clause-member : goal.term-requires-clause-member
term-requires-clause-member g c = members_positive c.requires.extension.is

pub loop-m-init : goal.loop-m-init
loop-m-init g c e p a =
    let M = c.args.order.now.n in
    let h = place_count c.args.step.now.inner in
    let q = from_nat h 0 (members_positive e.is) in
    let z = to_nat-from_nat h 0 (members_positive e.is) in
    subst (λ u. IsMatrix M e.d u c.in_ok-sum.sum) (first_one M (trace_term e.is e.D e.E p) q z) (c.in_ok-sum.ensures e p q a z)

pub add-requires-clause-rows : goal.add-requires-clause-rows
add-requires-clause-rows g c =
    let e = c.requires.extension in
    let h = place_count c.args.step.now.inner in
    let l : c.loop-m.m < h = search rules in
    let p = from_nat (place_count c.args.step.now.outer) c.args.x c.requires.place in
    let a = to_nat-from_nat (place_count c.args.step.now.outer) c.args.x c.requires.place in
    (c.in_ok-next.ensures e p (from_nat h c.loop-m.m l) a (to_nat-from_nat h c.loop-m.m l)).rows ∙ sym (c.loop-m.invariant e p a).rows

pub add-requires-clause-cols : goal.add-requires-clause-cols
add-requires-clause-cols g c =
    let e = c.requires.extension in
    let h = place_count c.args.step.now.inner in
    let l : c.loop-m.m < h = search rules in
    let p = from_nat (place_count c.args.step.now.outer) c.args.x c.requires.place in
    let a = to_nat-from_nat (place_count c.args.step.now.outer) c.args.x c.requires.place in
    (c.in_ok-next.ensures e p (from_nat h c.loop-m.m l) a (to_nat-from_nat h c.loop-m.m l)).cols ∙ sym (c.loop-m.invariant e p a).cols

pub add-requires-clause-orders : goal.add-requires-clause-orders
add-requires-clause-orders g c =
    let e = c.requires.extension in
    let h = place_count c.args.step.now.inner in
    let l : c.loop-m.m < h = search rules in
    let p = from_nat (place_count c.args.step.now.outer) c.args.x c.requires.place in
    let a = to_nat-from_nat (place_count c.args.step.now.outer) c.args.x c.requires.place in
    (c.in_ok-next.ensures e p (from_nat h c.loop-m.m l) a (to_nat-from_nat h c.loop-m.m l)).order ∙ sym (c.loop-m.invariant e p a).order

pub add-requires-clause-sizes : goal.add-requires-clause-sizes
add-requires-clause-sizes g c =
    let M = c.args.order.now.n in
    let e = c.requires.extension in
    let h = place_count c.args.step.now.inner in
    let l : c.loop-m.m < h = search rules in
    let q = from_nat h c.loop-m.m l in
    let p = from_nat (place_count c.args.step.now.outer) c.args.x c.requires.place in
    let a = to_nat-from_nat (place_count c.args.step.now.outer) c.args.x c.requires.place in
    add_fits M e.d (first_terms M (trace_term e.is e.D e.E p) c.loop-m.m) (trace_term e.is e.D e.E p q) c.loop-m.sum c.in_ok-next.next
    (c.loop-m.invariant e p a) (c.in_ok-next.ensures e p q a (to_nat-from_nat h c.loop-m.m l))
    (terms_fit e c.args.order.now.limited p c.loop-m.m (let k : c.loop-m.m ≤ h = omega (arith, l) in k) q)

pub loop-m-preserved : goal.loop-m-preserved
loop-m-preserved g c e p a =
    let M = c.args.order.now.n in
    let h = place_count c.args.step.now.inner in
    let l : c.loop-m.m < h = search rules in
    let q = from_nat h c.loop-m.m l in
    let z = to_nat-from_nat h c.loop-m.m l in
    let f = trace_term e.is e.D e.E p in
    subst (λ u. IsMatrix M e.d u c.in_ok-sum-2.sum) (first_next M f c.loop-m.m q z)
    (added M e.d (first_terms M f c.loop-m.m) (f q) c.loop-m.sum c.in_ok-next.next (c.loop-m.invariant e p a) (c.in_ok-next.ensures e p q a z)
    c.in_ok-sum-2.sum c.in_ok-sum-2.ensures.rows c.in_ok-sum-2.ensures.cols c.in_ok-sum-2.ensures.order c.in_ok-sum-2.ensures.value)

pub returns : goal.returns
returns g c e p a =
    let M = c.args.order.now.n in
    let h = place_count c.args.step.now.inner in
    let f = trace_term e.is e.D e.E p in
    let done : c.loop-m.m ≡ h = search rules in
    subst (λ u. IsMatrix M e.d u c.loop-m.sum) (ap (first_terms M f) done ∙ first_all M f) (c.loop-m.invariant e p a)
