-- One more product.
use Rattle.std.proofs.Common.{rules, ◌≡◌, ◌∙◌, sym, subst, refl, ◌<◌, length, get_or}
use Rattle.irr_algebra.proofs.Indices.{from_nat, to_nat-from_nat, to_nat-lt}
use Rattle.irr_mat.proofs.PartialSums.{partial-none}
use Rattle.irr_char.proofs.Traces.{extended}
use Rattle.irr_product.proofs.RowItems.{all_terms, few_terms, first_few, first_inside, first_order, listed_class, next_sum, place_inside_left, place_inside_right, second_few, second_inside, second_order, some_right, term_of}
use Rattle.irr_product.proofs.rows.sum_at.Goals as goal

pub loop-class-init : goal.loop-class-init
loop-class-init g c = λ h e p is. partial-none g.S.Scalar.order_of g.S.Scalar.value c.args.order.now.n
    (extended c.args.order.now.n (term_of g.S.Scalar.order_of g.S.Scalar.value c.args.order.now.n h c.args.left.now c.args.right.now c.args.classes.now e p))
    c.in_ok-sum.sum c.in_ok-sum.ensures.order c.in_ok-sum.ensures.value

pub nonzero_div-class : goal.nonzero_div-class
nonzero_div-class g c =
    let r = c.requires.rows in
    let k = c.loop-class.class-index in
    let cs = c.args.classes.now in
    let l = c.loop-class-test.true in
    some_right g.S.Scalar.order_of g.S.Scalar.value c.args.order.now.n r.0 c.args.left.now c.args.right.now cs r.2
    k l (get_or cs k 0) (listed_class cs k l) (length c.args.right.now) refl

pub number_at-x-requires-clause-row : goal.number_at-x-requires-clause-row
number_at-x-requires-clause-row g c =
    let r = c.requires.rows in
    let k = c.loop-class.class-index in
    let cs = c.args.classes.now in
    let l = c.loop-class-test.true in
    first_inside g.S.Scalar.order_of g.S.Scalar.value c.args.order.now.n r.0 c.args.left.now c.args.right.now cs r.2
    k l (get_or cs k 0) (listed_class cs k l) (length c.args.right.now) refl

pub number_at-x-requires-clause-place : goal.number_at-x-requires-clause-place
number_at-x-requires-clause-place g c =
    let r = c.requires.rows in
    let k = c.loop-class.class-index in
    let cs = c.args.classes.now in
    let l = c.loop-class-test.true in
    place_inside_left g.S.Scalar.order_of g.S.Scalar.value c.args.order.now.n r.0 c.args.left.now c.args.right.now cs r.2
    k l (get_or cs k 0) (listed_class cs k l) c.args.place r.1

pub nonzero_rem-class : goal.nonzero_rem-class
nonzero_rem-class g c =
    let r = c.requires.rows in
    let k = c.loop-class.class-index in
    let cs = c.args.classes.now in
    let l = c.loop-class-test.true in
    some_right g.S.Scalar.order_of g.S.Scalar.value c.args.order.now.n r.0 c.args.left.now c.args.right.now cs r.2
    k l (get_or cs k 0) (listed_class cs k l) (length c.args.right.now) refl

pub number_at-y-requires-clause-row : goal.number_at-y-requires-clause-row
number_at-y-requires-clause-row g c =
    let r = c.requires.rows in
    let k = c.loop-class.class-index in
    let cs = c.args.classes.now in
    let l = c.loop-class-test.true in
    second_inside g.S.Scalar.order_of g.S.Scalar.value c.args.order.now.n r.0 c.args.left.now c.args.right.now cs r.2
    k l (get_or cs k 0) (listed_class cs k l) (length c.args.right.now) refl

pub number_at-y-requires-clause-place : goal.number_at-y-requires-clause-place
number_at-y-requires-clause-place g c =
    let r = c.requires.rows in
    let k = c.loop-class.class-index in
    let cs = c.args.classes.now in
    let l = c.loop-class-test.true in
    place_inside_right g.S.Scalar.order_of g.S.Scalar.value c.args.order.now.n r.0 c.args.left.now c.args.right.now cs r.2
    k l (get_or cs k 0) (listed_class cs k l) c.args.place r.1

pub more-requires-clause-first : goal.more-requires-clause-first
more-requires-clause-first g c =
    let r = c.requires.rows in
    let k = c.loop-class.class-index in
    let cs = c.args.classes.now in
    let l = c.loop-class-test.true in
    let p = from_nat r.0 c.args.place r.1 in
    let same = to_nat-from_nat r.0 c.args.place r.1 in
    let so = c.loop-class.invariant r.0 r.2 p same in
    first_order g.S.Scalar.order_of g.S.Scalar.value c.args.order.now.n r.0 c.args.left.now c.args.right.now cs r.2
    k l (get_or cs k 0) (listed_class cs k l) c.args.place r.1 c.number_at-x.result.now c.number_at-y.result.now
    c.number_at-x.ensures c.number_at-y.ensures ∙ sym so.has_order

pub more-requires-clause-second : goal.more-requires-clause-second
more-requires-clause-second g c =
    let r = c.requires.rows in
    let k = c.loop-class.class-index in
    let cs = c.args.classes.now in
    let l = c.loop-class-test.true in
    let p = from_nat r.0 c.args.place r.1 in
    let same = to_nat-from_nat r.0 c.args.place r.1 in
    let so = c.loop-class.invariant r.0 r.2 p same in
    second_order g.S.Scalar.order_of g.S.Scalar.value c.args.order.now.n r.0 c.args.left.now c.args.right.now cs r.2
    k l (get_or cs k 0) (listed_class cs k l) c.args.place r.1 c.number_at-x.result.now c.number_at-y.result.now
    c.number_at-x.ensures c.number_at-y.ensures ∙ sym so.has_order

pub more-requires-clause-few : goal.more-requires-clause-few
more-requires-clause-few g c =
    let r = c.requires.rows in
    let k = c.loop-class.class-index in
    let cs = c.args.classes.now in
    let l = c.loop-class-test.true in
    let p = from_nat r.0 c.args.place r.1 in
    let same = to_nat-from_nat r.0 c.args.place r.1 in
    let so = c.loop-class.invariant r.0 r.2 p same in
    few_terms g.S.Scalar.order_of g.S.Scalar.value c.args.order.now.n r.0 c.args.left.now c.args.right.now cs r.2 p
    k l c.loop-class.sum so

pub more-requires-clause-first_few : goal.more-requires-clause-first_few
more-requires-clause-first_few g c =
    let r = c.requires.rows in
    let k = c.loop-class.class-index in
    let cs = c.args.classes.now in
    let l = c.loop-class-test.true in
    let p = from_nat r.0 c.args.place r.1 in
    let same = to_nat-from_nat r.0 c.args.place r.1 in
    let so = c.loop-class.invariant r.0 r.2 p same in
    first_few g.S.Scalar.order_of g.S.Scalar.value c.args.order.now.n r.0 c.args.left.now c.args.right.now cs r.2
    k l (get_or cs k 0) (listed_class cs k l) c.args.place r.1 c.number_at-x.result.now c.number_at-y.result.now
    c.number_at-x.ensures c.number_at-y.ensures p same (g.S.Scalar.order_of c.loop-class.sum) so.has_order

pub more-requires-clause-second_few : goal.more-requires-clause-second_few
more-requires-clause-second_few g c =
    let r = c.requires.rows in
    let k = c.loop-class.class-index in
    let cs = c.args.classes.now in
    let l = c.loop-class-test.true in
    let p = from_nat r.0 c.args.place r.1 in
    let same = to_nat-from_nat r.0 c.args.place r.1 in
    let so = c.loop-class.invariant r.0 r.2 p same in
    second_few g.S.Scalar.order_of g.S.Scalar.value c.args.order.now.n r.0 c.args.left.now c.args.right.now cs r.2
    k l (get_or cs k 0) (listed_class cs k l) c.args.place r.1 c.number_at-x.result.now c.number_at-y.result.now
    c.number_at-x.ensures c.number_at-y.ensures p same (g.S.Scalar.order_of c.loop-class.sum) so.has_order

pub loop-class-preserved : goal.loop-class-preserved
loop-class-preserved g c = λ h e p same.
    let k = c.loop-class.class-index in
    let cs = c.args.classes.now in
    let l = c.loop-class-test.true in
    next_sum g.S.Scalar.order_of g.S.Scalar.value c.args.order.now.n h c.args.left.now c.args.right.now cs e
    k l (get_or cs k 0) (listed_class cs k l) c.args.place (subst (λ m. m < h) same (to_nat-lt p)) c.number_at-x.result.now c.number_at-y.result.now
    c.number_at-x.ensures c.number_at-y.ensures p same
    c.loop-class.sum c.in_ok-sum-2.sum (c.loop-class.invariant h e p same) c.in_ok-sum-2.ensures.order c.in_ok-sum-2.ensures.value

pub returns-clause-order : goal.returns-clause-order
returns-clause-order g c =
    let r = c.requires.rows in
    (c.loop-class.invariant r.0 r.2 (from_nat r.0 c.args.place r.1) (to_nat-from_nat r.0 c.args.place r.1)).has_order

pub returns-clause-value : goal.returns-clause-value
returns-clause-value g c = λ h e p is.
    let done : c.loop-class.class-index ≡ length c.args.classes.now = search rules in
    all_terms g.S.Scalar.order_of g.S.Scalar.value c.args.order.now.n h c.args.left.now c.args.right.now c.args.classes.now e p
    c.loop-class.class-index done c.loop-class.sum (c.loop-class.invariant h e p is)
