-- One more number, or none.
use Rattle.std.proofs.Common.{rules, ◌≡◌, ◌∙◌, sym, subst, ◌<◌, length}
use Rattle.irr_algebra.proofs.Indices.{from_nat, to_nat-from_nat, to_nat-lt}
use Rattle.irr_mat.proofs.PartialSums.{partial-none}
use Rattle.irr_char.proofs.Traces.{extended}
use Rattle.irr_power.proofs.ReturnItems.{all_terms, arm_inside, double_order, double_place, double_small, few_terms, one_more, return_term, some_arm, target_inside, target_place}
use Rattle.irr_power.proofs.returns.return_at.Goals as goal

pub loop-class-init : goal.loop-class-init
loop-class-init g c h e p is = partial-none g.S.Scalar.order_of g.S.Scalar.value c.args.order.now.n
    (extended c.args.order.now.n (return_term g.S.Scalar.order_of g.S.Scalar.value c.args.order.now.n h c.args.doubles.now c.args.targets.now
    c.args.classes.now e p)) c.in_ok-sum.sum c.in_ok-sum.ensures.order c.in_ok-sum.ensures.value

pub nonzero_div-arm : goal.nonzero_div-arm
nonzero_div-arm g c = let r = c.requires.rows in
    let some = some_arm g.S.Scalar.order_of g.S.Scalar.value c.args.order.now.n r.0 c.args.doubles.now c.args.targets.now c.args.classes.now r.2
    c.loop-class.class-index c.loop-class-test.true in
    search rules

pub nonzero_rem-other : goal.nonzero_rem-other
nonzero_rem-other g c = let r = c.requires.rows in
    let some = some_arm g.S.Scalar.order_of g.S.Scalar.value c.args.order.now.n r.0 c.args.doubles.now c.args.targets.now c.args.classes.now r.2
    c.loop-class.class-index c.loop-class-test.true in
    search rules

pub target_at-target-requires-clause-row : goal.target_at-target-requires-clause-row
target_at-target-requires-clause-row g c = let r = c.requires.rows in
    target_inside g.S.Scalar.order_of g.S.Scalar.value c.args.order.now.n r.0 c.args.doubles.now c.args.targets.now c.args.classes.now r.2
    c.loop-class.class-index c.loop-class-test.true

pub target_at-target-requires-clause-place : goal.target_at-target-requires-clause-place
target_at-target-requires-clause-place g c = let r = c.requires.rows in
    target_place g.S.Scalar.order_of g.S.Scalar.value c.args.order.now.n r.0 c.args.doubles.now c.args.targets.now c.args.classes.now r.2
    c.loop-class.class-index c.loop-class-test.true c.args.place r.1

pub double_at-double-requires-clause-row : goal.double_at-double-requires-clause-row
double_at-double-requires-clause-row g c = let r = c.requires.rows in
    arm_inside g.S.Scalar.order_of g.S.Scalar.value c.args.order.now.n r.0 c.args.doubles.now c.args.targets.now c.args.classes.now r.2
    c.loop-class.class-index c.loop-class-test.true

pub double_at-double-requires-clause-place : goal.double_at-double-requires-clause-place
double_at-double-requires-clause-place g c = let r = c.requires.rows in
    double_place g.S.Scalar.order_of g.S.Scalar.value c.args.order.now.n r.0 c.args.doubles.now c.args.targets.now c.args.classes.now r.2
    c.loop-class.class-index c.loop-class-test.true c.args.place r.1

pub more-requires-clause-same : goal.more-requires-clause-same
more-requires-clause-same g c = let r = c.requires.rows in
    double_order g.S.Scalar.order_of g.S.Scalar.value c.args.order.now.n r.0 c.args.doubles.now c.args.targets.now c.args.classes.now r.2
    c.loop-class.class-index c.loop-class-test.true c.args.place r.1 c.double_at-double.result.now c.double_at-double.ensures
    ∙ sym (c.loop-class.invariant r.0 r.2 (from_nat r.0 c.args.place r.1) (to_nat-from_nat r.0 c.args.place r.1)).has_order

pub more-requires-clause-few : goal.more-requires-clause-few
more-requires-clause-few g c = let r = c.requires.rows in
    let p = from_nat r.0 c.args.place r.1 in
    few_terms g.S.Scalar.order_of g.S.Scalar.value c.args.order.now.n r.0 c.args.doubles.now c.args.targets.now c.args.classes.now r.2
    p c.loop-class.class-index c.loop-class-test.true c.loop-class.sum (c.loop-class.invariant r.0 r.2 p (to_nat-from_nat r.0 c.args.place r.1))

pub more-requires-clause-small : goal.more-requires-clause-small
more-requires-clause-small g c = let r = c.requires.rows in
    let p = from_nat r.0 c.args.place r.1 in
    let same = to_nat-from_nat r.0 c.args.place r.1 in
    double_small g.S.Scalar.order_of g.S.Scalar.value c.args.order.now.n r.0 c.args.doubles.now c.args.targets.now c.args.classes.now r.2
    c.loop-class.class-index c.loop-class-test.true c.args.place r.1 c.double_at-double.result.now c.double_at-double.ensures
    p same (g.S.Scalar.order_of c.loop-class.sum) (c.loop-class.invariant r.0 r.2 p same).has_order

pub loop-class-preserved : goal.loop-class-preserved
loop-class-preserved g c h e p is = one_more g.S.Scalar.order_of g.S.Scalar.value c.args.order.now.n h c.args.doubles.now c.args.targets.now c.args.classes.now e
    c.loop-class.class-index c.loop-class-test.true c.args.place (subst (λ k. k < h) is (to_nat-lt p))
    c.double_at-double.result.now c.double_at-double.ensures p is c.target_at-target.result c.target_at-target.ensures
    c.loop-class.sum c.in_ok-sum-2.sum (c.loop-class.invariant h e p is) c.in_ok-sum-2.ensures.order
    c.in_ok-sum-2.ensures.there c.in_ok-sum-2.ensures.elsewhere

pub returns-clause-order : goal.returns-clause-order
returns-clause-order g c = let r = c.requires.rows in
    (c.loop-class.invariant r.0 r.2 (from_nat r.0 c.args.place r.1) (to_nat-from_nat r.0 c.args.place r.1)).has_order

pub returns-clause-value : goal.returns-clause-value
returns-clause-value g c h e p is =
    let done : c.loop-class.class-index ≡ length c.args.classes.now = search rules in
    all_terms g.S.Scalar.order_of g.S.Scalar.value c.args.order.now.n h c.args.doubles.now c.args.targets.now c.args.classes.now e p
    c.loop-class.class-index done c.loop-class.sum (c.loop-class.invariant h e p is)
