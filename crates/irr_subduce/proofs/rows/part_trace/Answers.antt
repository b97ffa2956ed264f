-- One more trace.
use Rattle.std.proofs.Common.{rules, ◌≡◌, ◌∙◌, sym, ap, subst, ◌<◌, ◌≤◌, ◌*◌, ◌^◌, length, get_or, arith}
use Rattle.irr_mat.proofs.PartialSums.{partial-none, partial_sizes}
use Rattle.irr_mat.proofs.Sizes.{sum_denominators, sum_sizes}
use Rattle.irr_char.proofs.Traces.{extended}
use Rattle.irr_star.proofs.ArmTraces.{few_none, sum_room}
use Rattle.irr_subduce.proofs.PartSums.{arm_inside, next_few, next_part, term, trace_few, whole_part}
use Rattle.irr_subduce.proofs.rows.part_trace.Goals as goal

pub zero-requires : goal.zero-requires
zero-requires g c = record {
  admitted = g.met.S.Lift.admits_each c.args.order.now.n c.args.order.now.positive c.args.order.now.limited;
}

pub loop-arm-init : goal.loop-arm-init
loop-arm-init g c = record {
  has_order = c.in_ok-sum.ensures.order;
  so_far = λ e. partial-none g.S.Scalar.order_of g.S.Scalar.value c.args.order.now.n (extended c.args.order.now.n (term e))
      c.in_ok-sum.sum c.in_ok-sum.ensures.order c.in_ok-sum.ensures.value;
  few = few_none c.args.order.now.n (0 * 48) (g.S.Scalar.value c.args.order.now.n c.in_ok-sum.sum) c.in_ok-sum.ensures.value;
}

pub arm_trace-requires-clause-member : goal.arm_trace-requires-clause-member
arm_trace-requires-clause-member g c = c.requires.part.has

pub arm_trace-requires-clause-arm : goal.arm_trace-requires-clause-arm
arm_trace-requires-clause-arm g c = arm_inside c.requires.part c.loop-arm.arm-index c.loop-arm-test.true

pub add-requires-clause-orders : goal.add-requires-clause-orders
add-requires-clause-orders g c = c.in_ok-trace.ensures.order ∙ sym c.loop-arm.invariant.has_order

pub add-requires-clause-denominators : goal.add-requires-clause-denominators
add-requires-clause-denominators g c =
    let value = g.S.Scalar.value in
    let sum = c.loop-arm.sum in
    let k = c.loop-arm.arm-index in
    sum_denominators value (g.S.Scalar.order_of sum) c.args.order.now.n
    (g.met.S.Scalar.admitted_positive (g.S.Scalar.order_of sum) (g.met.S.Scalar.order_admitted sum))
    c.loop-arm.invariant.has_order (k * 48) 1 48 1 sum c.in_ok-trace.trace c.loop-arm.invariant.few
    (trace_few c.requires.part k c.loop-arm-test.true c.in_ok-trace.trace c.in_ok-trace.ensures) (2 ^ 60) (omega arith)

pub add-requires-clause-sizes : goal.add-requires-clause-sizes
add-requires-clause-sizes g c =
    let value = g.S.Scalar.value in
    let sum = c.loop-arm.sum in
    let k = c.loop-arm.arm-index in
    let n = c.args.order.now.n in
    sum_sizes value (g.S.Scalar.order_of sum) n
    (g.met.S.Scalar.admitted_positive (g.S.Scalar.order_of sum) (g.met.S.Scalar.order_admitted sum))
    c.loop-arm.invariant.has_order (k * 48) 1 48 1 sum c.in_ok-trace.trace c.loop-arm.invariant.few
    (trace_few c.requires.part k c.loop-arm-test.true c.in_ok-trace.trace c.in_ok-trace.ensures) (2 ^ 110)
    (partial_sizes k (length c.args.arms.now) 48 n 1 (2 ^ 110) c.loop-arm-test.true
    (sum_room (length c.args.arms.now) 48 n c.requires.part.few (omega arith) c.args.order.now.limited))

pub loop-arm-preserved : goal.loop-arm-preserved
loop-arm-preserved g c =
    let k = c.loop-arm.arm-index in
    let trace = c.in_ok-trace.trace in
    let t = c.in_ok-trace.ensures in
    let made = c.loop-arm.invariant in
    let below = c.loop-arm-test.true in
    record {
      has_order = c.in_ok-sum-2.ensures.order ∙ made.has_order;
      so_far = λ e. next_part e k below trace t c.loop-arm.sum c.in_ok-sum-2.sum made.has_order c.in_ok-sum-2.ensures.order
          c.in_ok-sum-2.ensures.value (made.so_far e);
      few = next_few c.requires.part k below trace t c.loop-arm.sum c.in_ok-sum-2.sum made.has_order c.in_ok-sum-2.ensures.order
          c.in_ok-sum-2.ensures.value made.few;
    }

pub returns : goal.returns
returns g c =
    let done : c.loop-arm.arm-index ≡ length c.args.arms.now = search rules in record {
      order = c.loop-arm.invariant.has_order;
      value = λ e. whole_part e c.loop-arm.arm-index done c.loop-arm.sum (c.loop-arm.invariant.so_far e);
    }
