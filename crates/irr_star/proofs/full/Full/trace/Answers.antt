-- The traces on the arms, added up.
use Rattle.std.proofs.Common.{◌≡◌, ◌<◌, ◌+◌, ◌*◌, ◌^◌, sym, ◌∙◌, ap, subst, length, arith, rules}
use Rattle.irr_algebra.specs.Listed.{sum_below}
use Rattle.irr_number.specs.Number.{numbers}
use Rattle.irr_canonical.specs.RootSum.{IsRootSum}
use Rattle.irr_canonical.proofs.RootSums.{IsRootSum-add_same}
use Rattle.irr_seitz.specs.OperationMeaning.{operation}
use Rattle.irr_mat.proofs.PartialSums.{partial-add, partial-none, partial_sizes}
use Rattle.irr_mat.proofs.Sizes.{sum_denominators, sum_sizes}
use Rattle.irr_star.proofs.ArmTraces.{arm_trace, arm_trace-is, arm_traces, few_none, one_more, sum_room}
use Rattle.irr_star.proofs.EntryReads.{admitted}
use Rattle.irr_star.proofs.MadeBlocks.{order_limited}
use Rattle.irr_star.proofs.StarLists.{arm_index}
use Rattle.irr_star.proofs.full.Full.trace.Goals as goal

pub zero-requires : goal.zero-requires
zero-requires g c =
    let e = c.requires.induced in
    record {
      admitted = admitted c.args.self.now e.group e.star e.number e.divides e.small e.induced g.S.Scalar.admits
          g.met.S.Scalar.order_admitted;
    }

pub loop-arm-init : goal.loop-arm-init
loop-arm-init g c = record {
  has_order = c.in_ok-sum.ensures.order;
  so_far = λ group k U M v d D is A of. partial-none g.S.Scalar.order_of g.S.Scalar.value M
      (arm_trace M U.arms d (A (operation c.args.op.now)))
      c.in_ok-sum.sum (c.in_ok-sum.ensures.order ∙ is.order)
      (subst (λ n. g.S.Scalar.value n c.in_ok-sum.sum ≡ (numbers n).zero) is.order c.in_ok-sum.ensures.value);
  few = λ group k U M v d D is. few_none M (0 * d) (g.S.Scalar.value M c.in_ok-sum.sum)
      (subst (λ n. g.S.Scalar.value n c.in_ok-sum.sum ≡ (numbers n).zero) is.order c.in_ok-sum.ensures.value);
}

pub arm_part-requires-clause-arm : goal.arm_part-requires-clause-arm
arm_part-requires-clause-arm g c = subst (λ n. c.loop-arm.arm < n) c.arms-arm-end.ensures.count c.loop-arm-test.true

pub add-requires-clause-orders : goal.add-requires-clause-orders
add-requires-clause-orders g c = c.in_ok-part.ensures.order ∙ sym c.loop-arm.invariant.has_order

pub add-requires-clause-denominators : goal.add-requires-clause-denominators
add-requires-clause-denominators g c =
    let e = c.requires.induced in
    let value = g.S.Scalar.value in
    let sum = c.loop-arm.sum in
    let M = e.number in
    let arm = c.loop-arm.arm in
    sum_denominators value (g.S.Scalar.order_of sum) M (g.met.S.Scalar.admitted_positive (g.S.Scalar.order_of sum)
    (g.met.S.Scalar.order_admitted sum))
    (c.loop-arm.invariant.has_order ∙ e.induced.order) (arm * e.size) 1 e.size 1 sum c.in_ok-part.part
    (c.loop-arm.invariant.few e.group e.wave e.star M e.divides e.size e.small e.induced)
    (c.in_ok-part.ensures.size e.group e.wave e.star M e.divides e.size e.small e.induced)
    (2 ^ 60) (omega arith)

pub add-requires-clause-sizes : goal.add-requires-clause-sizes
add-requires-clause-sizes g c =
    let e = c.requires.induced in
    let value = g.S.Scalar.value in
    let sum = c.loop-arm.sum in
    let M = e.number in
    let arm = c.loop-arm.arm in
    let below = subst (λ n. arm < n) c.arms-arm-end.ensures.count c.loop-arm-test.true in
    let arms = length c.args.self.now.arms.items in
    sum_sizes value (g.S.Scalar.order_of sum) M (g.met.S.Scalar.admitted_positive (g.S.Scalar.order_of sum)
    (g.met.S.Scalar.order_admitted sum))
    (c.loop-arm.invariant.has_order ∙ e.induced.order) (arm * e.size) 1 e.size 1 sum c.in_ok-part.part
    (c.loop-arm.invariant.few e.group e.wave e.star M e.divides e.size e.small e.induced)
    (c.in_ok-part.ensures.size e.group e.wave e.star M e.divides e.size e.small e.induced)
    (2 ^ 110) (partial_sizes arm arms e.size M 1 (2 ^ 110) below
    (sum_room arms e.size M e.induced.arms.few e.induced.family.few
    (order_limited c.args.self.now e.group e.star M e.divides e.small e.induced)))

pub loop-arm-preserved : goal.loop-arm-preserved
loop-arm-preserved g c =
    let value = g.S.Scalar.value in
    let sum = c.loop-arm.sum in
    let part = c.in_ok-part.part in
    let after = c.in_ok-sum-2.sum in
    let arm = c.loop-arm.arm in
    let below = subst (λ n. arm < n) c.arms-arm-end.ensures.count c.loop-arm-test.true in
    record {
      has_order = c.in_ok-sum-2.ensures.order ∙ c.loop-arm.invariant.has_order;
      so_far = λ group k U M v d D is A of.
          let m = A (operation c.args.op.now) in
          let i = arm_index group c.args.self.now.arms.items U is.arms arm below in
          let added = subst (λ n. value n after ≡ (numbers n).add (value n sum) (value n part))
          (c.loop-arm.invariant.has_order ∙ is.order)
          c.in_ok-sum-2.ensures.value in
          partial-add g.S.Scalar.order_of value M (arm_trace M U.arms d m) arm sum after (value M part)
          (c.loop-arm.invariant.so_far group k U M v d D is A of)
          (c.in_ok-sum-2.ensures.order ∙ c.loop-arm.invariant.has_order ∙ is.order) added
          (c.in_ok-part.ensures.trace group k U M v d D is A of i.0 i.1 ∙ arm_trace-is M U.arms d m i.0 arm i.1);
      few = λ group k U M v d D is.
          let added = subst (λ n. value n after ≡ (numbers n).add (value n sum) (value n part))
          (c.loop-arm.invariant.has_order ∙ is.order)
          c.in_ok-sum-2.ensures.value in
          subst (IsRootSum M ((arm + 1) * d) 1) (sym added)
          (subst (λ n. IsRootSum M n 1 ((numbers M).add (value M sum) (value M part))) (one_more arm d)
          (IsRootSum-add_same M (c.loop-arm.invariant.few group k U M v d D is)
          (c.in_ok-part.ensures.size group k U M v d D is)));
    }

pub returns-clause-order : goal.returns-clause-order
returns-clause-order g c = c.loop-arm.invariant.has_order

pub returns-clause-trace : goal.returns-clause-trace
returns-clause-trace g c group k U M v d D is A of =
    let m = A (operation c.args.op.now) in
    let last : c.loop-arm.arm ≡ c.arms-arm-end.result = search rules in
    let all = last ∙ c.arms-arm-end.ensures.arms group k U M v d D is in
    (c.loop-arm.invariant.so_far group k U M v d D is A of).is_sum
    ∙ ap (λ n. sum_below (numbers M) n (arm_trace M U.arms d m)) all ∙ arm_traces M U.arms d m

pub returns-clause-size : goal.returns-clause-size
returns-clause-size g c group k U M v d D is =
    let last : c.loop-arm.arm ≡ c.arms-arm-end.result = search rules in
    let all = last ∙ c.arms-arm-end.ensures.arms group k U M v d D is in
    subst (λ n. IsRootSum M (n * d) 1 (g.S.Scalar.value M c.loop-arm.sum)) all
    (c.loop-arm.invariant.few group k U M v d D is)
