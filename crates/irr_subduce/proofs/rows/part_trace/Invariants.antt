-- The sum so far.
use Rattle.std.proofs.Common.{◌≡◌, ◌*◌}
use Rattle.irr_canonical.specs.RootSum.{IsRootSum}
use Rattle.irr_mat.proofs.PartialSums.{PartialSum}
use Rattle.irr_char.proofs.Traces.{extended}
use Rattle.irr_subduce.specs.PartTraces.{PartAt}
use Rattle.irr_subduce.proofs.PartSums.{term}
use Rattle.irr_subduce.proofs.rows.part_trace.Given as goal

abbrev pub invariant-loop-arm : goal.invariant-loop-arm
invariant-loop-arm g l = record {
  has_order : g.S.Scalar.order_of l.sum ≡ l.order.n;
  so_far : (e : PartAt {V = g.S.Scalar} l.order.n l.full l.arms l.op) → PartialSum g.S.Scalar.order_of g.S.Scalar.value l.order.n
      (extended l.order.n (term e)) l.arm-index l.sum;
  few : IsRootSum l.order.n (l.arm-index * 48) 1 (g.S.Scalar.value l.order.n l.sum);
}
