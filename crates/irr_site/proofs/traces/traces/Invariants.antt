-- The sums so far.
use Rattle.std.proofs.Common.{map}
use Rattle.irr_site.proofs.TraceLists.{SumsSoFar}
use Rattle.irr_site.proofs.traces.traces.Given as goal

abbrev pub invariant-loop-rests : goal.invariant-loop-rests
invariant-loop-rests g l = SumsSoFar g.S.Scalar.order_of g.S.Scalar.value l.order.n (λ i. map (g.S.Scalar.value l.order.n) l.row) l.rows
    l.rests-index l.numbers.items
