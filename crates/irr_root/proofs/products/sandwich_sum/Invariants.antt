-- The values so far.
use Rattle.std.proofs.Common.{map}
use Rattle.irr_rep.specs.Twisted.{phase_table}
use Rattle.irr_root.proofs.SandwichSums.{SumSoFar, inner_terms}
use Rattle.irr_root.proofs.products.sandwich_sum.Given as goal

abbrev pub invariant-loop-k : goal.invariant-loop-k
invariant-loop-k g l =
    let n = l.order.n in
    let T = phase_table l.t in
    SumSoFar g.S.Scalar.order_of g.S.Scalar.value n T l.x.place l.x.exponent l.y.place l.y.exponent 48
    (inner_terms T n l.members l.positions (map (g.S.Scalar.value n) l.character)) l.k l.sum
