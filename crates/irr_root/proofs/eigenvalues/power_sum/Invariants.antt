-- The sum so far.
use Rattle.std.proofs.Common.{map}
use Rattle.irr_mat.proofs.PartialSums.{PartialSum}
use Rattle.irr_rep.specs.Twisted.{phase_table}
use Rattle.irr_root.specs.Powers.{power_trace}
use Rattle.irr_root.proofs.eigenvalues.power_sum.Given as goal

abbrev pub invariant-loop-j : goal.invariant-loop-j
invariant-loop-j g l =
    let n = l.order.n in
    PartialSum g.S.Scalar.order_of g.S.Scalar.value n
    (power_trace n (phase_table l.t).order (map (g.S.Scalar.value n) l.character) l.powers.places.items l.powers.exponents.items l.e) l.j l.sum
