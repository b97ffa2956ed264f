-- The sum so far.
use Rattle.std.proofs.Common.{map}
use Rattle.irr_mat.proofs.PartialSums.{PartialSum}
use Rattle.irr_rep.specs.Twisted.{phase_table}
use Rattle.irr_char.specs.Rows.{row_of}
use Rattle.irr_char.specs.Characters.{average_term}
use Rattle.irr_char.proofs.Traces.{extended}
use Rattle.irr_char.proofs.characters.average.Given as goal

abbrev pub invariant-loop-i : goal.invariant-loop-i
invariant-loop-i g l =
    let n = l.order.n in
    PartialSum g.S.Scalar.order_of g.S.Scalar.value n
    (extended n (average_term (phase_table l.t) n (row_of n (map (g.S.Scalar.value n) l.a)) (row_of n (map (g.S.Scalar.value n) l.b)))) l.i l.sum
