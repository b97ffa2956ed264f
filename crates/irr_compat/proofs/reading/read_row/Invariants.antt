-- The numbers so far.
use Rattle.irr_compat.proofs.ReadRows.{RowSoFar}
use Rattle.irr_compat.proofs.reading.read_row.Given as goal

abbrev pub invariant-loop-turn : goal.invariant-loop-turn
invariant-loop-turn g l = RowSoFar g.S.Scalar.order_of g.S.Scalar.value l.order.n l.turns l.row l.turn-index l.made.items
