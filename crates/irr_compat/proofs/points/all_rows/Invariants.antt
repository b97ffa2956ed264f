-- The rows of the points so far.
use Rattle.std.proofs.Common.{◌≡◌, suc, map}
use Rattle.irr_seitz.specs.PhaseMeaning.{sign_of}
use Rattle.irr_rep.specs.Twisted.{phase_table}
use Rattle.irr_close.specs.StandsFor.{stands_for}
use Rattle.irr_compat.specs.Relations.{PointRelations}
use Rattle.irr_compat.specs.Rows.{RowView, point_rows, row_view}
use Rattle.irr_compat.specs.LineTables.{IsLineHere, here_operation, here_point}
use Rattle.irr_compat.proofs.Gathering.{IsGatheredFrom}
use Rattle.irr_compat.proofs.points.all_rows.Given as goal

abbrev pub invariant-loop-i : goal.invariant-loop-i
invariant-loop-i g l = (e : IsLineHere g.S.Scalar.order_of g.S.Scalar.value l.group l.points l.line l.members)
    → IsGatheredFrom {X = RowView} {n = suc e.others} (λ i rows. (R : PointRelations (sign_of l.group.phase) (stands_for l.group) (here_point e) (here_operation e) (phase_table l.line)
    e.known.list i) × (rows ≡ point_rows R)) l.i (map row_view l.rows.items)
