-- The rows so far.
use Rattle.std.proofs.Common.{map}
use Rattle.irr_char.proofs.MadeForms.{RowsSoFar}
use Rattle.irr_char.proofs.rows.forms_of_rows.Given as goal

abbrev pub invariant-loop-row : goal.invariant-loop-row
invariant-loop-row g l = RowsSoFar g.S.Scalar.order_of g.S.Scalar.value (map (λ v. v.items) l.rows) (map (λ v. v.items) l.forms.items) l.row-index
