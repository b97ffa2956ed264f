-- The forms so far.
use Rattle.irr_char.proofs.MadeForms.{FormsSoFar}
use Rattle.irr_char.proofs.rows.forms_of.Given as goal

abbrev pub invariant-loop-x : goal.invariant-loop-x
invariant-loop-x g l = FormsSoFar g.S.Scalar.order_of g.S.Scalar.value l.row l.forms.items l.x-index
