-- The marks grow.
use Rattle.irr_rep.specs.Generators.{Grows}
use Rattle.irr_rep.specs.Twisted.{phase_table}
use Rattle.irr_rep.proofs.generators.mark_row.Given as goal

abbrev pub invariant-loop-g : goal.invariant-loop-g
invariant-loop-g l = Grows (phase_table l.t) l.generators l.fn.marks l.marks
