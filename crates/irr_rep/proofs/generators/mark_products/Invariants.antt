-- The marks grow.
use Rattle.irr_rep.specs.Generators.{Grows}
use Rattle.irr_rep.specs.Twisted.{phase_table}
use Rattle.irr_rep.proofs.generators.mark_products.Given as goal

abbrev pub invariant-loop-i : goal.invariant-loop-i
invariant-loop-i l = Grows (phase_table l.t) l.generators l.fn.marks l.marks
