-- The marks grow.
use Rattle.irr_rep.specs.Generators.{Grows}
use Rattle.irr_rep.specs.Twisted.{phase_table}
use Rattle.irr_rep.proofs.generators.close.Given as goal

abbrev pub invariant-loop : goal.invariant-loop
invariant-loop l = Grows (phase_table l.t) l.generators l.fn.marks l.marks
