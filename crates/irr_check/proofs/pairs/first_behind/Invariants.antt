-- The family is apart from those behind it so far.
use Rattle.irr_rep.specs.Twisted.{phase_table}
use Rattle.irr_check.specs.Pairs.{AreApartBelow}
use Rattle.irr_check.proofs.pairs.first_behind.Given as goal

abbrev pub invariant-loop-b : goal.invariant-loop-b
invariant-loop-b g l = AreApartBelow (phase_table l.t) l.reps l.a l.b
