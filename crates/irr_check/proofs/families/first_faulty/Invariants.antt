-- Nothing is wrong with the representations so far.
use Rattle.irr_rep.specs.Twisted.{phase_table}
use Rattle.irr_check.specs.Listed.{AreSoundBelow}
use Rattle.irr_check.proofs.families.first_faulty.Given as goal

abbrev pub invariant-loop-rep : goal.invariant-loop-rep
invariant-loop-rep g l = AreSoundBelow (phase_table l.t) l.reps l.rep
