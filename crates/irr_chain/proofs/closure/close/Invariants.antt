-- The marks grow, and fewer and fewer are left.
use Rattle.irr_rep.specs.Twisted.{phase_table}
use Rattle.irr_chain.specs.Marks.{Grows, unmarked}
use Rattle.irr_chain.proofs.closure.close.Given as goal

abbrev pub invariant-loop : goal.invariant-loop
invariant-loop l = Grows (phase_table l.t) l.fn.marks l.marks

abbrev pub decreases-loop : goal.decreases-loop
decreases-loop l = unmarked l.marks
