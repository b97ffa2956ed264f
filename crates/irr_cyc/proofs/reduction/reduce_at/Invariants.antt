-- The classes of the top powers below the place have been reduced.
use Rattle.std.proofs.Common.{length}
use Rattle.irr_cyc.specs.Form.{at}
use Rattle.irr_cyc.proofs.Passes.{IsMovedBelow}
use Rattle.irr_cyc.proofs.reduction.reduce_at.Given as goal

abbrev pub invariant-loop-top : goal.invariant-loop-top
invariant-loop-top l = IsMovedBelow (length l.initial.coefficients) l.p l.top (at l.initial.coefficients) (at l.coefficients)
