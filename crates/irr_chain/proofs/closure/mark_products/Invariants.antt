-- The products of the pairs so far are marked.
use Rattle.irr_rep.specs.Twisted.{phase_table}
use Rattle.irr_chain.proofs.Passes.{Pass}
use Rattle.irr_chain.proofs.closure.mark_products.Given as goal

abbrev pub invariant-loop-j : goal.invariant-loop-j
invariant-loop-j l = Pass (phase_table l.t) l.fn.marks l.marks l.grown l.i l.j

abbrev pub invariant-loop-i : goal.invariant-loop-i
invariant-loop-i l = Pass (phase_table l.t) l.fn.marks l.marks l.grown l.i 0
