-- The powers and the commutators of the members so far are marked.
use Rattle.std.proofs.Common.{◌+◌}
use Rattle.irr_rep.specs.Twisted.{phase_table}
use Rattle.irr_chain.specs.NormalSubgroup.{In}
use Rattle.irr_chain.proofs.Generating.{Before, Marking, Row}
use Rattle.irr_chain.proofs.quotient.powers_and_commutators.Given as goal

abbrev pub invariant-loop-j : goal.invariant-loop-j
invariant-loop-j l = Marking (phase_table l.t) (In l.members) l.p l.marks.items (Before l.members (l.i-index + 1)) (Row l.members l.i-index l.j-index)

abbrev pub invariant-loop-i : goal.invariant-loop-i
invariant-loop-i l = Marking (phase_table l.t) (In l.members) l.p l.marks.items (Before l.members l.i-index)
    (λ q r. Before l.members l.i-index q × In l.members r)
