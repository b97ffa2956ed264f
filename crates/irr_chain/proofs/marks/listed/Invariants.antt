-- The members are the marked places so far.
use Rattle.irr_chain.proofs.Markings.{Listing}
use Rattle.irr_chain.proofs.marks.listed.Given as goal

abbrev pub invariant-loop-i : goal.invariant-loop-i
invariant-loop-i l = Listing l.marks l.members.items l.i
