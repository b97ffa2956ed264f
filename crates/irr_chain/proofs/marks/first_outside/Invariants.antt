-- The members so far are marked.
use Rattle.std.proofs.Common.{ℕ, ◌<◌, get_or}
use Rattle.irr_chain.specs.Marks.{IsMarked}
use Rattle.irr_chain.proofs.marks.first_outside.Given as goal

abbrev pub invariant-loop-i : goal.invariant-loop-i
invariant-loop-i l = (a : ℕ) → a < l.i-index → IsMarked l.marks (get_or l.members a 0)
