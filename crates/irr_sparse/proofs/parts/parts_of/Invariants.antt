-- The primes so far are listed.
use Rattle.irr_sparse.proofs.Steps.{Listed}
use Rattle.irr_sparse.proofs.parts.parts_of.Given as goal

abbrev pub invariant-loop-rest : goal.invariant-loop-rest
invariant-loop-rest l = Listed l.n l.parts.items l.p l.rest

abbrev pub decreases-loop-rest : goal.decreases-loop-rest
decreases-loop-rest l = l.rest
