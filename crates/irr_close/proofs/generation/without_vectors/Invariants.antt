-- The operations so far have their bare ones.
use Rattle.irr_close.specs.Bare.{AreBare}
use Rattle.irr_close.proofs.generation.without_vectors.Given as goal

abbrev pub invariant-loop-op : goal.invariant-loop-op
invariant-loop-op l = AreBare l.ops l.made.items l.op-index
