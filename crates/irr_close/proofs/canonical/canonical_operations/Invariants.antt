-- The operations so far have their canonical ones.
use Rattle.irr_close.specs.Canonical.{AreCanonicalOf}
use Rattle.irr_close.proofs.canonical.canonical_operations.Given as goal

abbrev pub invariant-loop-op : goal.invariant-loop-op
invariant-loop-op l = AreCanonicalOf l.centrings l.ops l.made.items l.op-index
