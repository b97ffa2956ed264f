-- The power so far.
use Rattle.std.proofs.Common.{◌≡◌, ◌<◌}
use Rattle.irr_rep.specs.Table.{entry, power_of}
use Rattle.irr_chain.proofs.series.tests.rotations.returns.Given as goal

abbrev pub invariant-loop-e : goal.invariant-loop-e
invariant-loop-e l = (l.power < l.size) × (l.power ≡ power_of (entry l.size l.products) l.i l._e)
