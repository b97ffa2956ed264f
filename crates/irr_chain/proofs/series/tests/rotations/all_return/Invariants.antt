-- The places so far come back.
use Rattle.std.proofs.Common.{ℕ, ◌≡◌, ◌<◌}
use Rattle.irr_rep.specs.Table.{entry, power_of}
use Rattle.irr_chain.specs.declared.series.tests.rotations.TheConstants.{ORDER}
use Rattle.irr_chain.proofs.series.tests.rotations.all_return.Given as goal

abbrev pub invariant-loop-i : goal.invariant-loop-i
invariant-loop-i l = (i : ℕ) → i < l.i → power_of (entry l.size l.products) i ORDER ≡ 0
