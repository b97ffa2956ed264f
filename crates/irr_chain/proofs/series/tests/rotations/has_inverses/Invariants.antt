-- The places so far have inverses.
use Rattle.std.proofs.Common.{ℕ, ◌≡◌, ◌<◌}
use Rattle.irr_rep.specs.Table.{entry}
use Rattle.irr_chain.proofs.series.tests.rotations.has_inverses.Given as goal

abbrev pub invariant-loop-i : goal.invariant-loop-i
invariant-loop-i l = (i : ℕ) → i < l.i → (j : ℕ) × (j < l.size) × (entry l.size l.products i j ≡ 0)
