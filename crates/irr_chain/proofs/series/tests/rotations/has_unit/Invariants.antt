-- The places so far are kept by place 0.
use Rattle.std.proofs.Common.{ℕ, ◌≡◌, ◌<◌}
use Rattle.irr_rep.specs.Table.{entry}
use Rattle.irr_chain.proofs.series.tests.rotations.has_unit.Given as goal

abbrev pub invariant-loop-i : goal.invariant-loop-i
invariant-loop-i l = (i : ℕ) → i < l.i → (entry l.size l.products 0 i ≡ i) × (entry l.size l.products i 0 ≡ i)
