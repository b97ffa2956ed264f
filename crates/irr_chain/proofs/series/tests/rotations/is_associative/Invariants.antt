-- The products with the first places so far are associative.
use Rattle.std.proofs.Common.{ℕ, ◌≡◌, ◌<◌}
use Rattle.irr_rep.specs.Table.{entry}
use Rattle.irr_chain.proofs.series.tests.rotations.is_associative.Given as goal

abbrev pub invariant-loop-i : goal.invariant-loop-i
invariant-loop-i l = (i : ℕ) → i < l.i → (j : ℕ) → j < l.size → (k : ℕ) → k < l.size → entry l.size l.products (entry l.size l.products i j) k ≡ entry l.size l.products i (entry l.size l.products j k)
