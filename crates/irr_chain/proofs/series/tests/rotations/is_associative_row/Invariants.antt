-- The products with the second places so far are associative.
use Rattle.std.proofs.Common.{ℕ, ◌≡◌, ◌<◌}
use Rattle.irr_rep.specs.Table.{entry}
use Rattle.irr_chain.proofs.series.tests.rotations.is_associative_row.Given as goal

abbrev pub invariant-loop-j : goal.invariant-loop-j
invariant-loop-j l = (j : ℕ) → j < l.j → (k : ℕ) → k < l.size → entry l.size l.products (entry l.size l.products l.i j) k ≡ entry l.size l.products l.i (entry l.size l.products j k)
