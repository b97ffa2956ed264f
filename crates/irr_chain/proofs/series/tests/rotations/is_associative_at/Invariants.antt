-- The products with the third places so far are associative.
use Rattle.std.proofs.Common.{ℕ, ◌≡◌, ◌<◌}
use Rattle.irr_rep.specs.Table.{entry}
use Rattle.irr_chain.proofs.series.tests.rotations.is_associative_at.Given as goal

abbrev pub invariant-loop-k : goal.invariant-loop-k
invariant-loop-k l = (k : ℕ) → k < l.k → entry l.size l.products (entry l.size l.products l.i l.j) k ≡ entry l.size l.products l.i (entry l.size l.products l.j k)
