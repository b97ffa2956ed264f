-- The laws of standing before or being the same.
use Rattle.irr_rational.proofs.Lexicographic.{at_most_trans, at_most_antisymm, at_most_or_above, at_most_of_each}
use Rattle.irr_rational.proofs.lexicographic_at_most.Goals as goal

pub returns-clause-transitive : goal.returns-clause-transitive
returns-clause-transitive c = λ n f g h. at_most_trans f g h

pub returns-clause-antisymmetric : goal.returns-clause-antisymmetric
returns-clause-antisymmetric c = λ n f g. at_most_antisymm f g

pub returns-clause-total : goal.returns-clause-total
returns-clause-total c = at_most_or_above

pub returns-clause-each : goal.returns-clause-each
returns-clause-each c = at_most_of_each
