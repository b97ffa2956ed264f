-- The laws of standing before.
use Rattle.irr_rational.proofs.Lexicographic.{below_irrefl, below_trans, below_or_above}
use Rattle.irr_rational.proofs.lexicographic_order.Goals as goal

pub returns-clause-irreflexive : goal.returns-clause-irreflexive
returns-clause-irreflexive c = λ n f. below_irrefl f

pub returns-clause-transitive : goal.returns-clause-transitive
returns-clause-transitive c = λ n f g h. below_trans f g h

pub returns-clause-total : goal.returns-clause-total
returns-clause-total c = below_or_above
