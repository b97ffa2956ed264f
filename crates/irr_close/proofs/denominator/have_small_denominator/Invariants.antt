-- The least common multiple of the denominators so far.
use Rattle.irr_close.proofs.Multiples.{IsLeastSoFar}
use Rattle.irr_close.proofs.denominator.have_small_denominator.Given as goal

abbrev pub invariant-loop-generator : goal.invariant-loop-generator
invariant-loop-generator l = IsLeastSoFar l.generators l.common l.generator-index
