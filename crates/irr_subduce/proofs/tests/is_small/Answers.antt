-- The limits, one by one.
use Rattle.irr_subduce.proofs.tests.is_small.Goals as goal

pub returns : goal.returns
returns c = λ t. record {
  within = c.is_small_rotation.ensures c.if-not-is_small_rotation.false;
  numerators = c.are_within.ensures t;
  denominator = c.if-op-gt100000.false;
}
