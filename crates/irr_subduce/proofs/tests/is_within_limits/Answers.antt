-- The limits, one by one.
use Rattle.irr_subduce.proofs.tests.is_within_limits.Goals as goal

pub returns : goal.returns
returns c = λ t. record { numerators = c.are_within.ensures t; denominator = c.if-wave-gt10000000.false }
