-- The divisor so far is the greatest of the denominator and the coefficients so far.
use Rattle.irr_sparse.proofs.Divisors.{IsDivisorOf}
use Rattle.irr_sparse.proofs.lowest.common_divisor.Given as goal

abbrev pub invariant-loop-coefficient : goal.invariant-loop-coefficient
invariant-loop-coefficient l = IsDivisorOf l.terms l.den l.coefficient-index l.divisor
