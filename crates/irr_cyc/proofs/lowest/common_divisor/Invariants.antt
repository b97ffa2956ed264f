-- The divisor so far is the greatest of the denominator and the coefficients so far.
use Rattle.irr_cyc.proofs.Divisors.{IsDivisorOf}
use Rattle.irr_cyc.proofs.lowest.common_divisor.Given as goal

abbrev pub invariant-loop-coefficient : goal.invariant-loop-coefficient
invariant-loop-coefficient l = IsDivisorOf l.coefficients l.den l.coefficient-index l.divisor
