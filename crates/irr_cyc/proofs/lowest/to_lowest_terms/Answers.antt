-- Coefficients and denominator over their greatest common divisor are in lowest terms.
use Rattle.std.proofs.Common.{subst}
use Rattle.std.specs.Int.{◌∣◌}
use Rattle.irr_cyc.proofs.Divisors.{lowest-positive, lowest-same, lowest-terms, one_of_dvd}
use Rattle.irr_cyc.proofs.lowest.to_lowest_terms.Goals as goal

pub returns-then-den-eq1-clause-lowest : goal.returns-then-den-eq1-clause-lowest
returns-then-den-eq1-clause-lowest c = λ k v all. one_of_dvd k v

pub returns-then-divisor-eq1-clause-lowest : goal.returns-then-divisor-eq1-clause-lowest
returns-then-divisor-eq1-clause-lowest c = λ k v all. one_of_dvd k (subst (λ x. k ∣ x) c.if-divisor-eq1.true (c.common_divisor-divisor.ensures.greatest k v all))

pub returns-clause-positive : goal.returns-clause-positive
returns-clause-positive c = lowest-positive c.args.coefficients.now c.divide.new.coefficients c.args.den c.common_divisor-divisor.result c.requires
    (record { positive = c.common_divisor-divisor.ensures.positive; denominator = c.common_divisor-divisor.ensures.denominator; each = c.common_divisor-divisor.ensures.each; greatest = c.common_divisor-divisor.ensures.greatest }) c.divide.auto.coefficients c.divide.ensures

pub returns-clause-same : goal.returns-clause-same
returns-clause-same c = lowest-same c.args.coefficients.now c.divide.new.coefficients c.args.den c.common_divisor-divisor.result c.requires
    (record { positive = c.common_divisor-divisor.ensures.positive; denominator = c.common_divisor-divisor.ensures.denominator; each = c.common_divisor-divisor.ensures.each; greatest = c.common_divisor-divisor.ensures.greatest }) c.divide.auto.coefficients c.divide.ensures

pub returns-clause-lowest : goal.returns-clause-lowest
returns-clause-lowest c = lowest-terms c.args.coefficients.now c.divide.new.coefficients c.args.den c.common_divisor-divisor.result c.requires
    (record { positive = c.common_divisor-divisor.ensures.positive; denominator = c.common_divisor-divisor.ensures.denominator; each = c.common_divisor-divisor.ensures.each; greatest = c.common_divisor-divisor.ensures.greatest }) c.divide.auto.coefficients c.divide.ensures
