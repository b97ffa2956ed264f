-- Terms and denominator over their greatest common divisor are in lowest terms.
use Rattle.std.proofs.Common.{sym, ◌∙◌, ap, subst, ℕ, ℤ, List, ◌/◌, length}
use Rattle.std.specs.Int.{◌∣◌}
use Rattle.irr_cyc.proofs.Divisors.{one_of_dvd}
use Rattle.irr_sparse.specs.TermList.{AreTerms, IsLowest}
use Rattle.irr_sparse.specs.Value.{value_of}
use Rattle.irr_sparse.proofs.Divisors.{IsDivisorOf, divided-lowest, divided-positive, divided-terms, divided-value}
use Rattle.irr_sparse.proofs.lowest.to_lowest_terms.Goals as goal

pub returns-then-den-eq1-clause-lowest : goal.returns-then-den-eq1-clause-lowest
returns-then-den-eq1-clause-lowest c = λ k v all. one_of_dvd k v

pub returns-then-divisor-eq1-clause-lowest : goal.returns-then-divisor-eq1-clause-lowest
returns-then-divisor-eq1-clause-lowest c = λ k v all. one_of_dvd k (subst (λ x. k ∣ x) c.if-divisor-eq1.true (c.common_divisor-divisor.ensures.greatest k v all))

common : (c : goal.After-terms-1) → IsDivisorOf c.args.terms.now c.args.den (length c.args.terms.now) c.common_divisor-divisor.result
common c = record { positive = c.common_divisor-divisor.ensures.positive; denominator = c.common_divisor-divisor.ensures.denominator; each = c.common_divisor-divisor.ensures.each; greatest = c.common_divisor-divisor.ensures.greatest }

pub returns-clause-positive : goal.returns-clause-positive
returns-clause-positive c = divided-positive c.args.terms.now c.args.den c.common_divisor-divisor.result c.requires (common c)

pub returns-clause-lowest : goal.returns-clause-lowest
returns-clause-lowest c = subst (λ (ts : List (ℕ × ℤ)). IsLowest ts (c.args.den / c.common_divisor-divisor.result)) (sym c.divide.ensures) (divided-lowest c.args.terms.now c.args.den c.common_divisor-divisor.result c.requires (common c))

pub returns-clause-terms : goal.returns-clause-terms
returns-clause-terms c = λ n h. subst (AreTerms n 0) (sym c.divide.ensures) (divided-terms n 0 c.common_divisor-divisor.result c.args.terms.now c.common_divisor-divisor.ensures.each h)

pub returns-clause-value : goal.returns-clause-value
returns-clause-value c = λ n p h. ap (λ (ts : List (ℕ × ℤ)). value_of n ts (c.args.den / c.common_divisor-divisor.result)) c.divide.ensures ∙ divided-value c.args.terms.now c.args.den c.common_divisor-divisor.result c.requires (common c) n p h
