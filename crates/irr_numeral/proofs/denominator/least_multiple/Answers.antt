-- By the greatest common divisor.
use Rattle.irr_number.proofs.Primes.{divisor_pos}
use Rattle.irr_rat.proofs.Multiples.{lcm_of_gcd}
use Rattle.irr_numeral.proofs.denominator.least_multiple.Goals as goal

pub nonzero_div-result : goal.nonzero_div-result
nonzero_div-result c = divisor_pos c.gcd.result c.args.a c.requires.a_positive c.gcd.ensures.0

pub returns : goal.returns
returns c = lcm_of_gcd c.args.a c.args.b c.gcd.result c.requires.a_positive c.gcd.ensures
