-- The greatest common divisor of a numerator and a denominator.
use Rattle.std.proofs.Common.{◌≡◌, ◌∙◌, ap, subst, ℕ, unsigned_abs, w64}
use Rattle.std.specs.Int.{IsGcd}
use Rattle.std.proofs.lemmas.Int.{to_z-of_z}
use Rattle.irr_number.proofs.Primes.{divisor_pos}
use Rattle.irr_rat.proofs.fraction.divisor.Goals as goal

moved : (a b c d g : ℕ) → a ≡ b → c ≡ d → IsGcd a c g → IsGcd b d g
moved a b c d g e f h = subst (λ x. IsGcd x d g) e (subst (λ y. IsGcd a y g) f h)

greatest : (c : goal.After-gcd) → IsGcd (unsigned_abs c.args.num) c.args.den c.gcd.result
greatest c = moved c.unsigned_abs.result (unsigned_abs c.args.num) c.from.result c.args.den c.gcd.result (c.unsigned_abs.ensures.value ∙ ap unsigned_abs (to_z-of_z w64 c.args.num c.ranges.num)) c.from.ensures c.gcd.ensures

pub returns-clause-greatest : goal.returns-clause-greatest
returns-clause-greatest c = greatest c

pub returns-clause-positive : goal.returns-clause-positive
returns-clause-positive c = divisor_pos c.gcd.result c.args.den c.requires (greatest c).1
