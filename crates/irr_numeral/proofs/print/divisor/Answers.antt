-- The greatest common divisor of a numerator and a denominator, by one remainder.
use Rattle.std.proofs.Common.{◌≡◌, ◌∙◌, ap, subst, ℕ, ◌%◌, unsigned_abs}
use Rattle.std.specs.Int.{IsGcd, w128}
use Rattle.std.proofs.lemmas.Int.{to_z-of_z}
use Rattle.std.proofs.lemmas.Nat.Gcd.{IsGcd-from_mod}
use Rattle.irr_number.proofs.Primes.{divisor_pos}
use Rattle.irr_numeral.proofs.print.divisor.Goals as goal

moved : (a b x y g : ℕ) → x ≡ a → y ≡ b → IsGcd b (x % y) g → IsGcd a b g
moved a b x y g e f h = IsGcd-from_mod a b g (subst (λ u. IsGcd b (u % b) g) e (subst (λ v. IsGcd b (x % v) g) f h))

greatest : (c : goal.After-gcd) → IsGcd (unsigned_abs c.args.num) c.args.den c.gcd.result
greatest c = moved (unsigned_abs c.args.num) c.args.den c.unsigned_abs.result c.from.result c.gcd.result (c.unsigned_abs.ensures.value ∙ ap unsigned_abs (to_z-of_z w128 c.args.num c.ranges.num)) c.from.ensures c.gcd.ensures

pub returns-clause-greatest : goal.returns-clause-greatest
returns-clause-greatest c = greatest c

pub returns-clause-positive : goal.returns-clause-positive
returns-clause-positive c = divisor_pos c.gcd.result c.args.den c.requires (greatest c).1
