use Rattle.std.proofs.Common.{◌≡◌, ◌∙◌, ◌%◌, ap, subst, unsigned_abs}
use native.Mathlib.Nat as Nat
use Rattle.std.specs.Int.{◌∣◌, IsGcd}
use Rattle.std.proofs.lemmas.Int.{to_z-of_z}
use Rattle.std.proofs.lemmas.Nat.Gcd.{IsGcd-from_mod}
use Rattle.irr_number.proofs.Primes.{divisor_pos}
use Rattle.irr_rat.proofs.lowest.common_divisor.Goals as goal

pub returns-then-den-eq1-clause-greatest : goal.returns-then-den-eq1-clause-greatest
returns-then-den-eq1-clause-greatest c = (Nat.one-dvd (unsigned_abs c.args.number), Nat.one-dvd c.args.den, λ d _ h. subst (λ n. d ∣ n) c.if-den-eq1.true h)

pub returns-clause-greatest : goal.returns-clause-greatest
returns-clause-greatest c =
    let size : c.unsigned_abs.result ≡ unsigned_abs c.args.number = c.unsigned_abs.ensures.value ∙ ap unsigned_abs (to_z-of_z _ _ c.ranges.number) in
    IsGcd-from_mod (unsigned_abs c.args.number) c.args.den c.gcd.result (subst (λ n. IsGcd c.args.den (n % c.args.den) c.gcd.result) size c.gcd.ensures)

pub returns-clause-positive : goal.returns-clause-positive
returns-clause-positive c = divisor_pos c.gcd.result c.args.den c.requires c.gcd.ensures.0
