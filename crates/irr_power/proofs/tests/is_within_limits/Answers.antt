use Rattle.std.proofs.Common.{subst, ◌≤◌, ◌^◌, ℤ, pos, unsigned_abs, get_or, FitsSigned, to_z, of_z, rules}
use Rattle.std.specs.Int.{w64}
use Rattle.std.proofs.lemmas.Int.{to_z-of_z}
use Rattle.irr_kvec.proofs.Products.{at_places}
use Rattle.irr_power.proofs.tests.is_within_limits.Goals as goal

read : (x : ℤ) → FitsSigned w64 x → unsigned_abs (to_z w64 (of_z w64 x)) ≤ 10 ^ 14 → unsigned_abs x ≤ 10 ^ 14
read x f h = subst (λ y. unsigned_abs y ≤ 10 ^ 14) (to_z-of_z w64 x f) h

pub returns : goal.returns
returns c = λ t. record {
  numerators = at_places (λ x. unsigned_abs x ≤ 10 ^ 14) c.args.wave.now.num
      (read (get_or c.args.wave.now.num 0 (pos 0)) (search rules)
      (c.is_small_numerator.ensures c.if-not-is_small_numerator.false))
      (read (get_or c.args.wave.now.num 1 (pos 0)) (search rules)
      (c.is_small_numerator-2.ensures c.if-not-is_small_numerator-2.false))
      (read (get_or c.args.wave.now.num 2 (pos 0)) (search rules) (c.is_small_numerator-3.ensures t));
  denominator = c.if-wave-gt10000000.false;
}
