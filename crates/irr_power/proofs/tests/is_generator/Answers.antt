-- A generator's numbers, tried one by one.
use Rattle.std.proofs.Common.{List, subst, ◌≤◌, ◌^◌, ℤ, pos, unsigned_abs, get_or, FitsSigned, to_z, of_z, rules}
use Rattle.std.specs.Int.{w64}
use Rattle.std.proofs.lemmas.Int.{to_z-of_z}
use Rattle.irr_algebra.specs.Fin.{to_nat}
use Rattle.irr_rational.specs.Ratio.{entry}
use Rattle.irr_rat.proofs.Vectors.{each_of_three}
use Rattle.irr_seitz.specs.OperationMeaning.{AreWithin}
use Rattle.irr_power.proofs.tests.is_generator.Goals as goal

read : (x : ℤ) → FitsSigned w64 x → unsigned_abs (to_z w64 (of_z w64 x)) ≤ 10 ^ 12 → unsigned_abs x ≤ 10 ^ 12
read x f h = subst (λ y. unsigned_abs y ≤ 10 ^ 12) (to_z-of_z w64 x f) h

within : (num : List ℤ) → unsigned_abs (get_or num 0 (pos 0)) ≤ 10 ^ 12 → unsigned_abs (get_or num 1 (pos 0)) ≤ 10 ^ 12
    → unsigned_abs (get_or num 2 (pos 0)) ≤ 10 ^ 12 → AreWithin (10 ^ 12) num
unfolding to_nat
within num x y z = each_of_three (λ i. unsigned_abs (entry num i) ≤ 10 ^ 12) x y z

pub returns : goal.returns
returns c = λ t. record {
  within = c.is_small_rotation.ensures c.if-not-is_small_rotation.false;
  numerators = within c.args.op.now.num
      (read (get_or c.args.op.now.num 0 (pos 0)) (search rules) (c.is_small.ensures c.if-not-is_small.false))
      (read (get_or c.args.op.now.num 1 (pos 0)) (search rules) (c.is_small-2.ensures c.if-not-is_small-2.false))
      (read (get_or c.args.op.now.num 2 (pos 0)) (search rules) (c.is_small-3.ensures t));
}
