-- The numbers of a point, tried one by one.
use Rattle.std.proofs.Common.{List, subst, ◌≤◌, ◌^◌, ℤ, pos, unsigned_abs, get_or, FitsSigned, to_z, of_z, rules}
use Rattle.std.specs.Int.{w64}
use Rattle.std.proofs.lemmas.Int.{to_z-of_z}
use Rattle.irr_algebra.specs.Fin.{to_nat}
use Rattle.irr_rational.specs.Ratio.{entry}
use Rattle.irr_rat.proofs.Vectors.{each_of_three}
use Rattle.irr_seitz.specs.OperationMeaning.{AreWithin}
use Rattle.irr_site.proofs.tests.is_point.Goals as goal

read : (x : ℤ) → FitsSigned w64 x → unsigned_abs (to_z w64 (of_z w64 x)) ≤ 1000000 → unsigned_abs x ≤ 1000000
read x f h = subst (λ y. unsigned_abs y ≤ 1000000) (to_z-of_z w64 x f) h

within : (num : List ℤ) → unsigned_abs (get_or num 0 (pos 0)) ≤ 1000000 → unsigned_abs (get_or num 1 (pos 0)) ≤ 1000000
    → unsigned_abs (get_or num 2 (pos 0)) ≤ 1000000 → AreWithin 1000000 num
unfolding to_nat
within num x y z = each_of_three (λ i. unsigned_abs (entry num i) ≤ 1000000) x y z

pub returns : goal.returns
returns c = λ t. record {
  numerators = within c.args.x.now.num
      (read (get_or c.args.x.now.num 0 (pos 0)) (search rules) (c.is_small_coordinate.ensures c.if-not-is_small_coordinate.false))
      (read (get_or c.args.x.now.num 1 (pos 0)) (search rules) (c.is_small_coordinate-2.ensures c.if-not-is_small_coordinate-2.false))
      (read (get_or c.args.x.now.num 2 (pos 0)) (search rules) (c.is_small_coordinate-3.ensures t));
  denominator = c.if-x-gt1000.false;
}
