-- The table of one place, and the list of the one family of size 1 on it.
use Rattle.std.proofs.Common.{sym, ◌∙◌, refl}
use Rattle.irr_algebra.specs.Ring.{Ring}
use Rattle.irr_algebra.specs.Fin.Fin.{first}
use Rattle.irr_algebra.specs.Matrix.{unit}
use Rattle.irr_algebra.proofs.Indices.{only_first}
use Rattle.irr_algebra.proofs.Matrices.{unit-mul, scale-one}
use Rattle.irr_theory.specs.FactorSystem.{FactorSystem, Representation}
use Rattle.irr_theory.specs.Representations.{Representations}

-- the group of one element, with no phase
abbrev pub one_place : (R : Ring) → FactorSystem R
one_place R = record {
  places = 1;
  start = first;
  product = λ i j. first;
  opposite = λ i. first;
  phase = λ i j. R.one;
  start-product = only_first;
  product-start = only_first;
  product_assoc = λ i j k. refl;
  opposite-product = λ i. refl;
  product-opposite = λ i. refl;
  phase-start = λ i. refl;
  start-phase = λ i. refl;
  phase_assoc = λ i j k. refl;
  phase-invertible = λ i j. record { inverse = R.one; mul-inverse = R.mul-one R.one };
}

-- the 1 by 1 unit matrix
abbrev pub one_family : (R : Ring) → Representation (one_place R) 1
one_family R = record {
  at = λ i. unit R 1;
  at-start = refl;
  at-product = λ i j. unit-mul (unit R 1) ∙ sym (scale-one (unit R 1));
}

-- the list of this family
abbrev pub one_list : (R : Ring) → Representations (one_place R)
one_list R = record { count = 1; size = λ m. 1; member = λ m. one_family R }
