-- How often an eigenvalue occurs, by the traces of the powers.
use Rattle.std.proofs.Common.{◌≡◌, sym, ◌∙◌, ap, ℕ, suc}
use Rattle.irr_algebra.specs.Ring.{whole}
use Rattle.irr_algebra.specs.Field.{Field}
use Rattle.irr_algebra.specs.Fin.{Fin, to_nat}
use Rattle.irr_algebra.specs.Sum.{sum}
use Rattle.irr_algebra.specs.Matrix.{Matrix, scale, trace, unit}
use Rattle.irr_algebra.proofs.Fields.{mul_cancel, mul-inverse_left, one-ne-zero}
use Rattle.irr_algebra.proofs.Rings.{zero-mul}
use Rattle.irr_algebra.proofs.Sums.{sum-ext}
use Rattle.irr_algebra.proofs.Matrices.{trace-scale}
use Rattle.irr_algebra.proofs.Totals.{trace-total}
use Rattle.irr_theory.specs.Extension.{matrix_power}
use Rattle.irr_eigen.specs.Power.{power, IsPrimitiveRoot}
use Rattle.irr_eigen.specs.Eigenspace.{Eigenspaces, Occurs}
use Rattle.irr_eigen.proofs.Powers.{matrix_power-scale}
use Rattle.irr_eigen.proofs.Means.{mean}
use Rattle.irr_eigen.proofs.Primitive.{primitive_inj}
use Rattle.irr_eigen.proofs.RootsOfOne.{eigenspaces_of_power, value_inverse, mul-value_inverse, projection-mean}
use Rattle.irr_eigen.proofs.Occurrences.{trace-occurs}

module _ (F : Field) where
  open F use {ring as R}

  trace-mean : {d : ℕ} (n : ℕ) (y : R.Carrier) (v : Matrix R d d)
      → R.mul (whole R (suc n)) (trace (mean F (suc n) (scale R y v))) ≡ sum R (suc n) (λ j. R.mul (power R y (to_nat j)) (trace (matrix_power v (to_nat j))))
  trace-mean n y v =
      ap (R.mul (whole R (suc n))) (trace-scale R (F.inverse (whole R (suc n))) _)
      ∙ mul-inverse_left F (whole R (suc n)) _ (F.characteristic_zero n)
      ∙ trace-total (suc n) (λ j. matrix_power (scale R y v) (to_nat j))
      ∙ sum-ext R (suc n) (λ j. trace (matrix_power (scale R y v) (to_nat j))) (λ j. R.mul (power R y (to_nat j)) (trace (matrix_power v (to_nat j))))
      (λ j. ap trace (matrix_power-scale R y v (to_nat j)) ∙ trace-scale R (power R y (to_nat j)) (matrix_power v (to_nat j)))

  -- n+1 times the dimension is the sum of the traces of the powers, each times a power of the inverse of the eigenvalue
  pub occurs-mean : {d : ℕ} (n : ℕ) (v : Matrix R d d) (t z : R.Carrier) (ne : t ≡ R.zero → ⊥) (h : IsPrimitiveRoot R (suc n) z)
      (e : matrix_power v (suc n) ≡ scale R (power R t (suc n)) (unit R d)) (i : Fin (suc n)) (y : R.Carrier)
      → R.mul (R.mul t (power R z (to_nat i))) y ≡ R.one → (m : ℕ) → Occurs v (R.mul t (power R z (to_nat i))) m
      → R.mul (whole R (suc n)) (whole R m) ≡ sum R (suc n) (λ j. R.mul (power R y (to_nat j)) (trace (matrix_power v (to_nat j))))
  occurs-mean {d} n v t z ne h e i y inverse m o =
      ap (R.mul (whole R (suc n))) (sym (trace-occurs F spaces different i m o) ∙ ap trace (projection-mean F n v t z ne h e i) ∙ ap (λ x. trace (mean F (suc n) (scale R x v))) same)
      ∙ trace-mean n y v
    where
      spaces : Eigenspaces v (λ (i : Fin (suc n)). R.mul t (power R z (to_nat i)))
      spaces = eigenspaces_of_power F n v t z ne h e

      different : (a b : Fin (suc n)) → R.mul t (power R z (to_nat a)) ≡ R.mul t (power R z (to_nat b)) → a ≡ b
      different a b s = primitive_inj F (suc n) z h a b (mul_cancel F t (power R z (to_nat a)) (power R z (to_nat b)) ne s)

      value : R.Carrier
      value = R.mul t (power R z (to_nat i))

      value-ne-zero : value ≡ R.zero → ⊥
      value-ne-zero s = one-ne-zero F (sym inverse ∙ ap (λ x. R.mul x y) s ∙ zero-mul R y)

      same : value_inverse F n t z i ≡ y
      same = mul_cancel F value (value_inverse F n t z i) y value-ne-zero (mul-value_inverse F n t z ne h i ∙ sym inverse)
