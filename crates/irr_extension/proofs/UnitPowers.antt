-- Matrices with a power that is 1, and how often their eigenvalues occur.
--   unit_power: the power is 1 where that of each eigenvalue is
--   spaces_of_unit_power: the eigenspaces
--   occurs_by_mean: what the mean over the traces of the powers says
--   times_by_mean: this mean is a number of times
use Rattle.std.proofs.Common.{◌≡◌, sym, ◌∙◌, ap, subst, ℕ, zero, suc, ◌<◌, arith}
use mathlib.Core.Path.{fun_ext}
use Rattle.irr_algebra.specs.Ring.{Ring, whole}
use Rattle.irr_algebra.specs.Field.{Field}
use Rattle.irr_algebra.specs.Fin.{Fin, to_nat}
use Rattle.irr_algebra.specs.Sum.{sum}
use Rattle.irr_algebra.specs.Matrix.{Matrix, ◌·◌, scale, trace, unit}
use Rattle.irr_algebra.proofs.Rings.{one-mul}
use Rattle.irr_algebra.proofs.Fields.{mul_cancel, one-ne-zero, whole_inj}
use Rattle.irr_algebra.proofs.Matrices.{mul-scale, mul-unit, mul_assoc, scale-one, scale-scale, unit-mul}
use Rattle.irr_algebra.proofs.Totals.{mul-total, total-ext}
use Rattle.irr_theory.specs.Extension.{matrix_power}
use Rattle.irr_eigen.specs.Power.{power, IsPrimitiveRoot}
use Rattle.irr_eigen.specs.Eigenspace.{Eigenspaces, Occurs}
use Rattle.irr_eigen.proofs.MeanTraces.{occurs-mean}
use Rattle.irr_eigen.proofs.Occurrences.{occurs}
use Rattle.irr_eigen.proofs.Powers.{one-power}
use Rattle.irr_eigen.proofs.Primitive.{primitive_inj}
use Rattle.irr_eigen.proofs.RootsOfOne.{eigenspaces_of_power}

-- a power on an eigenspace
power-eigen : {R : Ring} {d e : ℕ} (v : Matrix R d d) (c : R.Carrier) (a : Matrix R d e) → v · a ≡ scale R c a → (j : ℕ)
    → matrix_power v j · a ≡ scale R (power R c j) a
unfolding matrix_power power
power-eigen v c a h zero = unit-mul a ∙ sym (scale-one a)
power-eigen {R} {d} {e} v c a h (suc j) =
    mul_assoc v (matrix_power v j) a ∙ ap (λ (m : Matrix R d e). v · m) (power-eigen v c a h j) ∙ mul-scale R (power R c j) v a
    ∙ ap (scale R (power R c j)) h ∙ scale-scale R (power R c j) c a ∙ ap (λ k. scale R k a) (R.mul_comm (power R c j) c)

pub unit_power : {R : Ring} {d k : ℕ} (v : Matrix R d d) (values : Fin k → R.Carrier) → Eigenspaces v values → (m : ℕ)
    → ((a : Fin k) → power R (values a) m ≡ R.one)
    → matrix_power v m ≡ unit R d
unit_power {R} {d} {k} v values e m one =
    sym (mul-unit (matrix_power v m)) ∙ ap (λ (a : Matrix R d d). matrix_power v m · a) (sym e.adds_up) ∙ mul-total k (matrix_power v m) e.projection
    ∙ total-ext k (λ a. power-eigen v (values a) (e.projection a) (e.eigen a) m ∙ ap (λ c. scale R c (e.projection a)) (one a)
    ∙ scale-one (e.projection a)) ∙ e.adds_up

module _ (F : Field) where
  open F use {ring as R}

  as_power_of_one : {d : ℕ} (m : ℕ) (v : Matrix R d d) → matrix_power v m ≡ unit R d → matrix_power v m ≡ scale R (power R R.one m) (unit R d)
  as_power_of_one {d} m v e = e ∙ sym (ap (λ c. scale R c (unit R d)) (one-power R m) ∙ scale-one (unit R d))

  pub spaces_of_unit_power : {d : ℕ} (m : ℕ) (v : Matrix R d d) (z : R.Carrier) → 0 < m → IsPrimitiveRoot R m z → matrix_power v m ≡ unit R d
      → Eigenspaces v (λ (i : Fin m). power R z (to_nat i))
  spaces_of_unit_power zero v z positive primitive e = absurd (omega arith)
  spaces_of_unit_power (suc m) v z positive primitive e =
      subst (λ (values : Fin (suc m) → R.Carrier). Eigenspaces v values) (fun_ext (λ i. one-mul R (power R z (to_nat i))))
      (eigenspaces_of_power F m v R.one z (one-ne-zero F) primitive (as_power_of_one (suc m) v e))

  pub occurs_by_mean : {d : ℕ} (m : ℕ) (v : Matrix R d d) (z : R.Carrier) → 0 < m → IsPrimitiveRoot R m z → matrix_power v m ≡ unit R d
      → (i : Fin m) (y : R.Carrier) → R.mul (power R z (to_nat i)) y ≡ R.one → (n : ℕ)
      → R.mul (whole R m) (whole R n) ≡ sum R m (λ j. R.mul (power R y (to_nat j)) (trace (matrix_power v (to_nat j)))) → Occurs v (power R z (to_nat i)) n
  occurs_by_mean zero v z positive primitive e i y inverse n mean = absurd (omega arith)
  occurs_by_mean {d} (suc m) v z positive primitive e i y inverse n mean =
      subst (λ k. Occurs v (power R z (to_nat i)) k) same (subst (λ c. Occurs v c found.0) (one-mul R (power R z (to_nat i))) found.1)
    where
      spaces : Eigenspaces v (λ (i : Fin (suc m)). R.mul R.one (power R z (to_nat i)))
      spaces = eigenspaces_of_power F m v R.one z (one-ne-zero F) primitive (as_power_of_one (suc m) v e)

      different : (a b : Fin (suc m)) → R.mul R.one (power R z (to_nat a)) ≡ R.mul R.one (power R z (to_nat b)) → a ≡ b
      different a b s = primitive_inj F (suc m) z primitive a b (mul_cancel F R.one (power R z (to_nat a)) (power R z (to_nat b)) (one-ne-zero F) s)

      found : (k : ℕ) × Occurs v (R.mul R.one (power R z (to_nat i))) k
      found = occurs F spaces different i

      same : found.0 ≡ n
      same = whole_inj F found.0 n (mul_cancel F (whole R (suc m)) (whole R found.0) (whole R n) (F.characteristic_zero m)
          (occurs-mean F m v R.one z (one-ne-zero F) primitive (as_power_of_one (suc m) v e) i y
          (ap (λ c. R.mul c y) (one-mul R (power R z (to_nat i))) ∙ inverse) found.0 found.1 ∙ sym mean))

  -- and the mean is a number of times
  pub times_by_mean : {d : ℕ} (m : ℕ) (v : Matrix R d d) (z : R.Carrier) → 0 < m → IsPrimitiveRoot R m z → matrix_power v m ≡ unit R d
      → (i : Fin m) (y : R.Carrier) → R.mul (power R z (to_nat i)) y ≡ R.one
      → (n : ℕ) × (R.mul (whole R m) (whole R n) ≡ sum R m (λ j. R.mul (power R y (to_nat j)) (trace (matrix_power v (to_nat j)))))
  times_by_mean zero v z positive primitive e i y inverse = absurd (omega arith)
  times_by_mean {d} (suc m) v z positive primitive e i y inverse = (
    found.0,
    occurs-mean F m v R.one z (one-ne-zero F) primitive (as_power_of_one (suc m) v e) i y (ap (λ c. R.mul c y) (one-mul R (power R z (to_nat i))) ∙ inverse)
        found.0 found.1,
  )
    where
      different : (a b : Fin (suc m)) → R.mul R.one (power R z (to_nat a)) ≡ R.mul R.one (power R z (to_nat b)) → a ≡ b
      different a b s = primitive_inj F (suc m) z primitive a b (mul_cancel F R.one (power R z (to_nat a)) (power R z (to_nat b)) (one-ne-zero F) s)

      found : (k : ℕ) × Occurs v (R.mul R.one (power R z (to_nat i))) k
      found = occurs F (eigenspaces_of_power F m v R.one z (one-ne-zero F) primitive (as_power_of_one (suc m) v e)) different i
