-- How often an eigenvalue occurs in a matrix with a power that is a number.
--   occurs-counted           with that number's root t, from the traces of the powers
--   occurs-none              a number that is none of the values of the eigenspaces does not occur
--   occurs-le                it does not occur more often than the dimension of the space
--   occurs-total             the dimensions of the eigenspaces add up to that of the space
use Rattle.std.proofs.Common.{◌≡◌, sym, ◌∙◌, ap, ap₂, refl, subst, ℕ, zero, suc, ◌≤◌}
use Rattle.irr_algebra.specs.Ring.{whole}
use Rattle.irr_algebra.specs.Field.{Field}
use Rattle.irr_algebra.specs.Fin.{Fin, to_nat}
use Rattle.irr_algebra.specs.Fin.Fin.{first, next}
use Rattle.irr_algebra.specs.Sum.{sum}
use Rattle.irr_algebra.specs.Matrix.{Matrix, ◌·◌, column, null, scale, trace, unit}
use Rattle.irr_algebra.proofs.Fields.{mul_cancel, whole_inj}
use Rattle.irr_algebra.proofs.Matrices.{matrix-ext, mul-null, mul-scale, mul_assoc, null_of_entries, scale-at, scale-mul, trace-unit, unit-mul}
use Rattle.irr_algebra.proofs.Rings.{add-mul, eq_of_sub-zero, mul-zero, neg-mul}
use Rattle.irr_algebra.proofs.Spans.{span-length}
use Rattle.irr_algebra.proofs.Sums.{sum-ext}
use Rattle.irr_algebra.proofs.Totals.{total-mul, total-null, trace-total}
use Rattle.irr_algebra.proofs.Whole.{whole-add, whole-zero}
use Rattle.irr_theory.specs.Extension.{matrix_power}
use Rattle.irr_theory.specs.Representations.{count_total}
use Rattle.irr_eigen.specs.Eigenspace.{Eigenspaces, Occurs}
use Rattle.irr_eigen.specs.Power.{power, IsPrimitiveRoot}
use Rattle.irr_eigen.proofs.MeanTraces.{occurs-mean}
use Rattle.irr_eigen.proofs.Occurrences.{occurs, trace-occurs}
use Rattle.irr_eigen.proofs.Powers.{power-zero}
use Rattle.irr_eigen.proofs.Primitive.{primitive_inj}
use Rattle.irr_eigen.proofs.RootsOfOne.{eigenspaces_of_power}

module _ (F : Field) where
  open F use {ring as R}

  -- t, times the power 0 of a root of 1
  first-value : (n : ℕ) (t w : R.Carrier) → R.mul t (power R w (to_nat (first {n = n}))) ≡ t
  unfolding to_nat
  first-value n t w = ap (R.mul t) (power-zero R w) ∙ R.mul-one t

  pub occurs-counted : {d : ℕ} (n : ℕ) (v : Matrix R d d) (t w y : R.Carrier) → (t ≡ R.zero → ⊥) → IsPrimitiveRoot R (suc n) w
      → matrix_power v (suc n) ≡ scale R (power R t (suc n)) (unit R d) → R.mul t y ≡ R.one
      → (k : ℕ) × Occurs v t k × (R.mul (whole R (suc n)) (whole R k) ≡ sum R (suc n) (λ j. R.mul (power R y (to_nat j)) (trace (matrix_power v (to_nat j)))))
  occurs-counted {d} n v t w y ne primitive is_power inverse =
      let o : (k : ℕ) × Occurs v (R.mul t (power R w (to_nat (first {n = n})))) k = occurs F (eigenspaces_of_power F n v t w ne primitive is_power)
      (λ a b s. primitive_inj F (suc n) w primitive a b (mul_cancel F t (power R w (to_nat a)) (power R w (to_nat b)) ne s)) first in (
        o.0,
        subst (λ x. Occurs v x o.0) (first-value n t w) o.1,
        occurs-mean F n v t w ne primitive is_power first y (ap (λ x. R.mul x y) (first-value n t w) ∙ inverse) o.0 o.1,
      )

  -- what two different numbers multiply alike is 0
  null_of_scales : {m n : ℕ} (x y : R.Carrier) (a : Matrix R m n) → (x ≡ y → ⊥) → scale R x a ≡ scale R y a → a ≡ null
  null_of_scales {m} {n} x y a h e = null_of_entries (λ i j.
      mul_cancel F (R.add x (R.neg y)) (a.at i j) R.zero (λ z. h (eq_of_sub-zero R x y z))
      (add-mul R x (R.neg y) (a.at i j)
      ∙ ap₂ R.add (sym (scale-at R x a i j) ∙ ap (λ (b : Matrix R m n). b.at i j) e ∙ scale-at R y a i j) (neg-mul R y (a.at i j))
      ∙ R.add-neg (R.mul y (a.at i j)) ∙ sym (mul-zero R (R.add x (R.neg y)))))

  -- a list of no vectors
  no_vectors : (d : ℕ) → Matrix R d 0
  no_vectors d = null

  none_same : {d : ℕ} (a b : Matrix R d 0) → a ≡ b
  none_same a b = matrix-ext (λ i j. elim j [ ])

  no_rows-null : (c : Matrix R 0 1) → c ≡ null
  no_rows-null c = matrix-ext (λ i j. elim i [ ])

  module _ {d k : ℕ} {v : Matrix R d d} {values : Fin k → R.Carrier} (e : Eigenspaces v values) where
    pub occurs-none : (x : R.Carrier) → ((a : Fin k) → values a ≡ x → ⊥) → Occurs v x 0
    occurs-none x other = record {
      basis = no_vectors d;
      independent = record { only_zero = λ c h. no_rows-null c };
      eigen = none_same (v · no_vectors d) (scale R x (no_vectors d));
      spanning = λ y h. record { coefficients = null; is_combination = mul-null (no_vectors d) ∙ sym (is_null y h) };
    }
      where
        apart : (y : Matrix R d 1) → v · y ≡ scale R x y → (a : Fin k) → e.projection a · y ≡ null
        apart y h a = null_of_scales (values a) x (e.projection a · y) (other a)
            (sym (scale-mul R (values a) (e.projection a) y) ∙ ap (λ (m : Matrix R d d). m · y) (sym (e.eigen a) ∙ sym (e.commutes a v refl))
            ∙ mul_assoc (e.projection a) v y ∙ ap (λ (m : Matrix R d 1). e.projection a · m) h ∙ mul-scale R x (e.projection a) y)

        is_null : (y : Matrix R d 1) → v · y ≡ scale R x y → y ≡ null
        is_null y h = sym (unit-mul y) ∙ ap (λ (m : Matrix R d d). m · y) (sym e.adds_up) ∙ total-mul k e.projection y ∙ total-null k (λ a. apart y h a)

    whole-counted : (n : ℕ) (times : Fin n → ℕ) → sum R n (λ a. whole R (times a)) ≡ whole R (count_total n times)
    unfolding sum count_total
    whole-counted zero times = sym (whole-zero R)
    whole-counted (suc n) times = ap (R.add (whole R (times first))) (whole-counted n (λ a. times (next a)))
        ∙ sym (whole-add R (times first) (count_total n (λ a. times (next a))))

    pub occurs-total : ((a b : Fin k) → values a ≡ values b → a ≡ b) → (times : Fin k → ℕ) → ((a : Fin k) → Occurs v (values a) (times a)) → count_total k times ≡ d
    occurs-total different times o = whole_inj F (count_total k times) d
        (sym (whole-counted k times) ∙ sum-ext R k (λ a. whole R (times a)) (λ a. trace (e.projection a)) (λ a. sym (trace-occurs F e different a (times a) (o a)))
        ∙ sym (trace-total k e.projection) ∙ ap trace e.adds_up ∙ trace-unit R d)

  -- no more than the dimension of the space
  pub occurs-le : {d k : ℕ} {v : Matrix R d d} {x : R.Carrier} → Occurs v x k → k ≤ d
  occurs-le {d} o = span-length F o.basis (unit R d) o.independent (λ j. record { coefficients = column o.basis j; is_combination = unit-mul (column o.basis j) })
