-- The trace of a matrix with a power that is 0.
use Rattle.std.proofs.Common.{◌≡◌, sym, ◌∙◌, ap, ℕ, zero, suc}
use Rattle.irr_algebra.specs.Field.{Field}
use Rattle.irr_algebra.specs.Matrix.{Matrix, ◌·◌, unit, null, trace}
use Rattle.irr_algebra.proofs.Sums.{sum-zero}
use Rattle.irr_algebra.proofs.Matrices.{mul_assoc, unit-mul, mul-unit, mul-null, null-mul, trace_comm}
use Rattle.irr_algebra.proofs.Rank.{Factored, factored}
use Rattle.irr_theory.specs.Extension.{matrix_power}
use Rattle.irr_eigen.proofs.Powers.{matrix_power-zero, matrix_power-suc, matrix_power-carried}

module _ (F : Field) where
  open F use {ring as R}

  trace-null : (n : ℕ) → trace {R = R} {n = n} null ≡ R.zero
  unfolding trace null
  trace-null n = sum-zero R n

  -- it is 0: u is a product over its rank, and the product in the other order has a lower power that is 0
  pub nilpotent-trace : (p n : ℕ) (u : Matrix R n n) → matrix_power u p ≡ null → trace u ≡ R.zero
  nilpotent-trace zero n u e =
      ap trace (sym (mul-unit u) ∙ ap (λ (x : Matrix R n n). u · x) (sym (matrix_power-zero u) ∙ e) ∙ mul-null u) ∙ trace-null n
  nilpotent-trace (suc p) n u e = ap trace f.is_product ∙ trace_comm b s ∙ nilpotent-trace p f.rank (s · b) lower
    where
      f : Factored u
      f = factored F n u

      b : Matrix R n f.rank
      b = f.basis

      s : Matrix R f.rank n
      s = f.coordinates

      s-choice : s · f.choice ≡ unit R f.rank
      s-choice = sym (unit-mul (s · f.choice)) ∙ ap (λ (x : Matrix R f.rank f.rank). x · (s · f.choice)) (sym f.is_left) ∙ mul_assoc f.left b (s · f.choice)
          ∙ ap (λ (x : Matrix R n f.rank). f.left · x) (sym (mul_assoc b s f.choice) ∙ ap (λ (x : Matrix R n n). x · f.choice) (sym f.is_product) ∙ sym f.is_chosen) ∙ f.is_left

      carried : s · matrix_power u p ≡ matrix_power (s · b) p · s
      carried = matrix_power-carried s u (s · b) (ap (λ (x : Matrix R n n). s · x) f.is_product ∙ sym (mul_assoc s b s)) p

      product-null : b · (matrix_power (s · b) p · s) ≡ null
      product-null = ap (λ (x : Matrix R f.rank n). b · x) (sym carried) ∙ sym (mul_assoc b s (matrix_power u p)) ∙ ap (λ (x : Matrix R n n). x · matrix_power u p) (sym f.is_product)
          ∙ sym (matrix_power-suc u p) ∙ e

      null-s : matrix_power (s · b) p · s ≡ null
      null-s = sym (unit-mul (matrix_power (s · b) p · s)) ∙ ap (λ (x : Matrix R f.rank f.rank). x · (matrix_power (s · b) p · s)) (sym f.is_left)
          ∙ mul_assoc f.left b (matrix_power (s · b) p · s) ∙ ap (λ (x : Matrix R n n). f.left · x) product-null ∙ mul-null f.left

      lower : matrix_power (s · b) p ≡ null
      lower = sym (mul-unit (matrix_power (s · b) p)) ∙ ap (λ (x : Matrix R f.rank f.rank). matrix_power (s · b) p · x) (sym s-choice)
          ∙ sym (mul_assoc (matrix_power (s · b) p) s f.choice) ∙ ap (λ (x : Matrix R f.rank n). x · f.choice) null-s ∙ null-mul f.choice
