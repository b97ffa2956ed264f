-- The mean of the powers of a matrix: the projection on an eigenspace of a matrix with a power that is a number.
use Rattle.std.proofs.Common.{◌≡◌, sym, ◌∙◌, ap, ap₂, ℕ, zero, suc}
use Rattle.irr_algebra.specs.Ring.{Ring, whole}
use Rattle.irr_algebra.specs.Field.{Field}
use Rattle.irr_algebra.specs.Fin.{to_nat}
use Rattle.irr_algebra.specs.Sum.{sum}
use Rattle.irr_algebra.specs.Matrix.{Matrix, ◌·◌, ◌⊕◌, scale, unit, total}
use Rattle.irr_algebra.proofs.Rings.{add_cancel, add-mul, mul-zero, neg-mul, one-mul, eq_of_sub-zero}
use Rattle.irr_algebra.proofs.Fields.{inverse-mul, mul_cancel}
use Rattle.irr_algebra.proofs.Sums.{mul-sum}
use Rattle.irr_algebra.proofs.Matrices.{matrix-ext, mul_assoc, unit-mul, mul-null, mul-add, add-null, null-add, scale-mul, mul-scale, scale-scale, scale-one}
use Rattle.irr_algebra.proofs.Totals.{mul-total, total-mul, total-ext, total_same, total-none}
use Rattle.irr_theory.specs.Extension.{matrix_power}
use Rattle.irr_eigen.specs.Power.{power}
use Rattle.irr_eigen.proofs.Powers.{matrix_power-suc, matrix_power-zero, matrix_power-carried}

-- the powers of a number below n, added up
abbrev pub power_sum : (R : Ring) → ℕ → R.Carrier → R.Carrier
power_sum R n x = sum R n (λ j. power R x (to_nat j))

-- 1 + x (1 + .. + x^(n-1)) ends with x^n
power_sum-end : (R : Ring) (n : ℕ) (x : R.Carrier) → R.add R.one (R.mul x (power_sum R n x)) ≡ R.add (power_sum R n x) (power R x n)
unfolding sum power to_nat
power_sum-end R zero x = ap (R.add R.one) (mul-zero R x) ∙ R.add_comm R.one R.zero
power_sum-end R (suc n) x =
    let start : power_sum R (suc n) x ≡ R.add R.one (R.mul x (power_sum R n x)) = ap (R.add R.one) (sym (mul-sum R n x (λ j. power R x (to_nat j)))) in
    ap (λ s. R.add R.one (R.mul x s)) (start ∙ power_sum-end R n x) ∙ ap (R.add R.one) (R.mul-add x (power_sum R n x) (power R x n))
    ∙ sym (R.add_assoc R.one (R.mul x (power_sum R n x)) (R.mul x (power R x n))) ∙ ap (λ s. R.add s (R.mul x (power R x n))) (sym start)

-- the powers of a matrix below n, added up
abbrev pub powers : {R : Ring} {d : ℕ} → ℕ → Matrix R d d → Matrix R d d
powers n a = total n (λ j. matrix_power a (to_nat j))

powers-suc : {R : Ring} {d : ℕ} (n : ℕ) (a : Matrix R d d) → powers (suc n) a ≡ unit R d ⊕ a · powers n a
unfolding total sum to_nat matrix_power ◌⊕◌ ◌·◌
powers-suc {R} {d} n a = ap (λ (x : Matrix R d d). unit R d ⊕ x) (sym (mul-total n a (λ j. matrix_power a (to_nat j))))

add_assoc : {R : Ring} {m n : ℕ} (a b c : Matrix R m n) → a ⊕ b ⊕ c ≡ a ⊕ (b ⊕ c)
unfolding ◌⊕◌
add_assoc {R} a b c = matrix-ext (λ i j. R.add_assoc (a.at i j) (b.at i j) (c.at i j))

powers-end : {R : Ring} {d : ℕ} (n : ℕ) (a : Matrix R d d) → unit R d ⊕ a · powers n a ≡ powers n a ⊕ matrix_power a n
powers-end {R} {d} zero a =
    ap (λ (x : Matrix R d d). unit R d ⊕ a · x) (total-none (λ j. matrix_power a (to_nat j))) ∙ ap (λ (x : Matrix R d d). unit R d ⊕ x) (mul-null a) ∙ add-null (unit R d)
    ∙ sym (null-add (unit R d)) ∙ ap₂ (λ (x y : Matrix R d d). x ⊕ y) (sym (total-none (λ j. matrix_power a (to_nat j)))) (sym (matrix_power-zero a))
powers-end {R} {d} (suc n) a =
    ap (λ (x : Matrix R d d). unit R d ⊕ a · x) (powers-suc n a ∙ powers-end n a) ∙ ap (λ (x : Matrix R d d). unit R d ⊕ x) (mul-add a (powers n a) (matrix_power a n))
    ∙ sym (add_assoc (unit R d) (a · powers n a) (a · matrix_power a n)) ∙ ap₂ (λ (x y : Matrix R d d). x ⊕ y) (sym (powers-suc n a)) (sym (matrix_power-suc a n))

-- where the n-th power is 1, the sum of the powers below is fixed
pub mul-powers : {R : Ring} {d : ℕ} (n : ℕ) (a : Matrix R d d) → matrix_power a n ≡ unit R d → a · powers n a ≡ powers n a
unfolding ◌⊕◌
mul-powers {R} {d} n a e = matrix-ext (λ i j. add_cancel R ((unit R d).at i j) ((a · powers n a).at i j) ((powers n a).at i j)
    (ap (λ (x : Matrix R d d). x.at i j) (powers-end n a ∙ ap (λ (x : Matrix R d d). powers n a ⊕ x) e) ∙ R.add_comm ((powers n a).at i j) ((unit R d).at i j)))

module _ (F : Field) where
  open F use {ring as R}

  -- the powers of a root of 1 other than 1 cancel
  pub power_sum-zero : (n : ℕ) (x : R.Carrier) → power R x n ≡ R.one → (x ≡ R.one → ⊥) → power_sum R n x ≡ R.zero
  power_sum-zero n x e h =
      let s : R.Carrier = power_sum R n x in
      let fixed : R.mul x s ≡ s = add_cancel R R.one (R.mul x s) s (power_sum-end R n x ∙ ap (R.add s) e ∙ R.add_comm s R.one) in
      mul_cancel F (R.add x (R.neg R.one)) s R.zero (λ z. h (eq_of_sub-zero R x R.one z))
      (add-mul R x (R.neg R.one) s ∙ ap₂ R.add fixed (neg-mul R R.one s ∙ ap R.neg (one-mul R s)) ∙ R.add-neg s ∙ sym (mul-zero R (R.add x (R.neg R.one))))

  -- the mean of the powers of a
  abbrev pub mean : {d : ℕ} → ℕ → Matrix R d d → Matrix R d d
  mean n a = scale R (F.inverse (whole R n)) (powers n a)

  pub mul-mean : {d : ℕ} (n : ℕ) (a : Matrix R d d) → matrix_power a n ≡ unit R d → a · mean n a ≡ mean n a
  mul-mean n a e = mul-scale R (F.inverse (whole R n)) a (powers n a) ∙ ap (scale R (F.inverse (whole R n))) (mul-powers n a e)

  power-mean : {d : ℕ} (n : ℕ) (a : Matrix R d d) → matrix_power a n ≡ unit R d → (j : ℕ) → matrix_power a j · mean n a ≡ mean n a
  unfolding matrix_power
  power-mean n a e zero = unit-mul (mean n a)
  power-mean {d} n a e (suc j) = mul_assoc a (matrix_power a j) (mean n a) ∙ ap (λ (x : Matrix R d d). a · x) (power-mean n a e j) ∙ mul-mean n a e

  -- n-th parts, n times
  pub parts-whole : {l m : ℕ} (n : ℕ) (x : Matrix R l m) → scale R (F.inverse (whole R (suc n))) (scale R (whole R (suc n)) x) ≡ x
  parts-whole n x = scale-scale R (F.inverse (whole R (suc n))) (whole R (suc n)) x
      ∙ ap (λ c. scale R c x) (inverse-mul F (whole R (suc n)) (F.characteristic_zero n)) ∙ scale-one x

  pub mean_idempotent : {d : ℕ} (n : ℕ) (a : Matrix R d d) → matrix_power a (suc n) ≡ unit R d → mean (suc n) a · mean (suc n) a ≡ mean (suc n) a
  mean_idempotent {d} n a e =
      scale-mul R (F.inverse (whole R (suc n))) (powers (suc n) a) (mean (suc n) a)
      ∙ ap (scale R (F.inverse (whole R (suc n)))) (total-mul (suc n) (λ j. matrix_power a (to_nat j)) (mean (suc n) a)
      ∙ total-ext (suc n) (λ j. power-mean (suc n) a e (to_nat j)) ∙ total_same (suc n) (mean (suc n) a))
      ∙ parts-whole n (mean (suc n) a)

  -- what commutes with a commutes with the mean
  pub mean_comm : {d : ℕ} (n : ℕ) (a x : Matrix R d d) → a · x ≡ x · a → mean n a · x ≡ x · mean n a
  mean_comm {d} n a x e =
      scale-mul R (F.inverse (whole R n)) (powers n a) x
      ∙ ap (scale R (F.inverse (whole R n))) (total-mul n (λ j. matrix_power a (to_nat j)) x
      ∙ total-ext n (λ j. sym (matrix_power-carried x a a (sym e) (to_nat j))) ∙ sym (mul-total n x (λ j. matrix_power a (to_nat j))))
      ∙ sym (mul-scale R (F.inverse (whole R n)) x (powers n a))
