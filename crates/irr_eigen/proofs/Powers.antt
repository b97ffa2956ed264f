-- Powers of numbers and of matrices.
use Rattle.std.proofs.Common.{◌≡◌, sym, ◌∙◌, ap, refl, ℕ, zero, suc, ◌+◌, ◌*◌, zero-add as zero-add_ℕ, suc-add, zero-mul as zero-mul_ℕ, suc-mul}
use Rattle.irr_algebra.specs.Ring.{Ring}
use Rattle.irr_algebra.specs.Field.{Field}
use Rattle.irr_algebra.specs.Fin.{Fin}
use Rattle.irr_algebra.specs.Fin.Fin.{first}
use Rattle.irr_algebra.specs.Matrix.{Matrix, ◌·◌, scale, unit}
use Rattle.irr_algebra.proofs.Rings.{one-mul, mul_left_comm}
use Rattle.irr_algebra.proofs.Fields.{mul-ne-zero, one-ne-zero}
use Rattle.irr_algebra.proofs.Sums.{sum-single, delta-refl}
use Rattle.irr_algebra.proofs.Matrices.{mul_assoc, unit-mul, mul-unit, scale-mul, mul-scale, scale-scale, scale-one, scale-at, unit-at, mul-at}
use Rattle.irr_theory.specs.Extension.{matrix_power}
use Rattle.irr_eigen.specs.Power.{power}

module _ (R : Ring) where
  pub power-zero : (x : R.Carrier) → power R x 0 ≡ R.one
  unfolding power
  power-zero x = refl

  pub power-suc : (x : R.Carrier) (n : ℕ) → power R x (suc n) ≡ R.mul x (power R x n)
  unfolding power
  power-suc x n = refl

  pub one-power : (n : ℕ) → power R R.one n ≡ R.one
  unfolding power
  one-power zero = refl
  one-power (suc n) = one-mul R (power R R.one n) ∙ one-power n

  pub mul-power : (x y : R.Carrier) (n : ℕ) → power R (R.mul x y) n ≡ R.mul (power R x n) (power R y n)
  unfolding power
  mul-power x y zero = sym (R.mul-one R.one)
  mul-power x y (suc n) = ap (R.mul (R.mul x y)) (mul-power x y n) ∙ R.mul_assoc x y (R.mul (power R x n) (power R y n))
      ∙ ap (R.mul x) (mul_left_comm R y (power R x n) (power R y n)) ∙ sym (R.mul_assoc x (power R x n) (R.mul y (power R y n)))

  pub power-add : (x : R.Carrier) (m n : ℕ) → power R x (m + n) ≡ R.mul (power R x m) (power R x n)
  unfolding power
  power-add x zero n = ap (power R x) (zero-add_ℕ n) ∙ sym (one-mul R (power R x n))
  power-add x (suc m) n = ap (power R x) (suc-add m n) ∙ ap (R.mul x) (power-add x m n) ∙ sym (R.mul_assoc x (power R x m) (power R x n))

  pub power-mul : (x : R.Carrier) (m n : ℕ) → power R x (m * n) ≡ power R (power R x n) m
  unfolding power
  power-mul x zero n = ap (power R x) (zero-mul_ℕ n)
  power-mul x (suc m) n = ap (power R x) (suc-mul m n) ∙ power-add x (m * n) n ∙ R.mul_comm (power R x (m * n)) (power R x n) ∙ ap (R.mul (power R x n)) (power-mul x m n)

-- powers of a power, in either order
pub power_swap : (R : Ring) (x : R.Carrier) (m n : ℕ) → power R (power R x m) n ≡ power R (power R x n) m
unfolding power
power_swap R x m zero = sym (one-power R m)
power_swap R x m (suc n) = ap (R.mul (power R x m)) (power_swap R x m n) ∙ sym (mul-power R x (power R x n) m)

pub power-ne-zero : (F : Field) (x : F.Carrier) → (x ≡ F.zero → ⊥) → (n : ℕ) → power F.ring x n ≡ F.zero → ⊥
unfolding power
power-ne-zero F x h zero = one-ne-zero F
power-ne-zero F x h (suc n) = mul-ne-zero F x (power F.ring x n) h (power-ne-zero F x h n)

-- matrices

pub matrix_power-zero : {R : Ring} {d : ℕ} (u : Matrix R d d) → matrix_power u 0 ≡ unit R d
unfolding matrix_power
matrix_power-zero u = refl

pub matrix_power-suc : {R : Ring} {d : ℕ} (u : Matrix R d d) (n : ℕ) → matrix_power u (suc n) ≡ u · matrix_power u n
unfolding matrix_power
matrix_power-suc u n = refl

-- where s carries u to w, it carries the powers
pub matrix_power-carried : {R : Ring} {m n : ℕ} (s : Matrix R m n) (u : Matrix R n n) (w : Matrix R m m) → s · u ≡ w · s
    → (j : ℕ) → s · matrix_power u j ≡ matrix_power w j · s
unfolding matrix_power
matrix_power-carried s u w e zero = mul-unit s ∙ sym (unit-mul s)
matrix_power-carried {R} {m} {n} s u w e (suc j) =
    sym (mul_assoc s u (matrix_power u j)) ∙ ap (λ (x : Matrix R m n). x · matrix_power u j) e ∙ mul_assoc w s (matrix_power u j)
    ∙ ap (λ (x : Matrix R m n). w · x) (matrix_power-carried s u w e j) ∙ sym (mul_assoc w (matrix_power w j) s)

pub matrix_power-scale : (R : Ring) {d : ℕ} (y : R.Carrier) (u : Matrix R d d) (j : ℕ) → matrix_power (scale R y u) j ≡ scale R (power R y j) (matrix_power u j)
unfolding matrix_power power
matrix_power-scale R {d} y u zero = sym (scale-one (unit R d))
matrix_power-scale R {d} y u (suc j) =
    ap (λ (x : Matrix R d d). scale R y u · x) (matrix_power-scale R y u j) ∙ scale-mul R y u (scale R (power R y j) (matrix_power u j))
    ∙ ap (scale R y) (mul-scale R (power R y j) u (matrix_power u j)) ∙ scale-scale R y (power R y j) (u · matrix_power u j)

-- the powers of a matrix of one entry
pub matrix_power-single : {R : Ring} (k : Matrix R 1 1) (j : ℕ) → (matrix_power k j).at first first ≡ power R (k.at first first) j
unfolding matrix_power power
matrix_power-single {R} k zero = unit-at R first first ∙ delta-refl R first
matrix_power-single {R} k (suc j) = mul-at k (matrix_power k j) first first ∙ sum-single R (λ i. R.mul (k.at first i) ((matrix_power k j).at i first))
    ∙ ap (R.mul (k.at first first)) (matrix_power-single k j)

pub unit-entry : (R : Ring) (c : R.Carrier) {n : ℕ} (i : Fin n) → (scale R c (unit R n)).at i i ≡ c
unit-entry R c {n} i = scale-at R c (unit R n) i i ∙ ap (R.mul c) (unit-at R i i ∙ delta-refl R i) ∙ R.mul-one c
