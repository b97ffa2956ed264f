-- The eigenspaces of a matrix with a power that is a number.
use Rattle.std.proofs.Common.{◌≡◌, sym, ◌∙◌, ap, ap₂, refl, ℕ, zero, suc, ◌<◌, arith}
use mathlib.Core.Path.{fun_ext}
use Rattle.irr_algebra.specs.Ring.{Ring, whole}
use Rattle.irr_algebra.specs.Field.{Field}
use Rattle.irr_algebra.specs.Fin.{Fin, to_nat}
use Rattle.irr_algebra.specs.Fin.Fin.{first, next}
use Rattle.irr_algebra.specs.Sum.{sum, delta}
use Rattle.irr_algebra.specs.Matrix.{Matrix, ◌·◌, scale, unit, total, combination}
use Rattle.irr_algebra.proofs.Rings.{one-mul, mul-zero, mul_left_comm}
use Rattle.irr_algebra.proofs.Fields.{mul-inverse_left}
use Rattle.irr_algebra.proofs.Sums.{sum-ext, mul-sum, sum-one}
use Rattle.irr_algebra.proofs.Matrices.{scale-mul, mul-scale, scale-scale, scale-one}
use Rattle.irr_algebra.proofs.Totals.{scale-total, total-ext, combination-sum, combination-mul, combination-delta}
use Rattle.irr_theory.specs.Extension.{matrix_power}
use Rattle.irr_eigen.specs.Power.{power, IsPrimitiveRoot}
use Rattle.irr_eigen.specs.Eigenspace.{Eigenspaces}
use Rattle.irr_eigen.proofs.Powers.{power-zero, power-suc, one-power, mul-power, power_swap, matrix_power-scale}
use Rattle.irr_eigen.proofs.Means.{power_sum, power_sum-zero, mean, mul-mean, mean_idempotent, mean_comm, parts-whole}

-- an index is below its bound
pub to_nat-lt : {n : ℕ} (i : Fin n) → to_nat i < n
unfolding to_nat
to_nat-lt {n = zero} i = elim i [ ]
to_nat-lt {n = suc n} first = omega arith
to_nat-lt {n = suc n} (next i) = let l : to_nat i < n = to_nat-lt i in omega arith

-- the inverse of a primitive root is one
pub primitive-inverse : {R : Ring} {n : ℕ} (z y : R.Carrier) → R.mul z y ≡ R.one → IsPrimitiveRoot R n z → IsPrimitiveRoot R n y
primitive-inverse {R} {n} z y e h = record {
  power-one = both n h.power-one;
  lower = λ j l m o. h.lower j l m (sym (R.mul-one (power R z j)) ∙ ap (R.mul (power R z j)) (sym o) ∙ sym (mul-power R z y j) ∙ ap (λ x. power R x j) e ∙ one-power R j);
}
  where
    both : (j : ℕ) → power R z j ≡ R.one → power R y j ≡ R.one
    both j o = sym (one-mul R (power R y j)) ∙ ap (λ x. R.mul x (power R y j)) (sym o) ∙ sym (mul-power R z y j) ∙ ap (λ x. power R x j) e ∙ one-power R j

first_power : {R : Ring} {d : ℕ} (n : ℕ) (v : Matrix R d d) → matrix_power v (to_nat (first {n = n})) ≡ unit R d
unfolding to_nat matrix_power
first_power n v = refl

module _ (F : Field) where
  open F use {ring as R}

  -- the powers of a power of a primitive root add up to 0
  power_sum-primitive : (n : ℕ) (z : R.Carrier) → IsPrimitiveRoot R n z → (j : ℕ) → 0 < j → j < n → power_sum R n (power R z j) ≡ R.zero
  power_sum-primitive n z h j l m = power_sum-zero F n (power R z j) (power_swap R z j n ∙ ap (λ x. power R x j) h.power-one ∙ one-power R j) (h.lower j l m)

  power_sum-one : (n : ℕ) → power_sum R n R.one ≡ whole R n
  power_sum-one n = sum-ext R n (λ j. power R R.one (to_nat j)) (λ j. R.one) (λ j. one-power R (to_nat j)) ∙ sum-one R n

  -- the j-th powers of t times the powers of a primitive root add up to 0, but for j = 0
  sum-powers : (n : ℕ) (t z : R.Carrier) → IsPrimitiveRoot R (suc n) z → (j : Fin (suc n))
      → sum R (suc n) (λ i. power R (R.mul t (power R z (to_nat i))) (to_nat j)) ≡ R.mul (whole R (suc n)) (delta R first j)
  unfolding to_nat delta
  sum-powers n t z h j =
      sum-ext R (suc n) (λ i. power R (R.mul t (power R z (to_nat i))) (to_nat j)) (λ i. R.mul (power R t (to_nat j)) (power R (power R z (to_nat j)) (to_nat i)))
      (λ i. mul-power R t (power R z (to_nat i)) (to_nat j) ∙ ap (R.mul (power R t (to_nat j))) (power_swap R z (to_nat i) (to_nat j)))
      ∙ sym (mul-sum R (suc n) (power R t (to_nat j)) (λ i. power R (power R z (to_nat j)) (to_nat i)))
      ∙ cases j
    where
      cases : (j : Fin (suc n)) → R.mul (power R t (to_nat j)) (power_sum R (suc n) (power R z (to_nat j))) ≡ R.mul (whole R (suc n)) (delta R first j)
      cases first = ap₂ R.mul (power-zero R t) (ap (power_sum R (suc n)) (power-zero R z) ∙ power_sum-one (suc n))
          ∙ one-mul R (whole R (suc n)) ∙ sym (R.mul-one (whole R (suc n)))
      cases (next j) = let l : to_nat j < n = to_nat-lt j in
          ap (R.mul (power R t (suc (to_nat j)))) (power_sum-primitive (suc n) z h (suc (to_nat j)) (omega arith) (omega arith))
          ∙ mul-zero R (power R t (suc (to_nat j))) ∙ sym (mul-zero R (whole R (suc n)))

  -- the inverse of t times the i-th power of z
  abbrev pub value_inverse : (n : ℕ) → R.Carrier → R.Carrier → Fin (suc n) → R.Carrier
  value_inverse n t z i = R.mul (F.inverse t) (power R (power R z n) (to_nat i))

  pub mul-value_inverse : (n : ℕ) (t z : R.Carrier) → (t ≡ R.zero → ⊥) → IsPrimitiveRoot R (suc n) z → (i : Fin (suc n))
      → R.mul (R.mul t (power R z (to_nat i))) (value_inverse n t z i) ≡ R.one
  mul-value_inverse n t z ne h i =
      R.mul_assoc t (power R z (to_nat i)) (value_inverse n t z i) ∙ ap (R.mul t) (mul_left_comm R (power R z (to_nat i)) (F.inverse t) (power R (power R z n) (to_nat i)))
      ∙ mul-inverse_left F t (R.mul (power R z (to_nat i)) (power R (power R z n) (to_nat i))) ne
      ∙ sym (mul-power R z (power R z n) (to_nat i)) ∙ ap (λ x. power R x (to_nat i)) (sym (power-suc R z n) ∙ h.power-one) ∙ one-power R (to_nat i)

  -- v has a power that is the power of a number t: its eigenvalues are t times the roots of 1
  pub eigenspaces_of_power : {d : ℕ} (n : ℕ) (v : Matrix R d d) (t z : R.Carrier) → (t ≡ R.zero → ⊥) → IsPrimitiveRoot R (suc n) z
      → matrix_power v (suc n) ≡ scale R (power R t (suc n)) (unit R d) → Eigenspaces v (λ (i : Fin (suc n)). R.mul t (power R z (to_nat i)))
  eigenspaces_of_power {d} n v t z ne h e = record {
    projection = projection;
    projects = λ i. mean_idempotent F n (a i) (a-power i);
    eigen = eigen;
    commutes = λ i x c. mean_comm F (suc n) (a i) x (scale-mul R (y i) v x ∙ ap (scale R (y i)) c ∙ sym (mul-scale R (y i) x v));
    adds_up = adds_up;
  }
    where
      -- the inverse of z
      z' : R.Carrier
      z' = power R z n

      y : Fin (suc n) → R.Carrier
      y = value_inverse n t z

      a : Fin (suc n) → Matrix R d d
      a i = scale R (y i) v

      projection : Fin (suc n) → Matrix R d d
      projection i = mean F (suc n) (a i)

      h' : IsPrimitiveRoot R (suc n) z'
      h' = primitive-inverse z z' (sym (power-suc R z n) ∙ h.power-one) h

      powers-cancel : (i : Fin (suc n)) → R.mul (power R (y i) (suc n)) (power R t (suc n)) ≡ R.one
      powers-cancel i =
          sym (mul-power R (y i) t (suc n))
          ∙ ap (λ x. power R x (suc n)) (R.mul_comm (y i) t ∙ mul-inverse_left F t (power R z' (to_nat i)) ne)
          ∙ power_swap R z' (to_nat i) (suc n) ∙ ap (λ x. power R x (to_nat i)) h'.power-one ∙ one-power R (to_nat i)

      a-power : (i : Fin (suc n)) → matrix_power (a i) (suc n) ≡ unit R d
      a-power i =
          matrix_power-scale R (y i) v (suc n) ∙ ap (scale R (power R (y i) (suc n))) e ∙ scale-scale R (power R (y i) (suc n)) (power R t (suc n)) (unit R d)
          ∙ ap (λ c. scale R c (unit R d)) (powers-cancel i) ∙ scale-one (unit R d)

      eigen : (i : Fin (suc n)) → v · projection i ≡ scale R (R.mul t (power R z (to_nat i))) (projection i)
      eigen i =
          sym (scale-one (v · projection i)) ∙ ap (λ c. scale R c (v · projection i)) (sym (mul-value_inverse n t z ne h i))
          ∙ sym (scale-scale R (R.mul t (power R z (to_nat i))) (y i) (v · projection i))
          ∙ ap (scale R (R.mul t (power R z (to_nat i)))) (sym (scale-mul R (y i) v (projection i)) ∙ mul-mean F (suc n) (a i) (a-power i))

      v-powers : Fin (suc n) → Matrix R d d
      v-powers j = matrix_power v (to_nat j)

      sum-all : total (suc n) (λ i. combination R (suc n) (λ j. power R (y i) (to_nat j)) v-powers) ≡ scale R (whole R (suc n)) (unit R d)
      sum-all =
          sym (combination-sum R (suc n) (suc n) (λ i j. power R (y i) (to_nat j)) v-powers)
          ∙ ap (λ (c : Fin (suc n) → R.Carrier). combination R (suc n) c v-powers) (fun_ext (λ j. sum-powers n (F.inverse t) z' h' j))
          ∙ combination-mul R (suc n) (whole R (suc n)) (delta R first) v-powers
          ∙ ap (scale R (whole R (suc n))) (combination-delta (suc n) first v-powers ∙ first_power n v)

      adds_up : total (suc n) projection ≡ unit R d
      adds_up =
          total-ext (suc n) (λ i. ap (scale R (F.inverse (whole R (suc n)))) (total-ext (suc n) (λ j. matrix_power-scale R (y i) v (to_nat j))))
          ∙ sym (scale-total R (suc n) (F.inverse (whole R (suc n))) (λ i. combination R (suc n) (λ j. power R (y i) (to_nat j)) v-powers))
          ∙ ap (scale R (F.inverse (whole R (suc n)))) sum-all ∙ parts-whole F n (unit R d)

  -- the projection is the mean of the powers of v over the eigenvalue
  pub projection-mean : {d : ℕ} (n : ℕ) (v : Matrix R d d) (t z : R.Carrier) (ne : t ≡ R.zero → ⊥) (h : IsPrimitiveRoot R (suc n) z)
      (e : matrix_power v (suc n) ≡ scale R (power R t (suc n)) (unit R d)) (i : Fin (suc n))
      → (eigenspaces_of_power n v t z ne h e).projection i ≡ mean F (suc n) (scale R (value_inverse n t z i) v)
  unfolding eigenspaces_of_power
  projection-mean n v t z ne h e i = refl
