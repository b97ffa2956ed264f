-- The inverses of the matrices of a family.
use Rattle.std.proofs.Common.{◌≡◌, sym, ◌∙◌, ap, ap₂, ℕ, zero, suc}
use Rattle.irr_algebra.specs.Ring.{Ring, whole}
use Rattle.irr_algebra.specs.Field.{Field}
use Rattle.irr_algebra.specs.Fin.{Fin}
use Rattle.irr_algebra.specs.Matrix.{Matrix, ◌·◌, scale, unit, total}
use Rattle.irr_algebra.proofs.Matrices.{mul_assoc, unit-mul, mul-unit, scale-mul, mul-scale, scale-scale, scale-one}
use Rattle.irr_algebra.proofs.Totals.{total-permuted}
use Rattle.irr_theory.specs.FactorSystem.{FactorSystem, Representation}
use Rattle.irr_theory.specs.Traces.{back}

module _ {R : Ring} (T : FactorSystem R) where
  -- a place and its opposite have one phase in both orders
  pub phase-opposite : (i : Fin T.places) → T.phase (T.opposite i) i ≡ T.phase i (T.opposite i)
  phase-opposite i =
      sym (R.mul-one (T.phase (T.opposite i) i)) ∙ ap (R.mul (T.phase (T.opposite i) i)) (sym (ap (T.phase i) (T.opposite-product i) ∙ T.phase-start i))
      ∙ sym (T.phase_assoc i (T.opposite i) i)
      ∙ ap (R.mul (T.phase i (T.opposite i))) (ap (λ x. T.phase x i) (T.product-opposite i) ∙ T.start-phase i) ∙ R.mul-one (T.phase i (T.opposite i))

  -- going over k * i is going over i
  pub total-shifted : {p q : ℕ} (k : Fin T.places) (f : Fin T.places → Matrix R p q) → total T.places (λ i. f (T.product k i)) ≡ total T.places f
  total-shifted k f = total-permuted T.places (T.product k) (T.product (T.opposite k))
      (λ i. sym (T.product_assoc k (T.opposite k) i) ∙ ap (λ x. T.product x i) (T.product-opposite k) ∙ T.start-product i)
      (λ i. sym (T.product_assoc (T.opposite k) k i) ∙ ap (λ x. T.product x i) (T.opposite-product k) ∙ T.start-product i) f

module _ {R : Ring} {T : FactorSystem R} {d : ℕ} (A : Representation T d) where
  -- the number in `back`
  phase_back : Fin T.places → R.Carrier
  phase_back i = (T.phase-invertible i (T.opposite i)).inverse

  phase_back-phase : (i : Fin T.places) → scale R (phase_back i) (scale R (T.phase i (T.opposite i)) (unit R d)) ≡ unit R d
  unfolding phase_back
  phase_back-phase i =
      scale-scale R (phase_back i) (T.phase i (T.opposite i)) (unit R d)
      ∙ ap (λ c. scale R c (unit R d)) (R.mul_comm (phase_back i) (T.phase i (T.opposite i)) ∙ (T.phase-invertible i (T.opposite i)).mul-inverse) ∙ scale-one (unit R d)

  pub mul-back : (i : Fin T.places) → A.at i · back A i ≡ unit R d
  unfolding back phase_back
  mul-back i =
      mul-scale R (phase_back i) (A.at i) (A.at (T.opposite i))
      ∙ ap (scale R (phase_back i)) (A.at-product i (T.opposite i) ∙ ap (scale R (T.phase i (T.opposite i))) (ap A.at (T.product-opposite i) ∙ A.at-start))
      ∙ phase_back-phase i

  pub back-mul : (i : Fin T.places) → back A i · A.at i ≡ unit R d
  unfolding back phase_back
  back-mul i =
      scale-mul R (phase_back i) (A.at (T.opposite i)) (A.at i)
      ∙ ap (scale R (phase_back i)) (A.at-product (T.opposite i) i ∙ ap₂ (scale R) (phase-opposite T i) (ap A.at (T.opposite-product i) ∙ A.at-start))
      ∙ phase_back-phase i

  -- the inverse at a product, times the matrix at its first factor
  pub back-product-mul : (k i : Fin T.places) → back A (T.product k i) · A.at k ≡ scale R (T.phase k i) (back A i)
  back-product-mul k i =
      sym (mul-unit (back A (T.product k i) · A.at k)) ∙ ap (λ (x : Matrix R d d). back A (T.product k i) · A.at k · x) (sym (mul-back i))
      ∙ sym (mul_assoc (back A (T.product k i) · A.at k) (A.at i) (back A i))
      ∙ ap (λ (x : Matrix R d d). x · back A i) (mul_assoc (back A (T.product k i)) (A.at k) (A.at i) ∙ ap (λ (x : Matrix R d d). back A (T.product k i) · x) (A.at-product k i)
      ∙ mul-scale R (T.phase k i) (back A (T.product k i)) (A.at (T.product k i)) ∙ ap (scale R (T.phase k i)) (back-mul (T.product k i)))
      ∙ scale-mul R (T.phase k i) (unit R d) (back A i) ∙ ap (scale R (T.phase k i)) (unit-mul (back A i))

-- a table has places
pub places-ne-zero : (F : Field) (T : FactorSystem F.ring) → whole F.ring T.places ≡ F.zero → ⊥
places-ne-zero F T = go T.places T.start
  where
    go : (n : ℕ) → Fin n → whole F.ring n ≡ F.zero → ⊥
    go zero i = elim i [ ]
    go (suc n) i = F.characteristic_zero n
