-- A matrix that takes the conjugate family to the family stands for the generator up to a number that is not 0.
use Rattle.std.proofs.Common.{◌≡◌, sym, ◌∙◌, ap, ℕ, ◌<◌}
use Rattle.irr_algebra.specs.Field.{Field}
use Rattle.irr_algebra.specs.Matrix.{Matrix, ◌·◌, unit, scale}
use Rattle.irr_algebra.specs.Action.{IsIntertwiner, Equivalent, IsSimple}
use Rattle.irr_algebra.proofs.Rings.{zero-mul}
use Rattle.irr_algebra.proofs.Fields.{inverse-mul}
use Rattle.irr_algebra.proofs.Entries.{unit-ne-null}
use Rattle.irr_algebra.proofs.Matrices.{mul_assoc, unit-mul, mul-unit, null-mul, scale-mul, scale-scale, zero-scale}
use Rattle.irr_algebra.proofs.Actions.{mul-intertwines}
use Rattle.irr_algebra.proofs.Irreducible.{simple-scalar}
use Rattle.irr_theory.specs.Extension.{matrix_power}
use Rattle.irr_theory.specs.FactorSystem.{FactorSystem, Representation}
use Rattle.irr_clifford.specs.Subgroup.{Subgroup}
use Rattle.irr_clifford.specs.Cyclic.{CyclicQuotient, conjugate, power_phase, StandsForGenerator, HasScalar}
use Rattle.irr_clifford.specs.Roots.{number_power}
use Rattle.irr_clifford.proofs.Split.{bare}
use Rattle.irr_clifford.proofs.Representations.{lifted-bare, lifted-peak}
use Rattle.irr_clifford.proofs.Pieces.{backward-intertwines}
use Rattle.irr_clifford.proofs.Conjugates.{conjugates, lifted-conjugates, conjugates_period}
use Rattle.irr_clifford.proofs.Extended.{member-power}
use Rattle.irr_clifford.proofs.Roots.{number_power-mul, number_power-one, stands_by_root}
use Rattle.irr_clifford.proofs.Translates.{power-inverse}

module _ (F : Field) {T : FactorSystem F.ring} {H : Subgroup T} (Q : CyclicQuotient H) {d : ℕ} (D : Representation H.table d) where
  open F use {ring as R}

  power-intertwines : (u : Matrix R d d) → IsIntertwiner (conjugate Q D) D.at u → IsIntertwiner (conjugates Q D Q.index).at D.at (matrix_power u Q.index)
  power-intertwines u i = record {
    intertwines = λ n.
        ap (λ (m : Matrix R d d). m · matrix_power u Q.index) (sym (lifted-bare D n)) ∙ member-power Q D u i Q.index (bare H.table n)
        ∙ ap (λ (m : Matrix R d d). matrix_power u Q.index · m) (sym (lifted-conjugates Q D Q.index (bare H.table n)) ∙ lifted-bare (conjugates Q D Q.index) n);
  }

  -- its power is a number times that of the generator
  pub scalar_of : IsSimple D.at → (u : Matrix R d d) → IsIntertwiner (conjugate Q D) D.at u → (c : R.Carrier) × HasScalar Q D u c
  unfolding conjugates_period
  scalar_of simple u i = (c.0, record { intertwines = i; power = power_is })
    where
      e : Equivalent (conjugates Q D Q.index).at D.at
      e = conjugates_period Q D

      c : (c : R.Carrier) × (matrix_power u Q.index · e.backward ≡ scale R c (unit R d))
      c = simple-scalar F D.at simple (matrix_power u Q.index · e.backward)
          (mul-intertwines D.at (conjugates Q D Q.index).at D.at e.backward (matrix_power u Q.index) (backward-intertwines (conjugates Q D Q.index).at D.at e) (power-intertwines u i))

      power_is : matrix_power u Q.index ≡ scale R (R.mul c.0 (power_phase T Q.generator Q.index)) (D.at Q.top)
      power_is =
          sym (mul-unit (matrix_power u Q.index)) ∙ ap (λ (m : Matrix R d d). matrix_power u Q.index · m) (sym e.backward-forward) ∙ sym (mul_assoc (matrix_power u Q.index) e.backward e.forward)
          ∙ ap (λ (m : Matrix R d d). m · e.forward) c.1 ∙ scale-mul R c.0 (unit R d) e.forward ∙ ap (scale R c.0) (unit-mul e.forward)
          ∙ ap (scale R c.0) (lifted-peak Q D) ∙ scale-scale R c.0 (power_phase T Q.generator Q.index) (D.at Q.top)

  -- where the matrix has an inverse, this number is not 0
  pub scalar-ne-zero : 0 < d → (u w : Matrix R d d) (c : R.Carrier) → HasScalar Q D u c → u · w ≡ unit R d → c ≡ R.zero → ⊥
  scalar-ne-zero l u w c h e z = unit-ne-null F d l (
      sym (power-inverse u w e Q.index) ∙ ap (λ (m : Matrix R d d). m · matrix_power w Q.index) (h.power
      ∙ ap (λ k. scale R (R.mul k (power_phase T Q.generator Q.index)) (D.at Q.top)) z ∙ ap (λ k. scale R k (D.at Q.top)) (zero-mul R (power_phase T Q.generator Q.index)) ∙ zero-scale (D.at Q.top))
      ∙ null-mul (matrix_power w Q.index))

  -- and with a root of it the matrix over the root stands for the generator
  pub stands_over_root : (u : Matrix R d d) (c r : R.Carrier) → HasScalar Q D u c → (r ≡ R.zero → ⊥) → number_power R r Q.index ≡ c → StandsForGenerator Q D (scale R (F.inverse r) u)
  stands_over_root u c r h n e = stands_by_root Q D u c (F.inverse r) h (
      ap (R.mul (number_power R (F.inverse r) Q.index)) (sym e) ∙ sym (number_power-mul R (F.inverse r) r Q.index)
      ∙ ap (λ x. number_power R x Q.index) (inverse-mul F r n) ∙ number_power-one R Q.index)
