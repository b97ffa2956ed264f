-- The powers of a place outside the subgroup of a step.
--   power-place, power-phase      the power of a place in a factor system and in the table
--   top-number                    the member that the power of g n by the index is
use Rattle.std.specs.Prelude.{ℕ, zero, suc, ◌≡◌, ◌<◌, ◌+◌, ◌/◌}
use Rattle.std.specs.Int.{◌∣◌}
use Rattle.std.proofs.Common.{sym, ◌∙◌, ap, ap₂, refl}
use Rattle.irr_algebra.specs.Ring.{Ring}
use Rattle.irr_algebra.specs.Fin.{Fin}
use Rattle.irr_algebra.proofs.Rings.{one-mul}
use Rattle.irr_number.specs.Number.{numbers, root_power}
use Rattle.irr_theory.specs.FactorSystem.{FactorSystem}
use Rattle.irr_theory.specs.Lifted.{lifted_product}
use Rattle.irr_eigen.specs.Power.{power}
use Rattle.irr_eigen.specs.Step.{at_place, exponent_sum, HasExponents, lifted_power}
use Rattle.irr_eigen.proofs.Powers.{power-add}
use Rattle.irr_space.specs.PhaseTable.{exponents_below, PhaseTable, phases_over, place_power}
use Rattle.irr_rep.proofs.Cycles.{exponents_over}

-- the number of a power of g is z to the sum of the exponents
phase-sum : {R : Ring} (T : FactorSystem R) (order : ℕ) (z : R.Carrier) (x : Fin T.places → Fin T.places → ℕ) (g : Fin T.places)
    → HasExponents T order z x
    → (n : ℕ) → (lifted_power (at_place T g) n).number ≡ power R z (exponent_sum T x g n)
unfolding lifted_power lifted_product exponent_sum power
phase-sum T order z x g h zero = refl
phase-sum {R} T order z x g h (suc n) =
    ap₂ R.mul (one-mul R (lifted_power (at_place T g) n).number ∙ phase-sum T order z x g h n) (h.phase-power g (lifted_power (at_place T g) n).place)
    ∙ sym (power-add R z (exponent_sum T x g n) (x g (lifted_power (at_place T g) n).place))

module _ {h : ℕ} (T : PhaseTable h) (M : ℕ) (positive : 0 < M) (v : T.order ∣ M) (a : Fin h) where
  pub power-place : (n : ℕ) → (lifted_power (at_place (phases_over T M v) a) n).place ≡ place_power T.start T.product a n
  unfolding lifted_power lifted_product place_power
  power-place zero = refl
  power-place (suc n) = ap (T.product a) (power-place n)

  pub power-sum : (n : ℕ) → exponent_sum (phases_over T M v) T.exponent a n ≡ exponents_below T.start T.product T.exponent a n
  unfolding exponent_sum exponents_below
  power-sum zero = refl
  power-sum (suc n) = ap₂ (λ s t. s + t) (power-sum n) (ap (T.exponent a) (power-place n))

  pub power-phase : (n : ℕ) → (lifted_power (at_place (phases_over T M v) a) n).number
      ≡ power (numbers M) (root_power M (M / T.order)) (exponents_below T.start T.product T.exponent a n)
  power-phase n = phase-sum (phases_over T M v) T.order (root_power M (M / T.order)) T.exponent a (exponents_over T M positive v) n
      ∙ ap (power (numbers M) (root_power M (M / T.order))) (power-sum n)
