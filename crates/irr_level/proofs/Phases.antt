-- The phases of a table, and of the powers of its places, as powers of z.
--   lifted_place             the place of a power
--   phase_at                 the phase of a product
--   lifted_number, power_phase_at    the phase of a power
--   conjugate_at             the conjugate of a family
--   own_order                over the order of the table
use Rattle.std.specs.Prelude.{ℕ, zero, suc, ◌≡◌, ◌+◌, ◌*◌, ◌-◌, ◌/◌}
use Rattle.std.specs.Int.{◌∣◌}
use Rattle.std.proofs.Common.{sym, ◌∙◌, ap, ap₂, refl, arith}
use Rattle.irr_algebra.specs.Fin.{Fin}
use Rattle.std.proofs.Math.Nat.{div_self}
use Rattle.irr_algebra.specs.Matrix.{scale, trace}
use Rattle.irr_algebra.proofs.Matrices.{trace-scale}
use Rattle.irr_algebra.proofs.Rings.{one-mul}
use Rattle.irr_number.specs.Number.{numbers, root_power}
use Rattle.irr_number.proofs.Lifts.{lift-root_power}
use Rattle.irr_number.proofs.RootPowers.{root_power-mul, root_power-zero}
use Rattle.irr_theory.specs.FactorSystem.{Representation}
use Rattle.irr_theory.specs.Lifted.{lifted_product}
use Rattle.irr_eigen.specs.Step.{at_place, lifted_power}
use Rattle.irr_clifford.specs.Subgroup.{Subgroup}
use Rattle.irr_clifford.specs.Cyclic.{conjugate, CyclicQuotient, power_phase, place_power as table_power}
use Rattle.irr_space.specs.PhaseTable.{PhaseTable, exponents_below, phases_over, place_power}
use Rattle.irr_level.specs.Scalar.{conjugate_exponent, phase_number}

module _ {h : ℕ} (T : PhaseTable h) (M : ℕ) (v : T.order ∣ M) where
  pub lifted_place : (g : Fin h) (e : ℕ) → (lifted_power (at_place (phases_over T M v) g) e).place ≡ place_power T.start T.product g e
  unfolding lifted_power lifted_product place_power
  lifted_place g zero = refl
  lifted_place g (suc e) = ap (T.product g) (lifted_place g e)

  pub phase_at : (i j : Fin h) → (phases_over T M v).phase i j ≡ phase_number T M (T.exponent i j)
  phase_at i j = lift-root_power T.order M T.order_positive v (T.exponent i j)

  phase_number-add : (a b : ℕ) → (numbers M).mul (phase_number T M a) (phase_number T M b) ≡ phase_number T M (a + b)
  phase_number-add a b = root_power-mul M (M / T.order * a) (M / T.order * b) ∙ ap (root_power M) (distributed (M / T.order) a b)
    where
      distributed : (k a b : ℕ) → k * a + k * b ≡ k * (a + b)
      distributed k a b = omega arith

  pub lifted_number : (g : Fin h) (e : ℕ)
      → (lifted_power (at_place (phases_over T M v) g) e).number ≡ phase_number T M (exponents_below T.start T.product T.exponent g e)
  unfolding lifted_power lifted_product exponents_below
  lifted_number g zero = sym (ap (root_power M) (none (M / T.order)) ∙ root_power-zero M)
    where
      none : (k : ℕ) → k * 0 ≡ 0
      none k = omega arith
  lifted_number g (suc e) =
      ap₂ (numbers M).mul (one-mul (numbers M) (lifted_power (at_place (phases_over T M v) g) e).number ∙ lifted_number g e)
      (ap ((phases_over T M v).phase g) (lifted_place g e) ∙ phase_at g (place_power T.start T.product g e))
      ∙ phase_number-add (exponents_below T.start T.product T.exponent g e) (T.exponent g (place_power T.start T.product g e))

  table_power_at : (g : Fin h) (e : ℕ) → table_power (phases_over T M v) g e ≡ place_power T.start T.product g e
  unfolding table_power place_power
  table_power_at g zero = refl
  table_power_at g (suc e) = ap (T.product g) (table_power_at g e)

  pub power_phase_at : (g : Fin h) (e : ℕ) → power_phase (phases_over T M v) g e ≡ phase_number T M (exponents_below T.start T.product T.exponent g e)
  unfolding power_phase exponents_below
  power_phase_at g zero = sym (ap (root_power M) (none (M / T.order)) ∙ root_power-zero M)
    where
      none : (k : ℕ) → k * 0 ≡ 0
      none k = omega arith
  power_phase_at g (suc e) =
      ap₂ (numbers M).mul (power_phase_at g e) (ap ((phases_over T M v).phase g) (table_power_at g e) ∙ phase_at g (place_power T.start T.product g e))
      ∙ phase_number-add (exponents_below T.start T.product T.exponent g e) (T.exponent g (place_power T.start T.product g e))

  inverse_at : (i j : Fin h) → ((phases_over T M v).phase-invertible i j).inverse ≡ phase_number T M ((T.order - 1) * T.exponent i j)
  inverse_at i j = lift-root_power T.order M T.order_positive v ((T.order - 1) * T.exponent i j)

  module _ {H : Subgroup (phases_over T M v)} (Q : CyclicQuotient H) {d : ℕ} (D : Representation H.table d) (n : Fin H.table.places) where
    -- the exponent of the conjugate
    abbrev turned : ℕ
    turned = conjugate_exponent T (H.member n) Q.generator (H.member (Q.conj n))

    pub conjugate_at : conjugate Q D n
        ≡ scale (numbers M) (phase_number T M (conjugate_exponent T (H.member n) Q.generator (H.member (Q.conj n)))) (D.at (Q.conj n))
    unfolding conjugate
    conjugate_at = ap (λ k. scale (numbers M) k (D.at (Q.conj n)))
        (ap₂ (numbers M).mul (phase_at (H.member n) Q.generator) (inverse_at Q.generator (H.member (Q.conj n)))
        ∙ phase_number-add (T.exponent (H.member n) Q.generator) ((T.order - 1) * T.exponent Q.generator (H.member (Q.conj n))))

    pub conjugate_trace_at : trace (conjugate Q D n)
        ≡ (numbers M).mul (phase_number T M (conjugate_exponent T (H.member n) Q.generator (H.member (Q.conj n)))) (trace (D.at (Q.conj n)))
    conjugate_trace_at = ap trace conjugate_at ∙ trace-scale (numbers M) (phase_number T M turned) (D.at (Q.conj n))

pub own_order : {h : ℕ} (T : PhaseTable h) (x : ℕ) → phase_number T T.order x ≡ root_power T.order x
own_order T x = ap (λ k. root_power T.order (k * x)) (div_self T.order_positive) ∙ ap (root_power T.order) (let e : 1 * x ≡ x = omega arith in e)
