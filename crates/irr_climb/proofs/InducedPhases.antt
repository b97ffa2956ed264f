-- The phases of the blocks of an induced matrix, as powers of z.
--   table_power_at           a power of a place
--   block_phase_at, block_phase_power     the phase of the block b at x
use Rattle.std.specs.Prelude.{ℕ, zero, suc, ◌≡◌, ◌+◌, ◌*◌, ◌-◌, ◌/◌}
use Rattle.std.specs.Int.{◌∣◌}
use Rattle.std.proofs.Common.{sym, ◌∙◌, ap, ap₂, subst, refl, arith}
use native.Mathlib.Nat as Nat
use Rattle.irr_algebra.specs.Fin.{Fin, to_nat}
use Rattle.irr_number.specs.Number.{numbers, root_power}
use Rattle.irr_number.proofs.Lifts.{lift-root_power}
use Rattle.irr_number.proofs.RootPowers.{root_power-mul, root_power-zero}
use Rattle.irr_clifford.specs.Subgroup.{Subgroup}
use Rattle.irr_clifford.specs.Cyclic.{CyclicQuotient, place_power as table_power}
use Rattle.irr_clifford.specs.Formulas.{block_phase, coset, power_phase_back, split_phase}
use Rattle.irr_space.specs.PhaseTable.{PhaseTable, exponents_below, phases_over, place_power}
use Rattle.irr_canonical.specs.RootSum.{IsRootSum}
use Rattle.irr_canonical.proofs.RootSums.{IsRootSum-root}
use Rattle.irr_level.specs.Scalar.{phase_number}
use Rattle.irr_level.proofs.Phases.{phase_at, power_phase_at}

module _ {h : ℕ} (T : PhaseTable h) (M : ℕ) (v : T.order ∣ M) where
  number-add : (a b : ℕ) → (numbers M).mul (phase_number T M a) (phase_number T M b) ≡ phase_number T M (a + b)
  number-add a b = root_power-mul M (M / T.order * a) (M / T.order * b) ∙ ap (root_power M) (sym (Nat.mul-add (M / T.order) a b))

  pub table_power_at : (g : Fin h) (e : ℕ) → table_power (phases_over T M v) g e ≡ place_power T.start T.product g e
  unfolding table_power place_power
  table_power_at g zero = refl
  table_power_at g (suc e) = ap (T.product g) (table_power_at g e)

  inverse_at : (i j : Fin h) → ((phases_over T M v).phase-invertible i j).inverse ≡ phase_number T M ((T.order - 1) * T.exponent i j)
  inverse_at i j = lift-root_power T.order M T.order_positive v ((T.order - 1) * T.exponent i j)

  none : (k : ℕ) → k * 0 ≡ 0
  none k = omega arith

  -- the inverse of the phase of a power
  back_at : (g : Fin h) (e : ℕ)
      → power_phase_back (phases_over T M v) g e ≡ phase_number T M ((T.order - 1) * exponents_below T.start T.product T.exponent g e)
  unfolding power_phase_back exponents_below
  back_at g zero = sym (ap (root_power M) (ap (λ k. M / T.order * k) (none (T.order - 1)) ∙ none (M / T.order)) ∙ root_power-zero M)
  back_at g (suc e) =
      ap₂ (numbers M).mul (back_at g e)
      (ap (λ (p : Fin h). ((phases_over T M v).phase-invertible g p).inverse) (table_power_at g e) ∙ inverse_at g (place_power T.start T.product g e))
      ∙ number-add ((T.order - 1) * exponents_below T.start T.product T.exponent g e)
      ((T.order - 1) * T.exponent g (place_power T.start T.product g e))
      ∙ ap (phase_number T M)
      (sym (Nat.mul-add (T.order - 1) (exponents_below T.start T.product T.exponent g e) (T.exponent g (place_power T.start T.product g e))))

  module _ {H : Subgroup (phases_over T M v)} (Q : CyclicQuotient H) where
    -- the exponents of the generator with its powers below the e-th, added up
    abbrev pub power_sum : ℕ → ℕ
    power_sum e = exponents_below T.start T.product T.exponent Q.generator e

    split_at : (y : Fin h) → split_phase Q y
        ≡ phase_number T M ((T.order - 1) * (power_sum (to_nat (Q.exponent y)) + T.exponent (coset Q (Q.exponent y)) (H.member (Q.part y))))
    unfolding split_phase
    split_at y =
        let w = power_sum (to_nat (Q.exponent y)) in
        let b = T.exponent (coset Q (Q.exponent y)) (H.member (Q.part y)) in
        ap₂ (numbers M).mul (back_at Q.generator (to_nat (Q.exponent y))) (inverse_at (coset Q (Q.exponent y)) (H.member (Q.part y)))
        ∙ number-add ((T.order - 1) * w) ((T.order - 1) * b) ∙ ap (phase_number T M) (sym (Nat.mul-add (T.order - 1) w b))

    pub block_phase_at : (x : Fin h) (b : Fin Q.index) → (let y = T.product x (coset Q b) in
        block_phase Q x b ≡ phase_number T M (power_sum (to_nat b) + T.exponent x (coset Q b)
        + (T.order - 1) * (power_sum (to_nat (Q.exponent y)) + T.exponent (coset Q (Q.exponent y)) (H.member (Q.part y)))))
    unfolding block_phase
    block_phase_at x b =
        let y = T.product x (coset Q b) in
        let w = power_sum (to_nat b) in
        let k = T.exponent x (coset Q b) in
        ap₂ (numbers M).mul
        (ap₂ (numbers M).mul (power_phase_at T M v Q.generator (to_nat b)) (phase_at T M v x (coset Q b)) ∙ number-add w k)
        (split_at y)
        ∙ number-add (w + k) ((T.order - 1) * (power_sum (to_nat (Q.exponent y)) + T.exponent (coset Q (Q.exponent y)) (H.member (Q.part y))))

    -- it is a power of z
    pub block_phase_power : (x : Fin h) (b : Fin Q.index) → IsRootSum M 1 1 (block_phase Q x b)
    block_phase_power x b =
        let y = T.product x (coset Q b) in
        subst (IsRootSum M 1 1) (sym (block_phase_at x b))
        (IsRootSum-root M (M / T.order * (power_sum (to_nat b) + T.exponent x (coset Q b)
        + (T.order - 1) * (power_sum (to_nat (Q.exponent y)) + T.exponent (coset Q (Q.exponent y)) (H.member (Q.part y))))))
