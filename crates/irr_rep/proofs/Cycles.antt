-- Over each order that N divides, the places of a table of phases have cycles.
--   exponents_over           the phases are powers of a primitive root of the order N
--   cycle_over               the cycle of a place
use Rattle.std.specs.Prelude.{ℕ, zero, suc, ◌≡◌, ◌<◌, ◌+◌, ◌*◌, ◌/◌}
use Rattle.std.specs.Int.{◌∣◌}
use Rattle.std.proofs.Common.{sym, ◌∙◌, ap, ap₂, refl, arith}
use native.Mathlib.Nat as Nat
use Rattle.irr_algebra.specs.Fin.{Fin}
use Rattle.irr_number.specs.Number.{numbers, root_power}
use Rattle.irr_number.proofs.Lifts.{lift-root_power}
use Rattle.irr_number.proofs.Primes.{cofactor}
use Rattle.irr_theory.specs.Lifted.{lifted_product}
use Rattle.irr_eigen.specs.Step.{Cycle, HasExponents, at_place, exponent_sum, lifted_power}
use Rattle.irr_eigen.proofs.Cycles.{cycle_of_exponents}
use Rattle.irr_space.specs.PhaseTable.{PhaseTable, IsPlaceOrder, place_power, exponents_below, phases_over}
use Rattle.irr_rep.proofs.PrimitiveRoots.{power-root_power, primitive_over}

module _ {h : ℕ} (T : PhaseTable h) (M : ℕ) (positive : 0 < M) (divides : T.order ∣ M) where
  -- z of the order N, as a number of order M
  abbrev pub root : (numbers M).Carrier
  root = root_power M (M / T.order)

  pub exponents_over : HasExponents (phases_over T M divides) T.order (root_power M (M / T.order)) T.exponent
  exponents_over = record {
    primitive = primitive_over T.order M T.order_positive positive divides;
    phase-power = λ i j. lift-root_power T.order M T.order_positive divides (T.exponent i j)
        ∙ ap (root_power M) (Nat.mul_comm (M / T.order) (T.exponent i j)) ∙ sym (power-root_power M (M / T.order) (T.exponent i j));
  }

  place-lifted_power : (g : Fin h) (n : ℕ) → (lifted_power (at_place (phases_over T M divides) g) n).place ≡ place_power T.start T.product g n
  unfolding lifted_power lifted_product place_power
  place-lifted_power g zero = refl
  place-lifted_power g (suc n) = ap (T.product g) (place-lifted_power g n)

  exponent_sum-below : (g : Fin h) (n : ℕ) → exponent_sum (phases_over T M divides) T.exponent g n ≡ exponents_below T.start T.product T.exponent g n
  unfolding exponent_sum exponents_below
  exponent_sum-below g zero = refl
  exponent_sum-below g (suc n) = ap₂ (λ a b. a + b) (exponent_sum-below g n) (ap (T.exponent g) (place-lifted_power g n))

  -- a place of the order m has a cycle of this length with powers of z
  pub cycle_over : (g : Fin h) (m : ℕ) → IsPlaceOrder T.start T.product g m
      → (cycle : Cycle (phases_over T M divides) g) × (cycle.order ≡ m)
      × (cycle.number ≡ root_power M (exponents_below T.start T.product T.exponent g m / m * (M / T.order)))
      × (cycle.root ≡ root_power M (T.order / m * (M / T.order)))
  cycle_over g m order =
      let y : (y : ℕ) × (exponents_below T.start T.product T.exponent g m ≡ m * y) =
      cofactor m (exponents_below T.start T.product T.exponent g m) (T.exponents_divided g m order) in
      let q : (q : ℕ) × (T.order ≡ m * q) = cofactor m T.order (T.order_divides g m order) in
      let made = cycle_of_exponents (phases_over T M divides) T.order
      (root_power M (M / T.order)) T.exponent g m q.0 y.0 exponents_over order.positive (above q.0 q.1) q.1
      (place-lifted_power g m ∙ order.power) (exponent_sum-below g m ∙ y.1) in (
        made.0,
        made.1,
        made.2 ∙ power-root_power M (M / T.order) y.0 ∙ ap (λ a. root_power M (a * (M / T.order)))
            (sym (Nat.div-eq_of_eq-mul_right order.positive y.1)),
        made.3 ∙ power-root_power M (M / T.order) q.0 ∙ ap (λ a. root_power M (a * (M / T.order)))
            (sym (Nat.div-eq_of_eq-mul_right order.positive q.1)),
      )
    where
      above : (q : ℕ) → T.order ≡ m * q → 0 < q
      above zero e = absurd (let p : 0 < T.order = T.order_positive in omega (arith, e))
      above (suc q) e = omega arith
