-- The traces of an extension as sums of roots, for a step in a table of phases.
--   more-below, more-few     the list of exponents that are more by one number, modulo N
--   step-top                 the member that the power of g n by the index is
--   top-power                its place, by the table's products
--   step-exponents           the exponents of the eigenvalues there, from those of the family
--   step-roots               the trace of an extension at g n is a sum of roots for these exponents
use Rattle.std.specs.Prelude.{ℕ, zero, suc, ◌≡◌, ◌<◌, ◌+◌, ◌*◌, ◌/◌, ◌%◌, ◌≤◌, List, length, map, All}
use Rattle.std.proofs.Common.{sym, ◌∙◌, ap, subst, arith}
use Rattle.std.proofs.Math.Nat as Nat
use Rattle.std.proofs.lemmas.List.{length-map}
use Rattle.irr_algebra.specs.Field.{Field}
use Rattle.irr_algebra.specs.Fin.{Fin}
use Rattle.irr_algebra.specs.Matrix.{scale}
use Rattle.irr_number.specs.Number.{numbers, root_power}
use Rattle.irr_number.proofs.NumberField.{number_field}
use Rattle.irr_number.proofs.Primes.{cofactor}
use Rattle.irr_theory.specs.FactorSystem.{Representation}
use Rattle.irr_theory.specs.Lifted.{lifted}
use Rattle.irr_eigen.specs.Eigenspace.{Occurs}
use Rattle.irr_eigen.specs.Power.{power, IsPrimitiveRoot}
use Rattle.irr_eigen.specs.Step.{at_place, lifted_power, top_matrix}
use Rattle.irr_eigen.proofs.Powers.{power-ne-zero}
use Rattle.irr_eigen.proofs.Primitive.{primitive-ne-zero}
use Rattle.irr_clifford.specs.FromTraces.{AreExtensionTraces}
use Rattle.irr_extension.specs.Exponents.{AddsUpRoots, times_in}
use Rattle.irr_extension.proofs.CosetSums.{coset_sum, coset_top}
use Rattle.irr_space.specs.PhaseTable.{exponents_below, IsPlaceOrder, PhaseTable, place_power}
use Rattle.irr_rep.proofs.Cycles.{exponents_over}
use Rattle.irr_rep.proofs.ElementOrders.{place_order}
use Rattle.irr_rep.proofs.PrimitiveRoots.{primitive_over}
use Rattle.irr_root.specs.CyclicStep.{ArePowerExponents, coset_place, inner_phases, IsCyclicStep, outer_phases}
use Rattle.irr_root.specs.Eigenvalues.{AreEigenExponents}
use Rattle.irr_root.proofs.ScaledOccurrences.{occurs-shifted, power-rest, shifted-below}
use Rattle.irr_root.proofs.StepPowers.{power-phase, power-place, power-sum}

-- the numbers of a list, each more by y, modulo N
pub more-below : (N o y : ℕ) (es vs : List ℕ) → o ≡ N → y < N → vs ≡ map (λ e. (e + y) % o) es → All (λ e. e < N) vs
more-below N o y es vs same below is = subst (All (λ e. e < N)) (sym (is ∙ ap (λ m. map (λ e. (e + y) % m) es) same)) (shifted-below N y below es)

pub more-few : (o y d : ℕ) (es vs : List ℕ) → vs ≡ map (λ e. (e + y) % o) es → length es ≡ d → d ≤ 48 → length vs ≤ 48
more-few o y d es vs is count few = subst (λ l. l ≤ 48) (sym (ap length is ∙ length-map es (λ e. (e + y) % o) ∙ count)) few

module _ {h k : ℕ} {T : PhaseTable h} {K : PhaseTable k} {members : List ℕ} {p g M : ℕ} (step : IsCyclicStep T K members p g M) where
  abbrev field : Field
  field = number_field M step.positive

  abbrev z : (numbers M).Carrier
  z = root_power M (M / T.order)

  primitive : IsPrimitiveRoot (numbers M) T.order (root_power M (M / T.order))
  primitive = primitive_over T.order M T.order_positive step.positive step.divides

  root-ne-zero : (e : ℕ) → power (numbers M) (root_power M (M / T.order)) e ≡ (numbers M).zero → ⊥
  root-ne-zero e = power-ne-zero (number_field M step.positive) (root_power M (M / T.order))
      (primitive-ne-zero (number_field M step.positive) T.order (root_power M (M / T.order)) T.order_positive primitive) e

  pub step-top : (n : Fin k) → (top : Fin k)
      × (step.part.place top ≡ (lifted_power (at_place (outer_phases step) (coset_place step n)) step.quotient.index).place)
  step-top n = coset_top step.quotient n

  pub top-power : (n top : Fin k) → step.part.place top ≡ (lifted_power (at_place (outer_phases step) (coset_place step n)) step.quotient.index).place
      → step.part.place top ≡ place_power T.start T.product (coset_place step n) p
  top-power n top e = e ∙ power-place T M step.positive step.divides (coset_place step n) step.quotient.index
      ∙ ap (place_power T.start T.product (coset_place step n)) step.index

  module _ {d : ℕ} (D : Representation (inner_phases step) d) (n : Fin k) where
    -- the phase of the power
    power-number : (y : ℕ) → y ≡ exponents_below T.start T.product T.exponent (coset_place step n) p % T.order
        → (lifted_power (at_place (outer_phases step) (coset_place step n)) step.quotient.index).number
        ≡ power (numbers M) (root_power M (M / T.order)) y
    power-number y is =
        power-phase T M step.positive step.divides (coset_place step n) step.quotient.index
        ∙ ap (λ q. power (numbers M) (root_power M (M / T.order)) (exponents_below T.start T.product T.exponent (coset_place step n) q)) step.index
        ∙ sym (power-rest T.order 0 T.order_positive (number_field M step.positive) (root_power M (M / T.order)) primitive.power-one root-ne-zero
        (exponents_below T.start T.product T.exponent (coset_place step n) p))
        ∙ ap (power (numbers M) (root_power M (M / T.order))) (sym is)

    at_top : (top : Fin k) (y : ℕ) → y ≡ exponents_below T.start T.product T.exponent (coset_place step n) p % T.order
        → top_matrix (outer_phases step) D (coset_place step n) step.quotient.index top
        ≡ scale (numbers M) (power (numbers M) (root_power M (M / T.order)) y) (D.at top)
    unfolding lifted
    at_top top y is = ap (λ c. scale (numbers M) c (D.at top)) (power-number y is)

    pub step-exponents : (top : Fin k) → step.part.place top
        ≡ (lifted_power (at_place (outer_phases step) (coset_place step n)) step.quotient.index).place
        → (y : ℕ) → y ≡ exponents_below T.start T.product T.exponent (coset_place step n) p % T.order → (es : List ℕ)
        → AreEigenExponents K.order (root_power M (M / K.order)) (D.at top) es → ArePowerExponents step D n (map (λ e. (e + y) % T.order) es)
    step-exponents top place y is es own =
        let at = subst (λ N. AreEigenExponents N (root_power M (M / N)) (D.at top) es) step.same_order own in
        let below : y < T.order = subst (λ x. x < T.order) (sym is) (Nat.mod-lt (exponents_below T.start T.product T.exponent
        (coset_place step n) p) T.order_positive) in
        record {
          top = top;
          place-top = place;
          occurs = λ a l. subst (λ v. Occurs v (power (numbers M) (root_power M (M / T.order)) a) (times_in a (map (λ e. (e + y) % T.order) es)))
              (sym (at_top top y is))
              (occurs-shifted T.order y below (number_field M step.positive) (root_power M (M / T.order)) primitive.power-one root-ne-zero
              (D.at top) es at.below at.occurs a l);
        }

    pub step-roots : (s : Fin k → (numbers M).Carrier) → AreExtensionTraces step.quotient D s → (es : List ℕ) → All (λ e. e < T.order) es
        → ArePowerExponents step D n es
        → AddsUpRoots (numbers M) (root_power M (M / T.order)) p (T.order / p) es (s n)
    step-roots s extension es below exponents =
        let o : (m : ℕ) × IsPlaceOrder T.start T.product (coset_place step n) m = place_order T (coset_place step n) in
        let y : (y : ℕ) × (exponents_below T.start T.product T.exponent (coset_place step n) o.0 ≡ o.0 * y)
        = cofactor o.0 (exponents_below T.start T.product T.exponent (coset_place step n) o.0) (T.exponents_divided (coset_place step n) o.0 o.1) in
        let q : (q : ℕ) × (T.order ≡ o.0 * q) = cofactor o.0 T.order (T.order_divides (coset_place step n) o.0 o.1) in
        subst (λ i. AddsUpRoots (numbers M) (root_power M (M / T.order)) i (T.order / i) es (s n)) step.index
        (coset_sum (number_field M step.positive) step.quotient D s extension n exponents.top exponents.place-top T.order (root_power M
        (M / T.order)) T.exponent
        o.0 q.0 y.0 (exponents_over T M step.positive step.divides) o.1.positive (above o.0 q.0 q.1) q.1
        (power-place T M step.positive step.divides (coset_place step n) o.0 ∙ o.1.power)
        (power-sum T M step.positive step.divides (coset_place step n) o.0 ∙ y.1) es below exponents.occurs).1
      where
        above : (m q : ℕ) → T.order ≡ m * q → 0 < q
        above m zero e = absurd (let l : 0 < T.order = T.order_positive in let none : m * 0 ≡ 0 = Nat.mul-zero m in omega (arith, e, l, none))
        above m (suc q) e = omega arith
