-- The trace at a place outside a subgroup as a sum of roots, from the character of the family on the subgroup.
--   place_multiplicity: the sums of the character are numbers of times
--   place_character_sum: where the exponents of the eigenvalues meet the sums of the character
use Rattle.std.proofs.Common.{◌≡◌, sym, ◌∙◌, ap, subst, ℕ, suc, ◌<◌, ◌*◌, ◌/◌, ◌%◌, ◌+◌, List, All}
use Rattle.std.proofs.Math.Nat as Nat
use Rattle.irr_algebra.specs.Ring.{Ring, whole}
use Rattle.irr_algebra.specs.Field.{Field}
use Rattle.irr_algebra.specs.Fin.{Fin, to_nat}
use Rattle.irr_algebra.specs.Matrix.{scale, trace, unit}
use Rattle.irr_theory.specs.FactorSystem.{FactorSystem, Representation}
use Rattle.irr_theory.specs.Extension.{matrix_power}
use Rattle.irr_theory.specs.Lifted.{lifted}
use Rattle.irr_eigen.specs.Power.{power, IsPrimitiveRoot}
use Rattle.irr_eigen.specs.Eigenspace.{IsMatrixRoot}
use Rattle.irr_eigen.specs.Step.{Cycle, HasExponents, IsOutside, IsStep, Subtable, at_place, cycle_numbers, exponent_sum, lifted_power, restricted, top_matrix}
use Rattle.irr_eigen.proofs.Cycles.{cycle_of_exponents}
use Rattle.irr_eigen.proofs.Extended.{family-step}
use Rattle.irr_eigen.proofs.Orders.{order-multiple}
use Rattle.irr_eigen.proofs.Powers.{one-power, power-mul}
use Rattle.irr_eigen.proofs.Steps.{step-matrix_root}
use Rattle.irr_extension.specs.Exponents.{AddsUpRoots, times_in}
use Rattle.irr_extension.specs.Occurrence.{occurrence_sum, power_at}
use Rattle.irr_extension.proofs.CharacterSums.{character_sum, multiplicity}
use Rattle.irr_extension.proofs.ExponentSums.{exponent-value, order_split, positive-product}
use Rattle.irr_extension.proofs.UnitPowers.{unit_power}

-- the m-th power of z^(k p) is 1 where z^(m p) is
power-multiple-one : (R : Ring) (z : R.Carrier) (k m p : ℕ) → power R z (m * p) ≡ R.one → power R (power R z (k * p)) m ≡ R.one
power-multiple-one R z k m p one =
    let swapped : m * (k * p) ≡ k * (m * p) = Nat.mul_left_comm m k p in
    sym (power-mul R z m (k * p)) ∙ ap (power R z) swapped ∙ power-mul R z k (m * p) ∙ ap (λ x. power R x k) one ∙ one-power R k

-- the matrix of the power of x, by the family on the subgroup
same_matrix : {R : Ring} {S T : FactorSystem R} (part : Subtable S T) {d : ℕ} (D : Representation S d) (E : Representation T d)
    → ((n : Fin S.places) → E.at (part.place n) ≡ D.at n) → (x : Fin T.places) (p : ℕ) (top other : Fin S.places) → other ≡ top
    → top_matrix T (restricted part E) x p other ≡ lifted D (power_at T x p top)
unfolding lifted restricted
same_matrix {R} {S} {T} part D E extends x p top other same = ap (scale R (lifted_power (at_place T x) p).number) (extends other ∙ ap D.at same)

module _ (F : Field) {S T : FactorSystem F.ring} (part : Subtable S T) {d : ℕ} (D : Representation S d) (E : Representation T d)
    (extends : (n : Fin S.places) → E.at (part.place n) ≡ D.at n) (x : Fin T.places) (p : ℕ) (top : Fin S.places) (pos : 0 < p)
    (in-s : part.place top ≡ (lifted_power (at_place T x) p).place) (outside : IsOutside part x p)
    (order : ℕ) (z : F.Carrier) (exponent : Fin T.places → Fin T.places → ℕ) (n q y : ℕ) (has : HasExponents T order z exponent) (n-pos : 0 < n)
    (q-pos : 0 < q) (n-order : order ≡ n * q) (back : (lifted_power (at_place T x) n).place ≡ T.start) (total : exponent_sum T exponent x n ≡ n * y) where
  open F use {ring as R}

  made : (cycle : Cycle T x) × (cycle.order ≡ n) × (cycle.number ≡ power R z y) × (cycle.root ≡ power R z q)
  made = cycle_of_exponents T order z exponent x n q y has n-pos q-pos n-order back total

  multiple : (m : ℕ) × (made.0.order ≡ suc m * p)
  multiple = order-multiple part x p outside top in-s pos made.0.order made.0.positive made.0.returns

  whole_order : order ≡ suc multiple.0 * q * p
  whole_order = order_split order n q multiple.0 p n-order (sym made.1 ∙ multiple.1)

  divided : order / p ≡ suc multiple.0 * q
  divided = ap (λ a. a / p) whole_order ∙ Nat.mul-div_cancel (suc multiple.0 * q) pos

  parts : order ≡ order / p * p
  parts = whole_order ∙ ap (λ a. a * p) (sym divided)

  positive : 0 < order / p
  positive = subst (λ k. 0 < k) (sym divided) (positive-product multiple.0 q q-pos)

  primitive : IsPrimitiveRoot R (order / p * p) z
  primitive = subst (λ k. IsPrimitiveRoot R k z) parts has.primitive

  given : IsMatrixRoot p R.one (lifted D (power_at T x p top)) (E.at x) (cycle_numbers made.0 (suc multiple.0))
  given =
      let h : IsStep part (restricted part E) x p R.one (E.at x) = family-step part E x p top in-s in
      subst (λ w. IsMatrixRoot p R.one w (E.at x) (cycle_numbers made.0 (suc multiple.0)))
      (same_matrix part D E extends x p top h.top (part.injective h.top top (h.place-top ∙ sym in-s)))
      (step-matrix_root F part (restricted part E) x p R.one (E.at x) h made.0 multiple.0 multiple.1 pos)

  unit_at_power : matrix_power (lifted D (power_at T x p top)) (order / p) ≡ unit R d
  unit_at_power =
      unit_power (lifted D (power_at T x p top)) (λ a. power R (cycle_numbers made.0 (suc multiple.0) a) p) given.eigenspaces (order / p) (λ a.
      ap (λ c. power R c (order / p))
      (exponent-value made.0 z q y multiple.0 p made.2 made.3 pos (ap (power R z) (sym whole_order) ∙ has.primitive.power-one) a)
      ∙ power-multiple-one R z ((y + to_nat a * q) % (suc multiple.0 * q)) (order / p) p (ap (power R z) (sym parts) ∙ has.primitive.power-one))

  pub place_multiplicity : (i : ℕ) → i < order / p
      → (k : ℕ) × (R.mul (whole R (order / p)) (whole R k) ≡ occurrence_sum S (λ j. trace (D.at j)) (power_at T x p top) z p (order / p) i)
  place_multiplicity i l =
      multiplicity F D (power_at T x p top) (E.at x) z p (order / p) pos positive primitive given.commute given.power-multiple unit_at_power i l

  pub place_character_sum : (es : List ℕ) → All (λ e. (e < order) × (e / p * p ≡ e)) es
      → ((i : ℕ) → i < order / p → R.mul (whole R (order / p)) (whole R (times_in (i * p) es))
      ≡ occurrence_sum S (λ k. trace (D.at k)) (power_at T x p top) z p (order / p) i)
      → AddsUpRoots R z p (order / p) es (trace (E.at x))
  place_character_sum es below counts =
      character_sum F D (power_at T x p top) (E.at x) z p (order / p) pos positive primitive given.commute given.power-multiple unit_at_power es
      (subst (λ k. All (λ e. (e < k) × (e / p * p ≡ e)) es) parts below) counts
