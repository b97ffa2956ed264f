-- What the program reads of a step and of traces.
--   root_reduced             an exponent reduced by the order of a table
--   traces_small             traces are small numbers
--   exponent_at, part_at, part_within        the exponent and the part of a place
--   trace_at                 the trace at a product of g n with a member
--   factor_is, term_of       the number by which a matrix is multiplied, and the multiple
--   inverse_power            the inverse of a phase
--   product_is               the matrix at a product with g
--   read_item, family_item   a matrix of a family
use Rattle.std.proofs.Common.{◌≡◌, sym, ◌∙◌, ap, ap₂, subst, ℕ, ◌-◌, ◌*◌, ◌/◌, ◌%◌, ◌<◌, List, get_or, slice_index}
use Rattle.std.specs.Int.{◌∣◌}
use Rattle.irr_algebra.specs.Fin.{Fin, to_nat}
use Rattle.irr_algebra.specs.Matrix.{◌·◌, scale, trace}
use Rattle.irr_algebra.proofs.Indices.{from_nat, to_nat-from_nat, to_nat-lt}
use Rattle.irr_algebra.proofs.Matrices.{scale-one, scale-scale}
use Rattle.irr_number.specs.Number.{Number, numbers, root_power}
use Rattle.irr_number.proofs.Lifts.{lift-root_power}
use Rattle.irr_theory.specs.FactorSystem.{FactorSystem, Representation}
use Rattle.irr_canonical.specs.RootSum.{IsRootSum}
use Rattle.irr_canonical.proofs.RootSums.{IsRootSum-more, IsRootSum-root}
use Rattle.irr_level.specs.Scalar.{phase_number}
use Rattle.irr_rep.specs.Twisted.{phase_table, place_count}
use Rattle.irr_cyc.specs.declared.scalars.Scalar.{Ghosts}
use Rattle.irr_mat.specs.declared.matrices.Mat.{Mat}
use Rattle.irr_rep.specs.declared.family.Family.{Family}
use Rattle.irr_rep.specs.Defects.{IsMatrix}
use Rattle.irr_rep.proofs.MatrixForms.{item-matrix}
use Rattle.irr_rep.proofs.TraceRoots.{trace-IsRootSum}
use Rattle.irr_char.specs.Characters.{IsSmallRow}
use Rattle.irr_char.proofs.AverageTerms.{item-value}
use Rattle.irr_root.proofs.TurnedTraces.{read_at}
use Rattle.irr_climb.specs.declared.step.Step.{Step}
use Rattle.irr_climb.specs.Extensions.{HasTraces, term_exponent, trace_factor, trace_term}
use Rattle.irr_climb.specs.Families.{IsRead}
use Rattle.irr_climb.specs.Steps.{IsStep, large, small}
use Rattle.irr_climb.proofs.ExtensionPlaces.{coset_product}
use Rattle.irr_climb.proofs.ExtensionTerms.{root_over}

pub root_reduced : (N M : ℕ) → 0 < N → N ∣ M → (x : ℕ) → root_power M (x % N * (M / N)) ≡ root_power M (M / N * x)
root_reduced N M positive v x = root_over N M positive v x ∙ lift-root_power N M positive v x

-- a matrix of a family that is read
pub read_item : {S : Type 0} {G : Ghosts S} {M : ℕ} (P : FactorSystem (numbers M)) {d : ℕ} (D : Representation P d) (f : Family S G)
    → IsRead M P D f → (k : ℕ) (m : Mat S G) → k < P.places → m ≡ get_or f.mats.items k m
    → (i : Fin P.places) → to_nat i ≡ k → IsMatrix M d (D.at i) m
read_item {M = M} P {d = d} D f r k m l e i q =
    subst (λ a. IsMatrix M d a m) (r.matrices i)
    (item-matrix M d f.mats.items k m (subst (λ j. k < j) (sym r.shape.count) l) e r.shape i q)

module _ {S : Type 0} (order : S → ℕ) (value : (n : ℕ) → S → Number n) {M : ℕ} {step : Step} (is : IsStep M step) {d : ℕ} (E : Representation
    (large is) d)
    (traces : List S) (h : HasTraces order value is E traces) where
  pub traces_small : IsSmallRow order value M (place_count step.inner) traces
  traces_small = record {
    count = h.row.count;
    orders = h.row.orders;
    small = λ n. subst (IsRootSum M 48 1) (sym (h.row.numbers_at n)) (IsRootSum-more M 48 h.few
        (trace-IsRootSum M is.positive (phase_table step.outer) is.outer_divides E ((phase_table step.outer).product is.quotient.generator
        (is.part.place n))));
  }

  -- the part of the product of p and the member q
  abbrev pub part_of : Fin (place_count step.outer) → Fin (place_count step.inner) → Fin (place_count step.inner)
  part_of p q = is.quotient.part ((phase_table step.outer).product p (is.part.place q))

  module _ (p : Fin (place_count step.outer)) (q : Fin (place_count step.inner)) (k r : ℕ) (product : k
      ≡ to_nat ((phase_table step.outer).product p (is.part.place q)))
      (read : r ≡ slice_index step.parts.items k) where
    pub part_number : r ≡ to_nat (part_of p q)
    part_number = read ∙ ap (slice_index step.parts.items) product ∙ is.parts ((phase_table step.outer).product p (is.part.place q))

    pub part_below : r < place_count step.inner
    part_below = subst (λ j. j < place_count step.inner) (sym part_number) (to_nat-lt (part_of p q))

    pub trace_at : to_nat (is.quotient.exponent p) ≡ 1 → (y : S) → y ≡ get_or traces r y → value M y
        ≡ trace (E.at ((phase_table step.outer).product p (is.part.place q)))
    trace_at one y e =
        item-value order value M (place_count step.inner) traces traces_small r part_below y e (part_of p q) (sym part_number)
        ∙ h.row.numbers_at (part_of p q) ∙ ap (λ x. trace (E.at x)) (coset_product is.quotient is.two_or_three p one q)

  pub factor_is : (p : Fin (place_count step.outer)) (q : Fin (place_count step.inner)) (u t : Number M)
      → u ≡ phase_number (phase_table step.outer) M (term_exponent is p q) → t ≡ trace (E.at ((phase_table step.outer).product p (is.part.place q)))
      → (numbers M).mul u t ≡ trace_factor is E p q
  unfolding trace_factor
  factor_is p q u t a b = ap₂ (numbers M).mul a b

-- a matrix of a family
pub family_item : {S : Type 0} {G : Ghosts S} {M : ℕ} {step : Step} (is : IsStep M step) {d : ℕ} (D : Representation (small is) d) (f : Family S G)
    → IsRead M (small is) D f → (k : ℕ) (m : Mat S G) → k < place_count step.inner → m ≡ get_or f.mats.items k m
    → (i : Fin (place_count step.inner)) → to_nat i ≡ k → IsMatrix M d (D.at i) m
family_item {step = step} is {d = d} D f r k m l e i q = read_item (small is) D f r k m l e i q

pub term_of : {S : Type 0} {G : Ghosts S} {M : ℕ} {step : Step} (is : IsStep M step) {d : ℕ} (D : Representation (small is) d)
    (E : Representation (large is) d)
    (p : Fin (place_count step.outer)) (q : Fin (place_count step.inner)) (m : Mat S G)
    → IsMatrix M d (scale (numbers M) (trace_factor is E p q) (D.at ((phase_table step.inner).opposite q))) m → IsMatrix M d (trace_term is D E p q) m
unfolding trace_term
term_of is D E p q m h = h

-- the exponent and the part of a place
module _ {M : ℕ} {step : Step} (is : IsStep M step) (x k : ℕ) where
  pub exponent_at : k ≡ get_or step.exponents.items x k → (p : Fin (place_count step.outer)) → to_nat p ≡ x → k ≡ to_nat (is.quotient.exponent p)
  exponent_at e p a =
      let below = subst (λ j. j < place_count step.outer) a (to_nat-lt p) in
      read_at step.exponents.items x k e (subst (λ j. x < j) (sym is.exponents_count) below) ∙ ap (slice_index step.exponents.items) (sym a)
      ∙ is.exponents p

  pub part_at : k ≡ get_or step.parts.items x k → (p : Fin (place_count step.outer)) → to_nat p ≡ x → k ≡ to_nat (is.quotient.part p)
  part_at e p a =
      let below = subst (λ j. j < place_count step.outer) a (to_nat-lt p) in
      read_at step.parts.items x k e (subst (λ j. x < j) (sym is.parts_count) below) ∙ ap (slice_index step.parts.items) (sym a) ∙ is.parts p

  pub part_within : x < place_count step.outer → k ≡ get_or step.parts.items x k → k < place_count step.inner
  part_within below e =
      let p = from_nat (place_count step.outer) x below in
      subst (λ j. j < place_count step.inner) (sym (part_at e p (to_nat-from_nat (place_count step.outer) x below))) (to_nat-lt (is.quotient.part p))

module _ {M : ℕ} {step : Step} (is : IsStep M step) {d : ℕ} (E : Representation (large is) d) where
  -- the inverse of a phase is a power of z
  pub inverse_power : (x y : Fin (place_count step.outer)) → IsRootSum M 1 1 ((large is).phase-invertible x y).inverse
  inverse_power x y =
      let T = phase_table step.outer in
      let k = (T.order - 1) * T.exponent x y in
      subst (IsRootSum M 1 1) (sym (lift-root_power T.order M T.order_positive is.outer_divides k)) (IsRootSum-root M (M / T.order * k))

  -- the matrix at a product with g
  pub product_is : (y : Fin (place_count step.outer)) → (let g = is.quotient.generator in
      scale (numbers M) ((large is).phase-invertible g y).inverse (E.at g · E.at y) ≡ E.at ((large is).product g y))
  product_is y =
      let g = is.quotient.generator in
      let u = (large is).phase g y in
      let i = ((large is).phase-invertible g y).inverse in
      ap (scale (numbers M) i) (E.at-product g y) ∙ scale-scale (numbers M) i u (E.at ((large is).product g y))
      ∙ ap (λ k. scale (numbers M) k (E.at ((large is).product g y))) ((numbers M).mul_comm i u ∙ ((large is).phase-invertible g y).mul-inverse)
      ∙ scale-one (E.at ((large is).product g y))
