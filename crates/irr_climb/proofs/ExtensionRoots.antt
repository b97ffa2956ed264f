-- The other extensions, by roots of one.
--   index_divides            the index of a step divides the order of its numbers
--   step_roots               as many roots of one as the index says
--   other                    the extension by the multiple of the matrix at the generator by one of them
--   first_is, first_stands   the first extension and its matrix at the generator
--   other_is, other_at       what it is, and its matrices
--   other_first              the one for the root 1 is the first extension itself
use Rattle.std.proofs.Common.{◌≡◌, sym, ◌∙◌, ap, subst, refl, ℕ, suc, ◌*◌, ◌/◌, ◌<◌}
use native.Mathlib.Nat as Nat
use Rattle.std.specs.Int.{◌∣◌}
use Rattle.irr_algebra.specs.Ring.{Ring}
use Rattle.irr_algebra.specs.Fin.{Fin, to_nat}
use Rattle.irr_algebra.specs.Matrix.{Matrix, ◌·◌, scale}
use Rattle.irr_algebra.proofs.Matrices.{scale-mul, scale-one, scale-scale}
use Rattle.irr_number.specs.Number.{numbers, root_power}
use Rattle.irr_number.proofs.NumberField.{number_field}
use Rattle.irr_number.proofs.RootPowers.{root_power-zero}
use Rattle.irr_theory.specs.Extension.{matrix_power}
use Rattle.irr_theory.specs.FactorSystem.{FactorSystem, Representation}
use Rattle.irr_eigen.specs.Power.{power, IsPrimitiveRoot}
use Rattle.irr_eigen.specs.Step.{at_place, IsOutside, lifted_power as power_of}
use Rattle.irr_eigen.proofs.Primitive.{primitive_inj}
use Rattle.irr_eigen.proofs.Powers.{one-power, power_swap}
use Rattle.irr_eigen.proofs.Orders.{order-multiple}
use Rattle.irr_clifford.specs.Subgroup.{Subgroup}
use Rattle.irr_clifford.specs.Cyclic.{CyclicQuotient, IsExtension, StandsForGenerator}
use Rattle.irr_clifford.specs.Formulas.{extension_matrix, split_phase}
use Rattle.irr_clifford.specs.Roots.{number_power, RootsOfOne}
use Rattle.irr_clifford.proofs.Extended.{extended, extended-is}
use Rattle.irr_clifford.proofs.Formulas.{extension-matrix}
use Rattle.irr_clifford.proofs.Generator.{extension-stands}
use Rattle.irr_clifford.proofs.Roots.{matrix_power-scale, stands_times_root}
use Rattle.irr_clifford.proofs.Split.{index-positive, lifted_power-place, step}
use Rattle.irr_level.specs.Part.{as_part}
use Rattle.irr_level.proofs.OtherGenerator.{other_outside, same_power}
use Rattle.irr_level.proofs.ScalarRoots.{same_number_power}
use Rattle.irr_cyc.specs.declared.scalars.Scalar.{Ghosts}
use Rattle.irr_rep.specs.declared.family.Family.{Family}
use Rattle.irr_rep.specs.Twisted.{phase_table, place_count}
use Rattle.irr_rep.proofs.Cycles.{cycle_over}
use Rattle.irr_rep.proofs.ElementOrders.{place_order}
use Rattle.irr_rep.proofs.PrimitiveRoots.{power-root_power, primitive_over}
use Rattle.irr_climb.specs.declared.step.Step.{Step}
use Rattle.irr_climb.specs.Extensions.{exponent_root}
use Rattle.irr_climb.specs.Families.{IsRead}
use Rattle.irr_climb.specs.Steps.{IsStep, large, small}

module _ {R : Ring} {T : FactorSystem R} {H : Subgroup T} (Q : CyclicQuotient H) where
  generator_outside : IsOutside (as_part H) Q.generator Q.index
  generator_outside = subst (λ x. IsOutside (as_part H) x Q.index)
      (ap (T.product Q.generator) H.member-start ∙ T.product-start Q.generator) (other_outside Q H.table.start)

  top_place : H.member Q.top ≡ (power_of (at_place T Q.generator) Q.index).place
  top_place = sym (ap (λ x. x.place) (same_power T (step Q) Q.index) ∙ lifted_power-place T Q.generator Q.index ∙ Q.power-index)

  -- an order of the generator is a multiple of the index
  multiple : (order : ℕ) → 0 < order → (power_of (at_place T Q.generator) order).place ≡ T.start → Q.index ∣ order
  multiple order positive returns =
      let m = order-multiple (as_part H) Q.generator Q.index generator_outside Q.top top_place (index-positive Q) order positive returns in
      subst (λ k. Q.index ∣ k) (sym m.1) (Nat.dvd-mul_left Q.index (suc m.0))

  module _ {d : ℕ} (D : Representation H.table d) (u : Matrix R d d) (z : R.Carrier) (E K : Representation T d) (e : IsExtension Q D u E)
      (k : IsExtension Q D (scale R z u) K) where
    multiple_at : (x : Fin T.places) → K.at x ≡ scale R (number_power R z (to_nat (Q.exponent x))) (E.at x)
    unfolding extension_matrix
    multiple_at x =
        let n : ℕ = to_nat (Q.exponent x) in
        let s : R.Carrier = split_phase Q x in
        let y : R.Carrier = number_power R z n in
        let m : Matrix R d d = matrix_power u n · D.at (Q.part x) in
        extension-matrix Q D (scale R z u) K k x
        ∙ ap (scale R s) (ap (λ (a : Matrix R d d). a · D.at (Q.part x)) (matrix_power-scale R z u n)
        ∙ scale-mul R y (matrix_power u n) (D.at (Q.part x)))
        ∙ scale-scale R s y m ∙ ap (λ c. scale R c m) (R.mul_comm s y) ∙ sym (scale-scale R y s m)
        ∙ ap (scale R y) (sym (extension-matrix Q D u E e x))

module _ {M : ℕ} {step : Step} (is : IsStep M step) where
  pub index_divides : is.quotient.index ∣ M
  index_divides =
      let T = phase_table step.outer in
      let g = is.quotient.generator in
      let m = place_order T g in
      let made = cycle_over T M is.positive is.outer_divides g m.0 m.1 in
      let inside : is.quotient.index ∣ m.0 = subst (λ k. is.quotient.index ∣ k) made.1
      (multiple is.quotient made.0.order made.0.positive made.0.returns) in
      Nat.dvd_trans is.quotient.index (Nat.dvd_trans is.quotient.index inside (T.order_divides g m.0 m.1)) is.outer_divides

  -- the primitive root of the order of the index
  abbrev z : (numbers M).Carrier
  z = root_power M (M / is.quotient.index)

  primitive : IsPrimitiveRoot (numbers M) is.quotient.index z
  primitive = primitive_over is.quotient.index M (index-positive is.quotient) is.positive index_divides

  pub step_roots : RootsOfOne (numbers M) is.quotient.index
  step_roots = record {
    root = λ a. power (numbers M) z (to_nat a);
    power = λ a. same_number_power (numbers M) (power (numbers M) z (to_nat a)) is.quotient.index
        ∙ power_swap (numbers M) z (to_nat a) is.quotient.index
        ∙ ap (λ x. power (numbers M) x (to_nat a)) primitive.power-one ∙ one-power (numbers M) (to_nat a);
    injective = λ a b e. primitive_inj (number_field M is.positive) is.quotient.index z primitive a b e;
  }

  root_exponent : (a : Fin is.quotient.index) (x : Fin (place_count step.outer))
      → number_power (numbers M) (step_roots.root a) (to_nat (is.quotient.exponent x)) ≡ exponent_root is (to_nat a) x
  unfolding step_roots
  root_exponent a x =
      let n = to_nat (is.quotient.exponent x) in
      let q = M / is.quotient.index in
      same_number_power (numbers M) (power (numbers M) z (to_nat a)) n
      ∙ ap (λ y. power (numbers M) y n) (power-root_power M q (to_nat a)) ∙ power-root_power M (to_nat a * q) n
      ∙ ap (root_power M) (sym (Nat.mul_assoc n (to_nat a) q) ∙ ap (λ k. k * q) (Nat.mul_comm n (to_nat a)))

  module _ {d : ℕ} (D : Representation (small is) d) (E : Representation (large is) d) (at-member : (n : Fin (place_count step.inner))
      → E.at (is.part.place n) ≡ D.at n) where
    pub first_is : IsExtension is.quotient D (E.at is.quotient.generator) E
    first_is = record { at-member = at-member; at-generator = refl }

    pub first_stands : StandsForGenerator is.quotient D (E.at is.quotient.generator)
    first_stands = extension-stands is.quotient D (E.at is.quotient.generator) E first_is

    stands : (a : Fin is.quotient.index) → StandsForGenerator is.quotient D (scale (numbers M) (step_roots.root a) (E.at is.quotient.generator))
    stands a = stands_times_root is.quotient D (E.at is.quotient.generator) (step_roots.root a) first_stands (step_roots.power a)

    pub other : Fin is.quotient.index → Representation (large is) d
    other a = extended is.quotient D (scale (numbers M) (step_roots.root a) (E.at is.quotient.generator)) (stands a)

    pub other_is : (a : Fin is.quotient.index) → IsExtension is.quotient D (scale (numbers M) (step_roots.root a) (E.at is.quotient.generator))
        (other a)
    unfolding other
    other_is a = extended-is is.quotient D (scale (numbers M) (step_roots.root a) (E.at is.quotient.generator)) (stands a)

    pub other_at : (a : Fin is.quotient.index) (x : Fin (place_count step.outer)) → (other a).at x
        ≡ scale (numbers M) (exponent_root is (to_nat a) x) (E.at x)
    other_at a x = multiple_at is.quotient D (E.at is.quotient.generator) (step_roots.root a) E (other a) first_is (other_is a) x
        ∙ ap (λ c. scale (numbers M) c (E.at x)) (root_exponent a x)

    pub other_first : {S : Type 0} {G : Ghosts S} (f : Family S G) → IsRead M (large is) E f
        → (a : Fin is.quotient.index) → to_nat a ≡ 0 → IsRead M (large is) (other a) f
    other_first f read a e = record {
      size = read.size;
      shape = read.shape;
      matrices = λ x. read.matrices x ∙ sym (other_at a x ∙ ap (λ c. scale (numbers M) c (E.at x)) (none x) ∙ scale-one (E.at x));
    }
      where
        none : (x : Fin (place_count step.outer)) → exponent_root is (to_nat a) x ≡ (numbers M).one
        none x = ap (λ k. root_power M (k * to_nat (is.quotient.exponent x) * (M / is.quotient.index))) e
            ∙ ap (λ k. root_power M (k * (M / is.quotient.index))) (Nat.zero-mul (to_nat (is.quotient.exponent x)))
            ∙ ap (root_power M) (Nat.zero-mul (M / is.quotient.index)) ∙ root_power-zero M
