-- Over a field where the places have cycles, each scalar has its root.
--   scalar_root              the scalar of a matrix that takes the conjugate of a simple family to the family has its root
--   roots_of_one             there are as many roots of 1 as the index says
--   stands_exists            some matrix stands for the generator
--   choice_exists            a full list on the subgroup has a choice for the step up
use Rattle.std.proofs.Common.{◌≡◌, sym, ◌∙◌, ap, subst, refl, ℕ, zero, suc, ◌<◌, ◌⊎◌, arith}
use Rattle.std.proofs.Math.Nat.{mul_comm}
use Rattle.irr_algebra.specs.Ring.{Ring}
use Rattle.irr_algebra.specs.Field.{Field}
use Rattle.irr_algebra.specs.Fin.{Fin, to_nat}
use Rattle.irr_algebra.specs.Matrix.{Matrix, ◌·◌, null, scale, trace}
use Rattle.irr_algebra.specs.Action.{Equivalent, IsSimple}
use Rattle.irr_algebra.proofs.Rings.{zero-mul}
use Rattle.irr_algebra.proofs.Fields.{inverse-mul, mul-ne-zero, one-ne-zero}
use Rattle.irr_algebra.proofs.Entries.{unit-ne-null}
use Rattle.irr_algebra.proofs.Matrices.{mul-scale, null-mul, scale-null, scale-one, scale-scale, trace-scale}
use Rattle.irr_theory.specs.FactorSystem.{FactorSystem, Representation}
use Rattle.irr_theory.specs.Lifted.{lifted}
use Rattle.irr_theory.specs.Representations.{Representations, IsFull}
use Rattle.irr_theory.specs.Traces.{back}
use Rattle.irr_theory.proofs.Inverses.{mul-back}
use Rattle.irr_eigen.specs.Power.{power, IsPrimitiveRoot, Root}
use Rattle.irr_eigen.specs.Step.{at_place, Cycle, IsOutside, lifted_power as power_of}
use Rattle.irr_eigen.proofs.Primitive.{primitive-power, primitive_inj}
use Rattle.irr_eigen.proofs.Powers.{one-power, power_swap}
use Rattle.irr_eigen.proofs.Orders.{order-multiple}
use Rattle.irr_eigen.proofs.KeptSums.{step-root}
use Rattle.irr_clifford.specs.Subgroup.{Subgroup}
use Rattle.irr_clifford.specs.Cyclic.{CyclicQuotient, conjugate, power_phase, HasScalar, StandsForGenerator, IsExtension}
use Rattle.irr_clifford.specs.Roots.{number_power, RootsOfOne}
use Rattle.irr_clifford.specs.Climb.{ClimbChoice}
use Rattle.irr_clifford.proofs.Split.{index-positive, lifted_power-invertible, lifted_power-place, step}
use Rattle.irr_clifford.proofs.Representations.{steps-phase}
use Rattle.irr_clifford.proofs.Roots.{power-null, some_trace}
use Rattle.irr_clifford.proofs.ScalarOf.{scalar_of, scalar-ne-zero, stands_over_root}
use Rattle.irr_clifford.proofs.Extended.{extended, extended-is}
use Rattle.irr_clifford.proofs.Choice.{choice_of_roots, number_power-zero}
use Rattle.irr_level.specs.Part.{as_part}
use Rattle.irr_level.proofs.OtherGenerator.{other, other_matrix, other_outside, other_step, phase_free, same_power}

pub same_number_power : (R : Ring) (x : R.Carrier) (e : ℕ) → number_power R x e ≡ power R x e
unfolding number_power power
same_number_power R x zero = refl
same_number_power R x (suc e) = ap (R.mul x) (same_number_power R x e)

module _ (F : Field) where
  open F use {ring as R}

  not-null_of_multiple : {m n : ℕ} (c : R.Carrier) (a : Matrix R m n) → (c ≡ R.zero → ⊥) → scale R c a ≡ null → a ≡ null
  not-null_of_multiple c a n e =
      sym (scale-one a) ∙ ap (λ k. scale R k a) (sym (inverse-mul F c n)) ∙ sym (scale-scale R (F.inverse c) c a)
      ∙ ap (scale R (F.inverse c)) e ∙ scale-null R (F.inverse c)

  factor-ne-zero : (x y : R.Carrier) → R.mul x y ≡ R.one → x ≡ R.zero → ⊥
  factor-ne-zero x y e z = one-ne-zero F (sym e ∙ ap (λ k. R.mul k y) z ∙ zero-mul R y)

  module _ {T : FactorSystem R} {H : Subgroup T} (Q : CyclicQuotient H) where
    phase-power-ne-zero : power_phase T Q.generator Q.index ≡ R.zero → ⊥
    phase-power-ne-zero z =
        let h = lifted_power-invertible T Q.generator Q.index in
        factor-ne-zero (power_phase T Q.generator Q.index) h.inverse (ap (λ k. R.mul k h.inverse) (sym (steps-phase Q Q.index)) ∙ h.mul-inverse) z

    module _ {d : ℕ} (D : Representation H.table d) (l : 0 < d) where
      -- with a scalar other than 0 the matrix is not 0
      scaled-ne-null : (u : Matrix R d d) (c : R.Carrier) → HasScalar Q D u c → (c ≡ R.zero → ⊥) → u ≡ null → ⊥
      scaled-ne-null u c h n e =
          let top : D.at Q.top ≡ null = not-null_of_multiple (R.mul c (power_phase T Q.generator Q.index)) (D.at Q.top)
          (mul-ne-zero F c (power_phase T Q.generator Q.index) n phase-power-ne-zero) (sym h.power ∙ power-null u Q.index (index-positive Q) e) in
          unit-ne-null F d l (sym (mul-back D Q.top) ∙ ap (λ (m : Matrix R d d). m · back D Q.top) top ∙ null-mul (back D Q.top))

      other-trace : (u : Matrix R d d) (n : Fin H.table.places) → (trace (u · D.at n) ≡ R.zero → ⊥) → trace (u · lifted D (phase_free Q n)) ≡ R.zero → ⊥
      unfolding lifted
      other-trace u n t e =
          let k : R.Carrier = (T.phase-invertible Q.generator (H.member n)).inverse in
          mul-ne-zero F k (trace (u · D.at n))
          (factor-ne-zero k (T.phase Q.generator (H.member n)) (R.mul_comm k (T.phase Q.generator (H.member n))
          ∙ (T.phase-invertible Q.generator (H.member n)).mul-inverse)) t
          (sym (trace-scale R k (u · D.at n)) ∙ ap trace (sym (mul-scale R k u (D.at n))) ∙ e)

      pub scalar_root : (Q.index ≡ 2) ⊎ (Q.index ≡ 3) → IsSimple D.at → ((x : Fin T.places) → Cycle T x)
          → (u : Matrix R d d) (c : R.Carrier) → HasScalar Q D u c → (c ≡ R.zero → ⊥) → (r : R.Carrier) × (number_power R r Q.index ≡ c)
      scalar_root small simple cycles u c h n =
          let t = some_trace F Q D l simple u (scaled-ne-null u c h n) in
          let r : Root R Q.index c = step-root F (as_part H) D (other Q t.0) Q.index c (other_matrix Q D u t.0) small
          (other_outside Q t.0) (other_step Q D u c h t.0)
          (cycles (other Q t.0)) (other-trace u t.0 t.1) in
          (r.root, same_number_power R r.root Q.index ∙ r.root-power)

      -- a matrix that stands for the generator, and an extension by it
      pub stands_exists : (Q.index ≡ 2) ⊎ (Q.index ≡ 3) → IsSimple D.at → ((x : Fin T.places) → Cycle T x) → Equivalent (conjugate Q D) D.at
          → (u : Matrix R d d) × StandsForGenerator Q D u
      stands_exists small simple cycles e =
          let c = scalar_of F Q D simple e.forward e.is_intertwiner in
          let n : c.0 ≡ R.zero → ⊥ = scalar-ne-zero F Q D l e.forward e.backward c.0 c.1 e.forward-backward in
          let r = scalar_root small simple cycles e.forward c.0 c.1 n in (
            scale R (F.inverse r.0) e.forward,
            stands_over_root F Q D e.forward c.0 r.0 c.1 (λ z. n (sym r.1
                ∙ ap (λ x. number_power R x Q.index) z ∙ number_power-zero R Q.index (index-positive Q))) r.1,
          )

      pub extension_exists : (Q.index ≡ 2) ⊎ (Q.index ≡ 3) → IsSimple D.at → ((x : Fin T.places) → Cycle T x) → Equivalent (conjugate Q D) D.at
          → (u : Matrix R d d) × StandsForGenerator Q D u × ((E : Representation T d) × IsExtension Q D u E)
      extension_exists small simple cycles e =
          let s = stands_exists small simple cycles e in
          (s.0, s.1, (extended Q D s.0 s.1, extended-is Q D s.0 s.1))

    generator_outside : IsOutside (as_part H) Q.generator Q.index
    generator_outside = subst (λ x. IsOutside (as_part H) x Q.index)
        (ap (T.product Q.generator) H.member-start ∙ T.product-start Q.generator) (other_outside Q H.table.start)

    top_place : H.member Q.top ≡ (power_of (at_place T Q.generator) Q.index).place
    top_place = sym (ap (λ x. x.place) (same_power T (step Q) Q.index) ∙ lifted_power-place T Q.generator Q.index ∙ Q.power-index)

    -- roots of 1, by the cycle of the generator
    pub roots_of_one : Cycle T Q.generator → RootsOfOne R Q.index
    roots_of_one cycle =
        let m = order-multiple (as_part H) Q.generator Q.index generator_outside Q.top top_place (index-positive Q) cycle.order cycle.positive cycle.returns in
        let above : 0 < suc m.0 = omega arith in
        let z : R.Carrier = power R cycle.root (suc m.0) in
        let primitive : IsPrimitiveRoot R Q.index z = primitive-power Q.index (suc m.0) cycle.root above
        (subst (λ n. IsPrimitiveRoot R n cycle.root) (m.1 ∙ mul_comm (suc m.0) Q.index) cycle.primitive) in
        record {
          root = λ a. power R z (to_nat a);
          power = λ a. same_number_power R (power R z (to_nat a)) Q.index ∙ power_swap R z (to_nat a) Q.index
              ∙ ap (λ x. power R x (to_nat a)) primitive.power-one ∙ one-power R (to_nat a);
          injective = λ a b e. primitive_inj F Q.index z primitive a b e;
        }

    pub choice_exists : (Q.index ≡ 2) ⊎ (Q.index ≡ 3) → ((x : Fin T.places) → Cycle T x) → (L : Representations H.table) → IsFull L → ClimbChoice Q L
    choice_exists small cycles L full = choice_of_roots F Q L full (roots_of_one (cycles Q.generator))
        (λ l u c h n. scalar_root (L.member l) (full.positive l) small (full.simple l) cycles u c h n)
