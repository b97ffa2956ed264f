-- A step on a twisted table meets the root law.
use Rattle.std.proofs.Common.{◌≡◌, sym, ◌∙◌, ap, subst, refl, ℕ, suc, ◌<◌, ◌*◌, arith}
use Rattle.std.proofs.Math.Nat.{mul_comm}
use mathlib.Core.Path.{fun_ext}
use Rattle.irr_algebra.specs.Field.{Field}
use Rattle.irr_algebra.specs.Fin.{Fin, to_nat}
use Rattle.irr_algebra.specs.Matrix.{Matrix, ◌·◌, scale, unit}
use Rattle.irr_algebra.proofs.Rings.{one-mul}
use Rattle.irr_algebra.proofs.Fields.{one-ne-zero, mul-ne-zero, mul_cancel, inverse-mul}
use Rattle.irr_algebra.proofs.Matrices.{scale-mul, mul-scale, scale-scale, scale-one}
use Rattle.irr_theory.specs.FactorSystem.{FactorSystem, Representation}
use Rattle.irr_theory.specs.Lifted.{Lifted, lifted, lifted_product}
use Rattle.irr_theory.specs.Extension.{matrix_power}
use Rattle.irr_eigen.specs.Power.{power, IsPrimitiveRoot}
use Rattle.irr_eigen.specs.Eigenspace.{Eigenspaces, IsMatrixRoot}
use Rattle.irr_eigen.specs.Step.{at_place, lifted_power, Cycle, Subtable, IsStep, top_matrix, cycle_numbers}
use Rattle.irr_eigen.proofs.Powers.{mul-power, power-mul, power-ne-zero, power_swap}
use Rattle.irr_eigen.proofs.Primitive.{power-zero_pos, primitive-power, primitive-ne-zero, primitive_inj}
use Rattle.irr_eigen.proofs.RootsOfOne.{eigenspaces_of_power}
use Rattle.irr_eigen.proofs.LiftedPowers.{lifted_power_comm, lifted_power-mul, lifted_power-ne-zero, phase-ne-zero, matrix_power-lifted, lifted-ext, in_table, in_table-power}

module _ (F : Field) where
  open F use {ring as R}

  -- a number other than 0 cancels
  scale_cancel : {m n : ℕ} (x : R.Carrier) (a b : Matrix R m n) → (x ≡ R.zero → ⊥) → scale R x a ≡ scale R x b → a ≡ b
  scale_cancel x a b h e =
      let undo : (y : Matrix R _ _) → scale R (F.inverse x) (scale R x y) ≡ y = λ y. scale-scale R (F.inverse x) x y ∙ ap (λ c. scale R c y) (inverse-mul F x h) ∙ scale-one y in
      sym (undo a) ∙ ap (scale R (F.inverse x)) e ∙ undo b

  place_comm : (T : FactorSystem R) (g : Fin T.places) (n : ℕ)
      → lifted_product (lifted_power (at_place T g) n) (at_place T g) ≡ lifted_product (at_place T g) (lifted_power (at_place T g) n)
  place_comm T g n = lifted_power_comm (at_place T g) n

  -- a place and its power have the same phases in both orders
  phase_comm : (T : FactorSystem R) (g : Fin T.places) (n : ℕ)
      → T.phase (lifted_power (at_place T g) n).place g ≡ T.phase g (lifted_power (at_place T g) n).place
  unfolding lifted_product
  phase_comm T g n =
      let x : Lifted T = lifted_power (at_place T g) n in
      mul_cancel F x.number (T.phase x.place g) (T.phase g x.place) (lifted_power-ne-zero F (at_place T g) (one-ne-zero F) n)
      (ap (λ y. R.mul y (T.phase x.place g)) (sym (R.mul-one x.number)) ∙ ap (λ (y : Lifted T). y.number) (lifted_power_comm (at_place T g) n) ∙ ap (λ y. R.mul y (T.phase g x.place)) (one-mul R x.number))

  module _ {S T : FactorSystem R} (part : Subtable S T) {d : ℕ} (D : Representation S d) (g : Fin T.places) (p : ℕ) (c : R.Carrier) (u : Matrix R d d) (h : IsStep part D g p c u)
      (cycle : Cycle T g) (m : ℕ) (order-multiple : cycle.order ≡ suc m * p) (p-pos : 0 < p) where
    -- the p-th power of g, with its place in S
    abbrev top : Lifted S
    top = record { number = (lifted_power (at_place T g) p).number; place = h.top }

    -- its matrix
    abbrev v : Matrix R d d
    v = top_matrix T D g p h.top

    top-in_table : in_table part top ≡ lifted_power (at_place T g) p
    top-in_table = lifted-ext refl h.place-top

    top-power : in_table part (lifted_power top (suc m)) ≡ lifted_power (at_place T g) cycle.order
    top-power = in_table-power part top (suc m) ∙ ap (λ (x : Lifted T). lifted_power x (suc m)) top-in_table ∙ sym (lifted_power-mul (at_place T g) (suc m) p)
        ∙ ap (lifted_power (at_place T g)) (sym order-multiple)

    top-start : lifted_power top (suc m) ≡ record { number = power R (power R cycle.number p) (suc m); place = S.start }
    top-start = lifted-ext
        (ap (λ (x : Lifted T). x.number) top-power ∙ cycle.phase-power ∙ ap (power R cycle.number) order-multiple ∙ power-mul R cycle.number (suc m) p)
        (part.injective (lifted_power top (suc m)).place S.start (ap (λ (x : Lifted T). x.place) top-power ∙ cycle.returns ∙ sym part.place-start))

    -- a power of v is a number
    v-power : matrix_power v (suc m) ≡ scale R (power R (power R cycle.number p) (suc m)) (unit R d)
    unfolding lifted
    v-power = matrix_power-lifted D top (suc m) ∙ ap (lifted D) top-start ∙ ap (scale R (power R (power R cycle.number p) (suc m))) D.at-start

    number-ne-zero : cycle.number ≡ R.zero → ⊥
    number-ne-zero e = lifted_power-ne-zero F (at_place T g) (one-ne-zero F) cycle.order
        (cycle.phase-power ∙ ap (λ x. power R x cycle.order) e ∙ power-zero_pos R cycle.order cycle.positive)

    root-ne-zero : cycle.root ≡ R.zero → ⊥
    root-ne-zero = primitive-ne-zero F cycle.order cycle.root cycle.positive cycle.primitive

    primitive : IsPrimitiveRoot R (suc m) (power R cycle.root p)
    primitive = primitive-power (suc m) p cycle.root p-pos (subst (λ n. IsPrimitiveRoot R n cycle.root) order-multiple cycle.primitive)

    -- p-th roots of the eigenvalues of v
    abbrev step_roots : Fin (suc m) → R.Carrier
    step_roots = cycle_numbers cycle (suc m)

    values : (i : Fin (suc m)) → R.mul (power R cycle.number p) (power R (power R cycle.root p) (to_nat i)) ≡ power R (step_roots i) p
    values i = sym (mul-power R cycle.number (power R cycle.root (to_nat i)) p ∙ ap (R.mul (power R cycle.number p)) (power_swap R cycle.root (to_nat i) p))

    eigenspaces : Eigenspaces v (λ i. power R (step_roots i) p)
    eigenspaces = subst (λ (x : Fin (suc m) → R.Carrier). Eigenspaces v x) (fun_ext values)
        (eigenspaces_of_power F m v (power R cycle.number p) (power R cycle.root p) (power-ne-zero F cycle.number number-ne-zero p) primitive v-power)

    commute : v · u ≡ u · v
    unfolding lifted lifted_product
    commute =
        let x : Lifted T = lifted_power (at_place T g) p in
        let place : part.place h.top ≡ x.place = h.place-top in
        let same : T.phase (part.place h.top) g ≡ T.phase g (part.place h.top) =
        ap (λ i. T.phase i g) place ∙ phase_comm T g p ∙ ap (λ i. T.phase g i) (sym place) in
        let carried : u · D.at h.top ≡ D.at h.top · u =
        scale_cancel (T.phase g (part.place h.top)) (u · D.at h.top) (D.at h.top · u) (phase-ne-zero F T g (part.place h.top))
        (ap (λ y. scale R y (u · D.at h.top)) (sym same) ∙ h.carries h.top h.top (ap (λ i. T.product i g) place ∙ ap (λ (y : Lifted T). y.place) (place_comm T g p) ∙ ap (λ i. T.product g i) (sym place))) in
        scale-mul R x.number (D.at h.top) u ∙ ap (scale R x.number) (sym carried) ∙ sym (mul-scale R x.number u (D.at h.top))

    -- what the root law asks
    pub step-matrix_root : IsMatrixRoot p c (top_matrix T D g p h.top) u (cycle_numbers cycle (suc m))
    step-matrix_root = record {
      commute = commute;
      power-multiple = h.power-multiple;
      not-zero = λ i. mul-ne-zero F cycle.number (power R cycle.root (to_nat i)) number-ne-zero (power-ne-zero F cycle.root root-ne-zero (to_nat i));
      eigenspaces = eigenspaces;
    }

    -- the eigenvalues are different
    pub step-different : (i j : Fin (suc m)) → power R (cycle_numbers cycle (suc m) i) p ≡ power R (cycle_numbers cycle (suc m) j) p → i ≡ j
    step-different i j e = primitive_inj F (suc m) (power R cycle.root p) primitive i j
        (mul_cancel F (power R cycle.number p) (power R (power R cycle.root p) (to_nat i)) (power R (power R cycle.root p) (to_nat j)) (power-ne-zero F cycle.number number-ne-zero p)
        (values i ∙ e ∙ sym (values j)))

    -- a primitive p-th root of 1
    pub step-primitive : IsPrimitiveRoot R p (power R cycle.root (suc m))
    step-primitive = primitive-power p (suc m) cycle.root below (subst (λ n. IsPrimitiveRoot R n cycle.root) (order-multiple ∙ mul_comm (suc m) p) cycle.primitive)
      where
        below : 0 < suc m
        below = omega arith
