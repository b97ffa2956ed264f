-- The sum of roots at a place from the character of a family on the subgroup.
--   multiplicity: these sums are numbers of times
--   character_sum: the sum over the exponents that they tell
use Rattle.std.proofs.Common.{◌≡◌, sym, ◌∙◌, ap, ap₂, refl, subst, ℕ, ◌<◌, ◌+◌, ◌-◌, ◌*◌, ◌/◌, List, All, arith}
use mathlib.Core.Path.{fun_ext}
use Rattle.std.proofs.Math.Nat as Nat
use Rattle.std.proofs.lemmas.List.Elements.{recursion_from_All}
use Rattle.irr_algebra.specs.Ring.{Ring, whole}
use Rattle.irr_algebra.specs.Field.{Field}
use Rattle.irr_algebra.specs.Fin.{Fin, to_nat}
use Rattle.irr_algebra.specs.Sum.{sum}
use Rattle.irr_algebra.specs.Matrix.{Matrix, ◌·◌, scale, trace, unit}
use Rattle.irr_algebra.proofs.Rings.{one-mul}
use Rattle.irr_algebra.proofs.Fields.{one-ne-zero}
use Rattle.irr_algebra.proofs.Indices.{from_nat, to_nat-from_nat, to_nat-lt, to_nat_inj}
use Rattle.irr_algebra.proofs.Matrices.{trace-scale}
use Rattle.irr_theory.specs.FactorSystem.{FactorSystem, Representation}
use Rattle.irr_theory.specs.Extension.{matrix_power}
use Rattle.irr_theory.specs.Lifted.{Lifted, lifted}
use Rattle.irr_eigen.specs.Power.{power, IsPrimitiveRoot}
use Rattle.irr_eigen.specs.Eigenspace.{Eigenspaces, IsMatrixRoot, IsSumOfRoots, Occurs}
use Rattle.irr_eigen.specs.ListSum.{AddsUp, occurrences}
use Rattle.irr_eigen.specs.Step.{lifted_power}
use Rattle.irr_eigen.proofs.KeptSums.{trace-root}
use Rattle.irr_eigen.proofs.LiftedPowers.{matrix_power-lifted}
use Rattle.irr_eigen.proofs.Powers.{one-power, power-add, power-mul, power-ne-zero, power_swap}
use Rattle.irr_eigen.proofs.Primitive.{primitive-ne-zero, primitive-power, primitive_inj}
use Rattle.irr_extension.specs.Exponents.{AddsUpRoots, times_in}
use Rattle.irr_extension.specs.Occurrence.{occurrence_sum}
use Rattle.irr_extension.proofs.ExponentLists.{exponents_of, indices_of, times-exponents}
use Rattle.irr_extension.proofs.ExponentSums.{sum_by_exponents}
use Rattle.irr_extension.proofs.RootSums.{list_sum_of}
use Rattle.irr_extension.proofs.UnitPowers.{occurs_by_mean, spaces_of_unit_power, times_by_mean}

-- the sum over the powers in terms of the character
mean-character : {R : Ring} {S : FactorSystem R} {d : ℕ} (D : Representation S d) (v : Lifted S) (z : R.Carrier) (p m i : ℕ)
    → sum R m (λ j. R.mul (power R (power R z ((m - i) * p)) (to_nat j)) (trace (matrix_power (lifted D v) (to_nat j))))
    ≡ occurrence_sum S (λ k. trace (D.at k)) v z p m i
unfolding occurrence_sum lifted
mean-character {R} {S} {d} D v z p m i = ap (sum R m) (fun_ext (λ j. ap₂ R.mul (sym (power-mul R z (to_nat j) ((m - i) * p)))
    (ap trace (matrix_power-lifted D v (to_nat j)) ∙ trace-scale R (lifted_power v (to_nat j)).number (D.at (lifted_power v (to_nat j)).place))))

module _ (F : Field) where
  open F use {ring as R}

  -- u is a root of v, whose m-th power is 1
  module _ {S : FactorSystem R} {d : ℕ} (D : Representation S d) (v : Lifted S) (u : Matrix R d d) (z : R.Carrier) (p m : ℕ) (p-pos : 0 < p) (m-pos : 0 < m)
      (primitive : IsPrimitiveRoot R (m * p) z) (commute : lifted D v · u ≡ u · lifted D v) (root : matrix_power u p ≡ scale R R.one (lifted D v))
      (unit_power : matrix_power (lifted D v) m ≡ unit R d) where
    primitive_value : IsPrimitiveRoot R m (power R z p)
    primitive_value = primitive-power m p z p-pos primitive

    primitive_root : IsPrimitiveRoot R p (power R z m)
    primitive_root = primitive-power p m z m-pos (subst (λ n. IsPrimitiveRoot R n z) (Nat.mul_comm m p) primitive)

    -- the roots of the eigenvalues
    numbers : Fin m → R.Carrier
    numbers i = power R z (to_nat i)

    z-ne-zero : z ≡ R.zero → ⊥
    z-ne-zero = primitive-ne-zero F (m * p) z (Nat.mul-pos m-pos p-pos) primitive

    matrix_root : IsMatrixRoot p R.one (lifted D v) u numbers
    unfolding numbers
    matrix_root = record {
      commute = commute;
      power-multiple = root;
      not-zero = λ i. power-ne-zero F z z-ne-zero (to_nat i);
      eigenspaces = subst (λ (values : Fin m → R.Carrier). Eigenspaces (lifted D v) values) (fun_ext (λ i. power_swap R z p (to_nat i)))
          (spaces_of_unit_power F m (lifted D v) (power R z p) m-pos primitive_value unit_power);
    }

    different : (a b : Fin m) → power R (numbers a) p ≡ power R (numbers b) p → a ≡ b
    unfolding numbers
    different a b e = primitive_inj F m (power R z p) primitive_value a b (power_swap R z p (to_nat a) ∙ e ∙ sym (power_swap R z p (to_nat b)))

    index_exponent : Fin m → ℕ
    index_exponent a = to_nat a * p

    inverse : (i : Fin m) → R.mul (power R (power R z p) (to_nat i)) (power R z ((m - to_nat i) * p)) ≡ R.one
    inverse i =
        let l : to_nat i < m = to_nat-lt i in
        let all : to_nat i + (m - to_nat i) ≡ m = omega (arith, l) in
        ap (λ x. R.mul x (power R z ((m - to_nat i) * p))) (sym (power-mul R z (to_nat i) p)) ∙ sym (power-add R z (to_nat i * p) ((m - to_nat i) * p))
        ∙ ap (power R z) (sym (Nat.add-mul (to_nat i) (m - to_nat i) p) ∙ ap (λ k. k * p) all) ∙ primitive.power-one

    pub multiplicity : (i : ℕ) → i < m → (n : ℕ) × (R.mul (whole R m) (whole R n) ≡ occurrence_sum S (λ k. trace (D.at k)) v z p m i)
    multiplicity i l =
        let a : Fin m = from_nat m i l in
        let n = times_by_mean F m (lifted D v) (power R z p) m-pos primitive_value unit_power a (power R z ((m - to_nat a) * p)) (inverse a) in
        (n.0, n.1 ∙ mean-character D v z p m (to_nat a) ∙ ap (occurrence_sum S (λ k. trace (D.at k)) v z p m) (to_nat-from_nat m i l))

    pub character_sum : (es : List ℕ) → All (λ e. (e < m * p) × (e / p * p ≡ e)) es
        → ((i : ℕ) → i < m → R.mul (whole R m) (whole R (times_in (i * p) es)) ≡ occurrence_sum S (λ k. trace (D.at k)) v z p m i)
        → AddsUpRoots R z p m es (trace u)
    unfolding numbers index_exponent
    character_sum es below counts =
        subst (λ fs. AddsUpRoots R z p m fs (trace u)) l.1
        (sum_by_exponents R z m index_exponent (λ a (j : Fin p). R.mul (numbers a) (power R (power R z m) (to_nat j)))
        (λ a. ap (λ k. k * p) (Nat.mul-div_cancel (to_nat a) p-pos))
        (λ a j. (
          j,
          ap (R.mul (numbers a)) (sym (power-mul R z (to_nat j) m)) ∙ sym (power-add R z (to_nat a) (to_nat j * m))
              ∙ ap (λ k. power R z (k + to_nat j * m)) (sym (Nat.mul-div_cancel (to_nat a) p-pos)),
        ))
        l.0 (trace u)
        (subst (λ s. AddsUp R (λ a (j : Fin p). R.mul (numbers a) (power R (power R z m) (to_nat j))) l.0 s) (sym (found.2 ∙ one-mul R found.0))
        (list_sum_of R p (power R z m) numbers (λ a. occurrences a l.0) found.0 p-pos found.1 l.0 (λ a. refl))))
      where
        injective : (a b : Fin m) → index_exponent a ≡ index_exponent b → a ≡ b
        injective a b e = to_nat_inj a b (sym (Nat.mul-div_cancel (to_nat a) p-pos) ∙ ap (λ k. k / p) e ∙ Nat.mul-div_cancel (to_nat b) p-pos)

        index : (e : ℕ) → (e < m * p) × (e / p * p ≡ e) → (a : Fin m) × (index_exponent a ≡ e)
        index e (small, divided) =
            let less : e / p < m = (Nat.div-lt_iff_lt-mul p-pos).1 small in
            (from_nat m (e / p) less, ap (λ k. k * p) (to_nat-from_nat m (e / p) less) ∙ divided)

        l : (l : List (Fin m)) × (exponents_of index_exponent l ≡ es)
        l = indices_of index_exponent (λ e. (e < m * p) × (e / p * p ≡ e)) es (recursion_from_All (λ e. (e < m * p) × (e / p * p ≡ e)) es below)
            (λ e h ne. index e h)

        occurs_at : (a : Fin m) → Occurs (lifted D v) (power R (numbers a) p) (occurrences a l.0)
        occurs_at a =
            subst (λ c. Occurs (lifted D v) c (occurrences a l.0)) (power_swap R z p (to_nat a))
            (subst (λ k. Occurs (lifted D v) (power R (power R z p) (to_nat a)) k)
            (sym (times-exponents index_exponent injective a l.0 ∙ ap (times_in (index_exponent a)) l.1))
            (occurs_by_mean F m (lifted D v) (power R z p) m-pos primitive_value unit_power a (power R z ((m - to_nat a) * p)) (inverse a)
            (times_in (index_exponent a) es)
            (counts (to_nat a) (to_nat-lt a) ∙ sym (mean-character D v z p m (to_nat a)))))

        found : (s : R.Carrier) × IsSumOfRoots R p (power R z m) numbers (λ a. occurrences a l.0) s × (trace u ≡ R.mul R.one s)
        found = trace-root F p (power R z m) R.one R.one numbers (λ a. occurrences a l.0) p-pos primitive_root (one-ne-zero F)
            (one-power R p) matrix_root different occurs_at
