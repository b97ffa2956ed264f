-- The matrices that stand for the generator: one from a root of a number, the others by roots of 1.
use Rattle.std.proofs.Common.{◌≡◌, sym, ◌∙◌, ap, ap₂, refl, ℕ, zero, suc, ◌<◌, ◌⊎◌, inl, inr, arith}
use Rattle.irr_algebra.specs.Ring.{Ring, whole}
use Rattle.irr_algebra.specs.Field.{Field}
use Rattle.irr_algebra.specs.Fin.{Fin}
use Rattle.irr_algebra.specs.Matrix.{Matrix, ◌·◌, unit, null, scale, trace}
use Rattle.irr_algebra.specs.Action.{IsSimple}
use Rattle.irr_algebra.proofs.Rings.{one-mul, mul_left_comm}
use Rattle.irr_algebra.proofs.Fields.{mul_cancel, inverse-mul, inverse-ne-zero, mul-ne-zero, whole-ne-zero}
use Rattle.irr_algebra.proofs.Indices.{all_or_one}
use Rattle.irr_algebra.proofs.Entries.{unit-ne-null}
use Rattle.irr_algebra.proofs.Matrices.{null-mul, scale-mul, mul-scale, scale-scale, scale-one, zero-scale, scale-null, trace-scale}
use Rattle.irr_algebra.proofs.Totals.{total-null}
use Rattle.irr_algebra.proofs.Actions.{scale-intertwines}
use Rattle.irr_theory.specs.Extension.{matrix_power}
use Rattle.irr_theory.specs.Traces.{back}
use Rattle.irr_theory.specs.FactorSystem.{FactorSystem, Representation}
use Rattle.irr_theory.proofs.Inverses.{mul-back, places-ne-zero}
use Rattle.irr_theory.proofs.Traces.{matrix_of_traces}
use Rattle.irr_clifford.specs.Subgroup.{Subgroup}
use Rattle.irr_clifford.specs.Cyclic.{CyclicQuotient, conjugate, power_phase, StandsForGenerator, HasScalar, IsExtension}
use Rattle.irr_clifford.specs.Roots.{number_power}
use Rattle.irr_clifford.proofs.Split.{index-positive, lifted_power-invertible}
use Rattle.irr_clifford.proofs.Representations.{steps-phase}

pub number_power-mul : (R : Ring) (x y : R.Carrier) (n : ℕ) → number_power R (R.mul x y) n ≡ R.mul (number_power R x n) (number_power R y n)
unfolding number_power
number_power-mul R x y zero = sym (R.mul-one R.one)
number_power-mul R x y (suc n) = ap (R.mul (R.mul x y)) (number_power-mul R x y n) ∙ four x y (number_power R x n) (number_power R y n)
  where
    four : (x y z w : R.Carrier) → R.mul (R.mul x y) (R.mul z w) ≡ R.mul (R.mul x z) (R.mul y w)
    four x y z w = simp (R.mul_assoc, mul_left_comm R)

pub number_power-one : (R : Ring) (n : ℕ) → number_power R R.one n ≡ R.one
unfolding number_power
number_power-one R zero = refl
number_power-one R (suc n) = one-mul R (number_power R R.one n) ∙ number_power-one R n

pub matrix_power-scale : (R : Ring) {d : ℕ} (c : R.Carrier) (u : Matrix R d d) (n : ℕ) → matrix_power (scale R c u) n ≡ scale R (number_power R c n) (matrix_power u n)
unfolding matrix_power number_power
matrix_power-scale R {d} c u zero = sym (scale-one (unit R d))
matrix_power-scale R {d} c u (suc n) =
    ap (λ (m : Matrix R d d). scale R c u · m) (matrix_power-scale R c u n) ∙ scale-mul R c u (scale R (number_power R c n) (matrix_power u n))
    ∙ ap (scale R c) (mul-scale R (number_power R c n) u (matrix_power u n)) ∙ scale-scale R c (number_power R c n) (u · matrix_power u n)

module _ {R : Ring} {T : FactorSystem R} {H : Subgroup T} (Q : CyclicQuotient H) {d : ℕ} (D : Representation H.table d) where
  -- a number whose power is that of the scalar, taken out
  pub stands_by_root : (u : Matrix R d d) (c r : R.Carrier) → HasScalar Q D u c → R.mul (number_power R r Q.index) c ≡ R.one → StandsForGenerator Q D (scale R r u)
  stands_by_root u c r h e = record {
    intertwines = scale-intertwines (conjugate Q D) D.at r u h.intertwines;
    power = matrix_power-scale R r u Q.index ∙ ap (scale R (number_power R r Q.index)) h.power
        ∙ scale-scale R (number_power R r Q.index) (R.mul c (power_phase T Q.generator Q.index)) (D.at Q.top)
        ∙ ap (λ k. scale R k (D.at Q.top)) (sym (R.mul_assoc (number_power R r Q.index) c (power_phase T Q.generator Q.index)) ∙ ap (λ k. R.mul k (power_phase T Q.generator Q.index)) e ∙ one-mul R (power_phase T Q.generator Q.index));
  }

  -- times a root of 1
  pub stands_times_root : (u : Matrix R d d) (z : R.Carrier) → StandsForGenerator Q D u → number_power R z Q.index ≡ R.one → StandsForGenerator Q D (scale R z u)
  stands_times_root u z h e = stands_by_root u R.one z
      (record { intertwines = h.intertwines; power = h.power ∙ ap (λ k. scale R k (D.at Q.top)) (sym (one-mul R (power_phase T Q.generator Q.index))) })
      (R.mul-one (number_power R z Q.index) ∙ e)

  -- the power of a matrix that stands for the generator has an inverse
  pub top-inverse : (u : Matrix R d d) → StandsForGenerator Q D u → (w : Matrix R d d) × (matrix_power u Q.index · w ≡ unit R d)
  top-inverse u h = (
    scale R k (back D Q.top),
    ap (λ (m : Matrix R d d). m · scale R k (back D Q.top)) h.power ∙ scale-mul R (power_phase T Q.generator Q.index) (D.at Q.top) (scale R k (back D Q.top))
        ∙ ap (scale R (power_phase T Q.generator Q.index)) (mul-scale R k (D.at Q.top) (back D Q.top) ∙ ap (scale R k) (mul-back D Q.top))
        ∙ scale-scale R (power_phase T Q.generator Q.index) k (unit R d) ∙ ap (λ x. scale R x (unit R d)) (ap (λ x. R.mul x k) (sym (steps-phase Q Q.index)) ∙ (lifted_power-invertible T Q.generator Q.index).mul-inverse) ∙ scale-one (unit R d),
  )
    where
      k : R.Carrier
      k = (lifted_power-invertible T Q.generator Q.index).inverse

  -- an extension at g n, by the matrix at g and the family
  pub extension-coset : (u : Matrix R d d) (E : Representation T d) → IsExtension Q D u E → (n : Fin H.table.places) → R.mul (T.phase Q.generator (H.member n)) (trace (E.at (T.product Q.generator (H.member n)))) ≡ trace (u · D.at n)
  extension-coset u E h n =
      sym (trace-scale R (T.phase Q.generator (H.member n)) (E.at (T.product Q.generator (H.member n)))) ∙ ap trace (sym (E.at-product Q.generator (H.member n)) ∙ ap₂ (λ (a b : Matrix R d d). a · b) h.at-generator (h.at-member n))

pub power-null : {R : Ring} {d : ℕ} (u : Matrix R d d) (n : ℕ) → 0 < n → u ≡ null → matrix_power u n ≡ null
unfolding matrix_power
power-null u zero l e = absurd (omega arith)
power-null {R} {d} u (suc n) l e = ap (λ (m : Matrix R d d). m · matrix_power u n) e ∙ null-mul (matrix_power u n)

module _ (F : Field) {T : FactorSystem F.ring} {H : Subgroup T} (Q : CyclicQuotient H) {d : ℕ} (D : Representation H.table d) (l : 0 < d) where
  open F use {ring as R}

  -- a matrix that stands for the generator is not 0
  pub stands-ne-null : (u : Matrix R d d) → StandsForGenerator Q D u → u ≡ null → ⊥
  stands-ne-null u h e = let w = top-inverse Q D u h in
      unit-ne-null F d l (sym w.1 ∙ ap (λ (m : Matrix R d d). m · w.0) (power-null u Q.index (index-positive Q) e) ∙ null-mul w.0)

  -- so the trace of its product with some member is not 0
  pub some_trace : IsSimple D.at → (u : Matrix R d d) → (u ≡ null → ⊥) → (n : Fin H.table.places) × (trace (u · D.at n) ≡ R.zero → ⊥)
  some_trace simple u ne = cases (all_or_one H.table.places (λ n. trace (u · D.at n) ≡ R.zero) (λ n. trace (u · D.at n) ≡ R.zero → ⊥) (λ n. F.decide (trace (u · D.at n)) R.zero))
    where
      c : R.Carrier
      c = R.mul (whole R H.table.places) (F.inverse (whole R d))

      none : ((n : Fin H.table.places) → trace (u · D.at n) ≡ R.zero) → u ≡ null
      none z =
          sym (scale-one u) ∙ ap (λ k. scale R k u) (sym (inverse-mul F c (mul-ne-zero F (whole R H.table.places) (F.inverse (whole R d)) (places-ne-zero F H.table) (inverse-ne-zero F (whole R d) (whole-ne-zero F d l)))))
          ∙ sym (scale-scale R (F.inverse c) c u) ∙ ap (scale R (F.inverse c)) (sym (matrix_of_traces F D l simple u)
          ∙ total-null H.table.places (λ n. ap (λ k. scale R k (back D n)) (z n) ∙ zero-scale (back D n))) ∙ scale-null R (F.inverse c)

      cases : ((n : Fin H.table.places) → trace (u · D.at n) ≡ R.zero) ⊎ ((n : Fin H.table.places) × (trace (u · D.at n) ≡ R.zero → ⊥)) → (n : Fin H.table.places) × (trace (u · D.at n) ≡ R.zero → ⊥)
      cases (inl z) = absurd (ne (none z))
      cases (inr r) = r

  -- extensions by different multiples of one matrix have different traces at some place
  pub multiples_differ : IsSimple D.at → (u : Matrix R d d) → (u ≡ null → ⊥) → (x y : R.Carrier) → (x ≡ y → ⊥) → (A B : Representation T d)
      → IsExtension Q D (scale R x u) A → IsExtension Q D (scale R y u) B → (i : Fin T.places) × (trace (A.at i) ≡ trace (B.at i) → ⊥)
  multiples_differ simple u ne x y apart A B hA hB =
      let n = some_trace simple u ne in (
        T.product Q.generator (H.member n.0),
        λ e. apart (mul_cancel F (trace (u · D.at n.0)) x y n.1 (
            R.mul_comm (trace (u · D.at n.0)) x ∙ sym (multiple x A hA n.0) ∙ ap (R.mul (T.phase Q.generator (H.member n.0))) e ∙ multiple y B hB n.0 ∙ R.mul_comm y (trace (u · D.at n.0)))),
      )
    where
      multiple : (x : R.Carrier) (A : Representation T d) → IsExtension Q D (scale R x u) A → (n : Fin H.table.places)
          → R.mul (T.phase Q.generator (H.member n)) (trace (A.at (T.product Q.generator (H.member n)))) ≡ R.mul x (trace (u · D.at n))
      multiple x A h n = extension-coset Q D (scale R x u) A h n ∙ ap trace (scale-mul R x u (D.at n)) ∙ trace-scale R x (u · D.at n)

  -- the same from a trace: s is the trace of an extension at the generator where its power times c is that of the trace of u
  pub stands_by_trace : (u : Matrix R d d) (c s : R.Carrier) → HasScalar Q D u c → (trace u ≡ R.zero → ⊥) → R.mul (number_power R s Q.index) c ≡ number_power R (trace u) Q.index
      → StandsForGenerator Q D (scale R (R.mul s (F.inverse (trace u))) u)
  stands_by_trace u c s h n e = stands_by_root Q D u c (R.mul s (F.inverse (trace u))) h (
      ap (λ x. R.mul x c) (number_power-mul R s (F.inverse (trace u)) Q.index)
      ∙ sorted (number_power R s Q.index) (number_power R (F.inverse (trace u)) Q.index) c
      ∙ ap (R.mul (number_power R (F.inverse (trace u)) Q.index)) e ∙ sym (number_power-mul R (F.inverse (trace u)) (trace u) Q.index)
      ∙ ap (λ x. number_power R x Q.index) (inverse-mul F (trace u) n) ∙ number_power-one R Q.index)
    where
      sorted : (x y z : R.Carrier) → R.mul (R.mul x y) z ≡ R.mul y (R.mul x z)
      sorted x y z = ap (λ a. R.mul a z) (R.mul_comm x y) ∙ R.mul_assoc y x z
