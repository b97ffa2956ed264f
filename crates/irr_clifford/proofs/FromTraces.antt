-- An extension of a simple family is given by its traces, and by its matrix at the generator.
use Rattle.std.proofs.Common.{◌≡◌, sym, ◌∙◌, ap, ap₂, ℕ, zero, suc, ◌<◌}
use mathlib.Core.Path.{fun_ext}
use Rattle.irr_algebra.specs.Ring.{Ring, whole}
use Rattle.irr_algebra.specs.Field.{Field}
use Rattle.irr_algebra.specs.Fin.{Fin, to_nat}
use Rattle.irr_algebra.specs.Matrix.{Matrix, ◌·◌, scale, trace, combination}
use Rattle.irr_algebra.specs.Action.{IsSimple}
use Rattle.irr_algebra.proofs.Rings.{mul_left_comm}
use Rattle.irr_algebra.proofs.Fields.{inverse-mul, whole-ne-zero}
use Rattle.irr_algebra.proofs.Matrices.{scale-scale, scale-one, trace-scale}
use Rattle.irr_theory.specs.Extension.{matrix_power}
use Rattle.irr_theory.specs.Traces.{back}
use Rattle.irr_theory.specs.FactorSystem.{FactorSystem, Representation}
use Rattle.irr_theory.specs.Lifted.{lifted}
use Rattle.irr_theory.proofs.Inverses.{places-ne-zero}
use Rattle.irr_theory.proofs.Lifted.{lifted-multiplies}
use Rattle.irr_theory.proofs.Traces.{matrix_of_traces}
use Rattle.irr_clifford.specs.Subgroup.{Subgroup}
use Rattle.irr_clifford.specs.Cyclic.{CyclicQuotient, IsExtension}
use Rattle.irr_clifford.specs.FromTraces.{matrix_from_traces}
use Rattle.irr_clifford.proofs.Split.{bare, inside, step, steps, part_of, split, lifted_power}
use Rattle.irr_clifford.proofs.Representations.{lifted-bare}

module _ (F : Field) {T : FactorSystem F.ring} (H : Subgroup T) {d : ℕ} (D : Representation H.table d) (l : 0 < d) (simple : IsSimple D.at) where
  open F use {ring as R}

  pub extension-from_traces : (E : Representation T d) → ((n : Fin H.table.places) → E.at (H.member n) ≡ D.at n) → (x : Fin T.places) → E.at x ≡ matrix_from_traces F H D (λ i. trace (E.at i)) x
  unfolding matrix_from_traces
  extension-from_traces E h x =
      sym (scale-one (E.at x)) ∙ ap (λ c. scale R c (E.at x)) (sym (inverses (whole R d) (whole R H.table.places) (whole-ne-zero F d l) (places-ne-zero F H.table)))
      ∙ sym (scale-scale R (R.mul (whole R d) (F.inverse (whole R H.table.places))) (R.mul (whole R H.table.places) (F.inverse (whole R d))) (E.at x))
      ∙ ap (scale R (R.mul (whole R d) (F.inverse (whole R H.table.places)))) (sym (matrix_of_traces F D l simple (E.at x))
      ∙ ap (λ (c : Fin H.table.places → R.Carrier). combination R H.table.places c (back D)) (fun_ext (λ n.
      ap trace (ap (λ (m : Matrix R d d). E.at x · m) (sym (h n)) ∙ E.at-product x (H.member n)) ∙ trace-scale R (T.phase x (H.member n)) (E.at (T.product x (H.member n))))))
    where
      four : (x y z w : R.Carrier) → R.mul (R.mul x y) (R.mul z w) ≡ R.mul (R.mul w x) (R.mul y z)
      four x y z w = simp (R.mul_assoc, mul_left_comm R, R.mul_comm)

      inverses : (x y : R.Carrier) → (x ≡ R.zero → ⊥) → (y ≡ R.zero → ⊥) → R.mul (R.mul x (F.inverse y)) (R.mul y (F.inverse x)) ≡ R.one
      inverses x y n m = four x (F.inverse y) y (F.inverse x) ∙ ap₂ R.mul (inverse-mul F x n) (inverse-mul F y m) ∙ R.mul-one R.one

module _ {R : Ring} {T : FactorSystem R} {H : Subgroup T} (Q : CyclicQuotient H) {d : ℕ} (D : Representation H.table d) (u : Matrix R d d) where
  pub lifted-steps : (E : Representation T d) → IsExtension Q D u E → (a : ℕ) → lifted E (steps Q a) ≡ matrix_power u a
  unfolding lifted_power matrix_power
  lifted-steps E h zero = lifted-bare E T.start ∙ E.at-start
  lifted-steps E h (suc a) = sym (lifted-multiplies E (step Q) (steps Q a)) ∙ ap₂ (λ (a b : Matrix R d d). a · b) (lifted-bare E Q.generator ∙ h.at-generator) (lifted-steps E h a)

  -- an extension at each place
  pub extension-at : (E : Representation T d) → IsExtension Q D u E → (x : Fin T.places) → E.at x ≡ matrix_power u (to_nat (Q.exponent x)) · lifted D (part_of Q (bare T x))
  unfolding lifted
  extension-at E h x =
      sym (lifted-bare E x) ∙ ap (lifted E) (sym (split Q (bare T x))) ∙ sym (lifted-multiplies E (steps Q (to_nat (Q.exponent x))) (inside Q (part_of Q (bare T x))))
      ∙ ap₂ (λ (a b : Matrix R d d). a · b) (lifted-steps E h (to_nat (Q.exponent x))) (ap (scale R (part_of Q (bare T x)).number) (h.at-member (Q.part x)))

  -- so there is one for each matrix at the generator
  pub extension_unique : (A B : Representation T d) → IsExtension Q D u A → IsExtension Q D u B → (x : Fin T.places) → A.at x ≡ B.at x
  extension_unique A B a b x = extension-at A a x ∙ sym (extension-at B b x)
