-- The inverse of an operation.
--   opposite_vector      negatives of numerators are the negative vector
--   inverse_of           (S|w) is the inverse of (R|v) where RS = SR = 1 and w = -Sv
use Rattle.std.proofs.Common.{◌≡◌, sym, refl, ◌∙◌, ap, ap₂, ℕ, ◌<◌, List, get_or, ℤ, pos, neg_ℤ}
use Rattle.irr_algebra.specs.Ring.{Ring}
use Rattle.irr_algebra.specs.Fin.{Fin, to_nat}
use Rattle.irr_algebra.specs.Matrix.{Matrix, ◌·◌, ◌⊕◌, ◌⊖◌, unit, null}
use Rattle.irr_algebra.proofs.Rings.{zero-add}
use Rattle.irr_algebra.proofs.Matrices.{matrix-ext, mul_assoc, unit-mul, mul-sub, mul-null}
use Rattle.irr_number.specs.Integers.{integers}
use Rattle.irr_rational.specs.Integer.{whole_matrix}
use Rattle.irr_rational.specs.Rational.{rationals, ratio}
use Rattle.irr_rational.specs.Ratio.{entry}
use Rattle.irr_rational.proofs.Integers.{whole_matrix-mul, whole_matrix-unit}
use Rattle.irr_rational.proofs.Ratios.{ratio-neg}
use Rattle.irr_space.specs.Operation.{Operation, Vector, ◌⊙◌, identity, IsInverse, component}
use Rattle.irr_rat.specs.VectorMeaning.{vector_of}
use Rattle.irr_rat.proofs.Vectors.{component-vector_of, component-sub, vector-ext, each_of_three}
use Rattle.irr_seitz.proofs.Vectors.{operation-ext}

component-null : (i : Fin 3) → component null i ≡ rationals.zero
unfolding component null
component-null i = refl

pub opposite_vector : (num t : List ℤ) (d : ℕ) → 0 < d → get_or t 0 (pos 0) ≡ neg_ℤ (get_or num 0 (pos 0)) → get_or t 1 (pos 0) ≡ neg_ℤ (get_or num 1 (pos 0)) → get_or t 2 (pos 0) ≡ neg_ℤ (get_or num 2 (pos 0))
    → vector_of t d ≡ null ⊖ vector_of num d
unfolding to_nat
opposite_vector num t d h ex ey ez = vector-ext (vector_of t d) (null ⊖ vector_of num d)
    (λ i. component-vector_of t d i ∙ ap (λ k. ratio k d) (each_of_three (λ i. entry t i ≡ neg_ℤ (entry num i)) ex ey ez i) ∙ ratio-neg (entry num i) d h
    ∙ sym (component-sub null (vector_of num d) i ∙ ap₂ rationals.add (component-null i) (ap rationals.neg (component-vector_of num d i)) ∙ zero-add rationals (rationals.neg (ratio (entry num i) d))))

add-opposite : (v : Vector) → v ⊕ (null ⊖ v) ≡ null
unfolding ◌⊕◌ ◌⊖◌ null
add-opposite v = matrix-ext (λ i j. cancelled rationals (v.at i j))
  where
    cancelled : (R : Ring) (x : R.Carrier) → R.add x (R.add R.zero (R.neg x)) ≡ R.zero
    cancelled R x = ap (R.add x) (zero-add R (R.neg x)) ∙ R.add-neg x

opposite-add : (v : Vector) → (null ⊖ v) ⊕ v ≡ null
unfolding ◌⊕◌ ◌⊖◌ null
opposite-add v = matrix-ext (λ i j. cancelled rationals (v.at i j))
  where
    cancelled : (R : Ring) (x : R.Carrier) → R.add (R.add R.zero (R.neg x)) x ≡ R.zero
    cancelled R x = ap (λ w. R.add w x) (zero-add R (R.neg x)) ∙ R.add_comm (R.neg x) x ∙ R.add-neg x

pub inverse_of : (g h : Operation) → g.rotation · h.rotation ≡ unit integers 3 → h.rotation · g.rotation ≡ unit integers 3 → h.vector ≡ null ⊖ (whole_matrix rationals h.rotation · g.vector) → IsInverse g h
unfolding ◌⊙◌ identity
inverse_of g h right left e = record {
  right = operation-ext (g ⊙ h) identity right
      (ap (λ (w : Vector). g.vector ⊕ (whole_matrix rationals g.rotation · w)) e
      ∙ ap (λ (w : Vector). g.vector ⊕ w)
      (mul-sub (whole_matrix rationals g.rotation) null (whole_matrix rationals h.rotation · g.vector)
      ∙ ap₂ ◌⊖◌ (mul-null (whole_matrix rationals g.rotation))
      (sym (mul_assoc (whole_matrix rationals g.rotation) (whole_matrix rationals h.rotation) g.vector)
      ∙ ap (λ (m : Matrix rationals 3 3). m · g.vector) (sym (whole_matrix-mul rationals g.rotation h.rotation) ∙ ap (whole_matrix rationals) right ∙ whole_matrix-unit rationals 3)
      ∙ unit-mul g.vector))
      ∙ add-opposite g.vector);
  left = operation-ext (h ⊙ g) identity left
      (ap (λ (w : Vector). w ⊕ (whole_matrix rationals h.rotation · g.vector)) e ∙ opposite-add (whole_matrix rationals h.rotation · g.vector));
}
