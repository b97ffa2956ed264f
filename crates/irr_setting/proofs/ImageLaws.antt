-- Images of operations: their rotations as quotients, their vectors.
--   regular_numerators         the determinant of the numerators is not 0
--   quotients_of_image, image_of_quotients     the rotation is that of an image exactly where it has these quotients as entries
--   one_quotient               there is one
--   vector_is, is_vector       the vector is P v + p - F p
--   small_of_denominator, denominator_of_small     denominators of at most 100,000
--   may_be_image, no_rotation, no_vector       what the program's calls say together
use Rattle.std.proofs.Common.{◌≡◌, sym, ◌∙◌, ap, ap₂, subst, ℕ, ◌<◌, ◌≤◌, ◌*◌, List, ℤ, pos, ◌*ℤ◌, get_or, arith}
use Rattle.std.specs.Int.{◌∣◌}
use native.Mathlib.Nat as Nat
use Rattle.irr_algebra.specs.Fin.{Fin}
use Rattle.irr_algebra.specs.Ring.{whole}
use Rattle.irr_algebra.specs.Matrix.{Matrix, ◌·◌, ◌⊕◌, ◌⊖◌}
use Rattle.irr_algebra.proofs.Matrices.{matrix-ext}
use Rattle.irr_number.specs.Integers.{integers}
use Rattle.irr_rational.specs.Integer.{whole_matrix}
use Rattle.irr_rational.specs.Rational.{rationals, ratio, IsWhole}
use Rattle.irr_rational.specs.Ratio.{entry}
use Rattle.irr_rational.proofs.WholeNumbers.{whole_multiple, dvd_of_multiples}
use Rattle.irr_space.specs.Operation.{Operation, Rotation, Vector, component}
use Rattle.irr_cocycle.proofs.Operations.{add_matrix_assoc, add-sub, sub-add}
use Rattle.irr_rat.specs.Lowest.{AreThreeLowest}
use Rattle.irr_rat.specs.VectorMeaning.{vector_of}
use Rattle.irr_rat.proofs.Vectors.{component-vector_of}
use Rattle.irr_seitz.specs.Rotation.{rotation_of, IsWithin}
use Rattle.irr_seitz.specs.OperationMeaning.{operation}
use Rattle.irr_seitz.specs.declared.op.Op.{Op}
use Rattle.irr_full.specs.Restriction.{IsImage}
use Rattle.irr_setting.specs.Determinant.{determinant_in}
use Rattle.irr_setting.specs.Setting.{basis, basis_of, origin, IsSingular, HasSmallVector, MayBeImage, AreQuotients, image_vector, image_number}
use Rattle.irr_setting.specs.declared.setting.Setting.{Setting}
use Rattle.irr_setting.proofs.Bases.{numerators_singular, image_rotation, rotation_image}
use Rattle.irr_setting.proofs.Numbers.{quotient_only}
use Rattle.irr_setting.proofs.ImageVectors.{image_numerators}

pub regular_numerators : (s : Setting) → ¬ (IsSingular s) → ¬ (determinant_in integers (rotation_of s.num) ≡ pos 0)
regular_numerators s n e = n (numerators_singular s.num s.den s.positive e)

module _ (s : Setting) (regular : ¬ (IsSingular s)) where
  pub quotients_of_image : (rot : List (List ℤ)) (F : Rotation) → whole_matrix rationals F · basis s ≡ basis s · whole_matrix rationals (rotation_of rot) → IsWithin 9 F → AreQuotients s.num rot F
  quotients_of_image rot F e w i j = (image_rotation s.num s.den s.positive (regular_numerators s regular) (rotation_of rot) F e i j, w i j)

  pub image_of_quotients : (rot : List (List ℤ)) (F : Rotation) → AreQuotients s.num rot F → whole_matrix rationals F · basis s ≡ basis s · whole_matrix rationals (rotation_of rot)
  image_of_quotients rot F q = rotation_image s.num s.den s.positive (regular_numerators s regular) (rotation_of rot) F (λ i j. (q i j).0)

  pub one_quotient : (rot : List (List ℤ)) (E F : Rotation) → AreQuotients s.num rot E → AreQuotients s.num rot F → E ≡ F
  one_quotient rot E F p q = matrix-ext (λ i j. sym (quotient_only _ (determinant_in integers (rotation_of s.num)) (E.at i j) (regular_numerators s regular) (p i j).0)
      ∙ quotient_only _ (determinant_in integers (rotation_of s.num)) (F.at i j) (regular_numerators s regular) (q i j).0)

module _ (s : Setting) (g : Operation) where
  joined : (F : Rotation) → image_vector s g F ≡ ((basis s · g.vector) ⊕ origin s) ⊖ (whole_matrix rationals F · origin s)
  unfolding image_vector ◌⊕◌ ◌⊖◌
  joined F = matrix-ext (λ i j. sym (rationals.add_assoc ((basis s · g.vector).at i j) ((origin s).at i j) (rationals.neg ((whole_matrix rationals F · origin s).at i j))))

  pub vector_is : (f : Operation) → IsImage (basis s) (origin s) g f → f.vector ≡ image_vector s g f.rotation
  vector_is f a = sym (add-sub f.vector (whole_matrix rationals f.rotation · origin s)) ∙ ap (λ (x : Vector). x ⊖ (whole_matrix rationals f.rotation · origin s)) a.vector ∙ sym (joined f.rotation)

  pub is_vector : (F : Rotation) → image_vector s g F ⊕ (whole_matrix rationals F · origin s) ≡ (basis s · g.vector) ⊕ origin s
  is_vector F = ap (λ (x : Vector). x ⊕ (whole_matrix rationals F · origin s)) (joined F) ∙ sub-add ((basis s · g.vector) ⊕ origin s) (whole_matrix rationals F · origin s)

pub small_of_denominator : (num : List ℤ) (den : ℕ) → 0 < den → den ≤ 100000 → HasSmallVector (vector_of num den)
small_of_denominator num den h l = record {
  common = den;
  positive = h;
  small = l;
  multiple = λ i. subst (λ x. IsWhole (rationals.mul (whole rationals den) x)) (sym (component-vector_of num den i)) (whole_multiple (entry num i) den den h (Nat.dvd_refl den));
}

pub denominator_of_small : (num : List ℤ) (den : ℕ) → AreThreeLowest num den → HasSmallVector (vector_of num den) → den ≤ 100000
denominator_of_small num den low s =
    let d : den ≤ s.common = Nat.le_of_dvd s.positive (dvd_of_multiples {m = 3} (entry num) den s.common low (λ i. subst (λ x. IsWhole (rationals.mul (whole rationals s.common) x)) (component-vector_of num den i) (s.multiple i))) in
    let l : s.common ≤ 100000 = s.small in
    omega arith

module _ (s : Setting) (regular : ¬ (IsSingular s)) (op : Op) where
  pub may_be_image : (f : Op) (rot : List (List ℤ)) → AreQuotients s.num op.rot (rotation_of rot) → (operation f).rotation ≡ rotation_of rot
      → (operation f).vector ≡ image_vector s (operation op) (rotation_of rot) → 0 < f.den → f.den ≤ 100000 → MayBeImage s (operation op) (operation f)
  may_be_image f rot q e v h l = record {
    is_image = record {
      rotation = subst (λ (F : Rotation). whole_matrix rationals F · basis s ≡ basis s · whole_matrix rationals (rotation_of op.rot)) (sym e) (image_of_quotients s regular op.rot (rotation_of rot) q);
      vector = ap₂ (λ (x : Vector) (F : Rotation). x ⊕ (whole_matrix rationals F · origin s)) v e ∙ is_vector s (operation op) (rotation_of rot);
    };
    within = λ i j. subst (λ (F : Rotation). IsWithin 9 F) (sym e) (λ i j. (q i j).1) i j;
    vector = small_of_denominator f.num f.den h l;
  }

  pub no_rotation : ((F : Rotation) → ¬ (AreQuotients s.num op.rot F)) → (f : Operation) → ¬ (MayBeImage s (operation op) f)
  no_rotation n f m = n f.rotation (quotients_of_image s regular op.rot f.rotation m.is_image.rotation m.within)

  pub no_vector : (rot : List (List ℤ)) → AreQuotients s.num op.rot (rotation_of rot) → ¬ (HasSmallVector (image_vector s (operation op) (rotation_of rot))) → (f : Operation) → ¬ (MayBeImage s (operation op) f)
  no_vector rot q n f m = n (subst (λ (F : Rotation). HasSmallVector (image_vector s (operation op) F))
      (one_quotient s regular op.rot f.rotation (rotation_of rot) (quotients_of_image s regular op.rot f.rotation m.is_image.rotation m.within) q)
      (subst HasSmallVector (vector_is s (operation op) f m.is_image) m.vector))

-- the vector that the program makes
pub made_vector : (s : Setting) (op : Op) (rot : List (List ℤ)) (num : List ℤ) (den : ℕ) → den ≡ (s.den * op.den) * s.shift.den
    → get_or num 0 (pos 0) ≡ image_number s op rot 0 → get_or num 1 (pos 0) ≡ image_number s op rot 1 → get_or num 2 (pos 0) ≡ image_number s op rot 2
    → vector_of num den ≡ image_vector s (operation op) (rotation_of rot)
unfolding image_vector
made_vector s op rot num den e x y z = ap (vector_of num) e ∙ image_numerators s.num s.den op.num op.den rot s.shift.num s.shift.den num s.positive op.lowest.positive s.shift.lowest.positive x y z
