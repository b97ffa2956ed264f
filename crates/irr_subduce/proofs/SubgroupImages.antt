-- Images of the operations that generators generate in a setting.
--   image-inverse          the image of an inverse
--   generated_image        each generated operation has an image in the group
--   image_of, is_image_of  a function of images
use Rattle.std.proofs.Common.{◌≡◌, sym, refl, ◌∙◌, ap, ap₂, subst, ℕ, ℤ, List}
use Rattle.std.specs.Prelude.{Contains}
use Rattle.irr_rational.specs.Order.{IsFloor}
use Rattle.irr_algebra.specs.Fin.{Fin}
use Rattle.irr_algebra.specs.Matrix.{Matrix, ◌·◌, ◌⊕◌, ◌⊖◌, unit, null, column}
use Rattle.irr_algebra.proofs.Matrices as M
use Rattle.irr_algebra.proofs.Matrices.{matrix-ext, unit-mul, mul-unit, mul-add, mul-null, add-null, null-add, column-mul}
use Rattle.irr_number.specs.Integers.{integers}
use Rattle.irr_rational.specs.Integer.{integer, whole_matrix}
use Rattle.irr_rational.specs.Rational.{rationals}
use Rattle.irr_rational.proofs.Floors.{floor_of, floor_of_integer, floor_unique}
use Rattle.irr_rational.proofs.Integers.{whole_matrix-unit, whole_matrix-mul}
use Rattle.irr_lattice.proofs.Translations.{operation-ext}
use Rattle.irr_space.specs.Operation.{Operation, Rotation, Vector, ◌⊙◌, identity, translation, IsInverse}
use Rattle.irr_space.specs.SpaceGroup.{Generated, IsTranslation}
use Rattle.irr_space.specs.SpaceGroup.Generated.{one, generator, unit_translation, product, inverse}
use Rattle.irr_cocycle.specs.SpaceGroupLaws.{IsGroup}
use Rattle.irr_cocycle.proofs.Operations.{wide, wide-op, wide_unit, vector-op, rotation-op, rotation-identity, vector-identity, add_matrix_assoc, add_matrix_comm, add-sub, sub-add, rotation-inverse}
use Rattle.irr_full.specs.Restriction.{IsImage, IsSubgroup}
use Rattle.irr_full.proofs.Images.{image_unique, image-identity, image-product, image-translation}

-- an inverse in matrices and vectors
module _ (g h : Operation) (i : g ⊙ h ≡ identity) where
  wide_inverse : wide g · wide h ≡ unit rationals 3
  wide_inverse = sym (wide-op g h) ∙ ap wide i ∙ wide_unit identity rotation-identity

  vector_inverse : g.vector ⊕ (wide g · h.vector) ≡ null
  vector_inverse = sym (vector-op g h) ∙ ap (λ (o : Operation). o.vector) i ∙ vector-identity

module _ (P : Matrix rationals 3 3) (p : Vector) where
  pub image-inverse : (g h f e : Operation) → IsInverse g h → IsInverse f e → IsImage P p g f → IsImage P p h e
  image-inverse g h f e gh fe a = record { rotation = turned; vector = moved }
    where
      turned : wide e · P ≡ P · wide h
      turned = ap (λ (X : Matrix rationals 3 3). wide e · X) (sym (mul-unit P) ∙ ap (λ (X : Matrix rationals 3 3). P · X) (sym (wide_inverse g h gh.right)) ∙ sym (M.mul_assoc P (wide g) (wide h))
          ∙ ap (λ (X : Matrix rationals 3 3). X · wide h) (sym a.rotation) ∙ M.mul_assoc (wide f) P (wide h))
          ∙ sym (M.mul_assoc (wide e) (wide f) (P · wide h)) ∙ ap (λ (X : Matrix rationals 3 3). X · (P · wide h)) (wide_inverse e f fe.left) ∙ unit-mul (P · wide h)

      -- e applied to the image of g
      applied : (wide e · f.vector) ⊕ p ≡ (P · (wide h · g.vector)) ⊕ (wide e · p)
      applied = ap (λ (x : Vector). (wide e · f.vector) ⊕ x) (sym (unit-mul p) ∙ ap (λ (X : Matrix rationals 3 3). X · p) (sym (wide_inverse e f fe.left)) ∙ M.mul_assoc (wide e) (wide f) p)
          ∙ sym (mul-add (wide e) f.vector (wide f · p)) ∙ ap (λ (x : Vector). wide e · x) a.vector ∙ mul-add (wide e) (P · g.vector) p
          ∙ ap (λ (x : Vector). x ⊕ (wide e · p)) (sym (M.mul_assoc (wide e) P g.vector) ∙ ap (λ (X : Matrix rationals 3 3). X · g.vector) turned ∙ M.mul_assoc P (wide h) g.vector)

      balance : (e.vector ⊕ (wide e · p)) ⊕ (P · (wide h · g.vector)) ≡ p
      balance = add_matrix_assoc e.vector (wide e · p) (P · (wide h · g.vector)) ∙ ap (λ (x : Vector). e.vector ⊕ x) (add_matrix_comm (wide e · p) (P · (wide h · g.vector)) ∙ sym applied)
          ∙ sym (add_matrix_assoc e.vector (wide e · f.vector) p) ∙ ap (λ (x : Vector). x ⊕ p) (vector_inverse e f fe.left) ∙ null-add p

      nothing : (P · (wide h · g.vector)) ⊕ (P · h.vector) ≡ null
      nothing = add_matrix_comm (P · (wide h · g.vector)) (P · h.vector) ∙ sym (mul-add P h.vector (wide h · g.vector)) ∙ ap (λ (x : Vector). P · x) (vector_inverse h g gh.left) ∙ mul-null P

      moved : e.vector ⊕ (wide e · p) ≡ (P · h.vector) ⊕ p
      moved = sym (add-null (e.vector ⊕ (wide e · p))) ∙ ap (λ (x : Vector). (e.vector ⊕ (wide e · p)) ⊕ x) (sym nothing)
          ∙ sym (add_matrix_assoc (e.vector ⊕ (wide e · p)) (P · (wide h · g.vector)) (P · h.vector)) ∙ ap (λ (x : Vector). x ⊕ (P · h.vector)) balance ∙ add_matrix_comm p (P · h.vector)

  -- has an image in G
  pub record Has (G : Operation → Type 0) (g : Operation) : Type 0 where
    pub image : Operation
    pub is_image : IsImage P p g image
    pub member : G image

module _ (P : Matrix rationals 3 3) (p : Vector) (Q : Matrix rationals 3 3) (invertible : P · Q ≡ unit rationals 3) (G : Operation → Type 0) (group : IsGroup G)
    (columns : (j : Fin 3) → IsTranslation G (column P j)) (gs : List Operation) (generators : (g : Operation) → Contains gs g → Has P p G g) where
  unit_column : (j : Fin 3) → P · column (unit rationals 3) j ≡ column P j
  unit_column j = sym (column-mul P (unit rationals 3) j) ∙ ap (λ (X : Matrix rationals 3 3). column X j) (mul-unit P)

  inverted : (g h : Operation) → IsInverse g h → (a : Has P p G g) → (e : Operation) × G e × IsInverse a.image e → Has P p G h
  inverted g h i a t = record { image = t.0; is_image = image-inverse P p g h a.image t.0 i t.2 a.is_image; member = t.1 }

  pub generated_image : (g : Operation) → Generated gs g → Has P p G g
  generated_image g one = record { image = identity; is_image = image-identity P p Q invertible; member = group.has_identity }
  generated_image g (generator m) = generators g m
  generated_image g (unit_translation j) = record {
    image = translation (column P j);
    is_image = subst (λ (t : Vector). IsImage P p (translation (column (unit rationals 3) j)) (translation t)) (unit_column j) (image-translation P p Q invertible (column (unit rationals 3) j));
    member = columns j;
  }
  generated_image g (product {g = a} {h = b} u v) = record {
    image = (generated_image a u).image ⊙ (generated_image b v).image;
    is_image = image-product P p Q invertible a b (generated_image a u).image (generated_image b v).image (generated_image a u).is_image (generated_image b v).is_image;
    member = group.has_product (generated_image a u).image (generated_image b v).image (generated_image a u).member (generated_image b v).member;
  }
  generated_image g (inverse {g = a} {h = b} i u) = inverted a b i (generated_image a u) (group.has_inverse (generated_image a u).image (generated_image a u).member)

module _ (P : Matrix rationals 3 3) (p : Vector) (Q : Matrix rationals 3 3) (invertible : P · Q ≡ unit rationals 3) where
  -- the floors of P R P^-1
  image_rotation : Rotation → Rotation
  image_rotation R = record { at = λ i j. (floor_of (((P · whole_matrix rationals R) · Q).at i j)).0 }

  pub image_of : Operation → Operation
  image_of g = record { rotation = image_rotation g.rotation; vector = ((P · g.vector) ⊕ p) ⊖ (whole_matrix rationals (image_rotation g.rotation) · p) }

  rotation_is : (g f : Operation) → IsImage P p g f → whole_matrix rationals f.rotation ≡ (P · wide g) · Q
  rotation_is g f a = sym (mul-unit (wide f)) ∙ ap (λ (X : Matrix rationals 3 3). wide f · X) (sym invertible) ∙ sym (M.mul_assoc (wide f) P Q) ∙ ap (λ (X : Matrix rationals 3 3). X · Q) a.rotation

  whole-at : (R : Rotation) (i j : Fin 3) → (whole_matrix rationals R).at i j ≡ integer rationals (R.at i j)
  unfolding whole_matrix
  whole-at R i j = refl

  same_rotation : (g f : Operation) → IsImage P p g f → image_rotation g.rotation ≡ f.rotation
  unfolding image_rotation
  same_rotation g f a = matrix-ext (λ i j. sym (floor_unique (integer rationals (f.rotation.at i j)) (f.rotation.at i j) (floor_of (((P · wide g) · Q).at i j)).0
      (floor_of_integer (f.rotation.at i j))
      (subst (λ x. IsFloor x (floor_of (((P · wide g) · Q).at i j)).0) (ap (λ (X : Matrix rationals 3 3). X.at i j) (sym (rotation_is g f a)) ∙ whole-at f.rotation i j) (floor_of (((P · wide g) · Q).at i j)).1)))

  pub image_is : (g f : Operation) → IsImage P p g f → image_of g ≡ f
  unfolding image_of
  image_is g f a = operation-ext (image_of g) f (same_rotation g f a)
      (ap₂ (λ (x : Vector) (R : Rotation). x ⊖ (whole_matrix rationals R · p)) (sym a.vector) (same_rotation g f a) ∙ add-sub f.vector (wide f · p))

  -- a subgroup, where each of its operations has an image
  pub subgroup_of : (H G : Operation → Type 0) → ((g : Operation) → H g → Has P p G g) → IsSubgroup P p H G image_of
  subgroup_of H G has = record {
    inverse = Q;
    basis-inverse = invertible;
    is_image = λ g m. let t = has g m in subst (IsImage P p g) (sym (image_is g t.image t.is_image)) t.is_image;
    member = λ g m. let t = has g m in subst G (sym (image_is g t.image t.is_image)) t.member;
  }
