-- Operations of a group of the program: their sizes; which images are in it.
--   member_within            the entries of its rotations are at most 9
--   member_small             its vectors have a common denominator of at most 100,000
--   may_be                   an image in the group is one that the program finds
--   small_denominator, small_member     an operation of the program in the group has a denominator of at most 100,000
--   inverse_at               P has an inverse where its determinant is not 0
--   has_all_images           each generated operation has an image
--   is_sub                   the subgroup
use Rattle.std.proofs.Common.{◌≡◌, sym, ◌∙◌, ap, subst, ℕ, ◌<◌, ◌≤◌, ◌^◌, ◌+◌, List, length, get_or, unsigned_abs, arith}
use Rattle.std.specs.Prelude.{Contains, map, ◌↔◌}
use Rattle.std.specs.List.{All, HoldsAt}
use Rattle.std.proofs.Math.Logic.{∥∥₁_elim}
use Rattle.irr_algebra.specs.Fin.{Fin}
use Rattle.irr_algebra.specs.Ring.{whole}
use Rattle.irr_algebra.specs.Matrix.{Matrix, ◌·◌, ◌⊕◌, ◌⊖◌, unit}
use Rattle.irr_rational.specs.Rational.{rationals, IsWhole}
use Rattle.irr_space.specs.Operation.{Operation, Vector, component}
use Rattle.irr_space.specs.SpaceGroup.{Generated}
use Rattle.irr_cocycle.proofs.Operations.{sub-add}
use Rattle.irr_rat.specs.VectorMeaning.{vector, vector_of}
use Rattle.irr_rat.specs.declared.vec3.Vec3.{Vec3}
use Rattle.irr_seitz.specs.Rotation.{IsWithin}
use Rattle.irr_seitz.specs.OperationMeaning.{operation, AreWithin}
use Rattle.irr_seitz.specs.declared.op.Op.{Op}
use Rattle.irr_close.specs.Centring.{AreOverOne}
use Rattle.irr_close.specs.Limits.{operations}
use Rattle.irr_close.specs.StandsFor.{stands_for, IsAccepted}
use Rattle.irr_close.specs.declared.group.Group.{Group}
use Rattle.irr_close.proofs.Bareness.{first_of}
use Rattle.irr_close.proofs.Denominators.{IsOver, over_of_divides, over-add, over_whole}
use Rattle.irr_close.proofs.SpaceGroups.{space_group}
use Rattle.irr_close.proofs.Untruncated.{stable_le}
use Rattle.irr_little.proofs.Spaces.{form_of}
use Rattle.irr_root.proofs.RootLists.{item_of}
use Rattle.irr_full.specs.Restriction.{IsImage, IsSubgroup}
use Rattle.irr_full.proofs.Images.{image_unique}
use Rattle.irr_setting.specs.Setting.{basis, origin, IsSingular, IsSmall, MayBeImage, HasSmallVector}
use Rattle.irr_setting.specs.declared.setting.Setting.{Setting}
use Rattle.irr_setting.proofs.Bases.{inverse_of_basis, inverse_basis}
use Rattle.irr_setting.proofs.ImageLaws.{regular_numerators, denominator_of_small}
use Rattle.irr_subduce.specs.Subgroup.{HasImage, HasColumns, IsInside, IsSub}
use Rattle.irr_subduce.proofs.SubgroupImages.{Has, generated_image, image_of, subgroup_of}

module _ (group : Group) (g : Operation) (m : stands_for group g) where
  pub member_within : IsWithin 9 g.rotation
  unfolding stands_for
  member_within = let d = first_of group.ops.items (form_of group).nonempty in subst (IsWithin 9) (sym (m.2 d).0) ((form_of group).within m.0 d m.1)

  pub over_common : AreOverOne group.ops.items group.centrings.items → HasSmallVector g.vector
  unfolding stands_for
  over_common over =
      let d = first_of group.ops.items (form_of group).nonempty in
      let e = first_of group.centrings.items (form_of group).has_centring in
      let at = m.2 d in
      let c = get_or group.centrings.items at.1.0 e in
      let k = get_or group.ops.items m.0 d in
      record {
        common = over.common;
        positive = over.positive;
        small = over.small;
        multiple = subst (IsOver over.common) (sub-add g.vector (operation k).vector)
            (over-add over.common (g.vector ⊖ (operation k).vector) (operation k).vector
            (subst (IsOver over.common) (sub-add (g.vector ⊖ (operation k).vector) (vector c))
            (over-add over.common ((g.vector ⊖ (operation k).vector) ⊖ vector c) (vector c) (over_whole over.common ((g.vector ⊖ (operation k).vector) ⊖ vector c) (at.1.2 e))
            (over_of_divides c.num c.den over.common c.lowest.positive (over.divide at.1.0 e at.1.1))))
            (over_of_divides k.num k.den over.common k.lowest.positive (over.kept_divide m.0 d m.1)));
      }

-- an operation of the program
pub small_denominator : (group : Group) (op : Op) → stands_for group (operation op) → op.den ≤ 100000
small_denominator group op m = stable_le op.den 100000 (λ denied. ∥∥₁_elim (form_of group).denominator (λ a b. absurd a)
    (λ over. denied (denominator_of_small op.num op.den op.lowest (over_common group (operation op) m over))))

pub small_member : (group : Group) (op : Op) → stands_for group (operation op) → AreWithin (10 ^ 9) op.num → IsSmall op
small_member group op m h = record {
  within = member_within group (operation op) m;
  numerators = λ i. (let s = h i in omega arith);
  denominator = small_denominator group op m;
}

module _ (group : Group) (s : Setting) where
  pub may_be : AreOverOne group.ops.items group.centrings.items → (g f : Operation) → IsImage (basis s) (origin s) g f → stands_for group f → MayBeImage s g f
  may_be over g f a m = record { is_image = a; within = member_within group f m; vector = over_common group f m over }

  -- what the program does not find is in no group
  pub no_image : (g : Operation) → ((f : Operation) → ¬ (MayBeImage s g f)) → ¬ (HasImage group s g)
  no_image g none h = ∥∥₁_elim (form_of group).denominator (λ a b. absurd a) (λ over. none h.image (may_be over g h.image h.is_image h.member))

  module _ (regular : ¬ (IsSingular s)) where
    abbrev pub Q : Matrix rationals 3 3
    Q = inverse_of_basis s.num s.den

    pub invertible : basis s · Q ≡ unit rationals 3
    invertible = inverse_basis s.num s.den s.positive (regular_numerators s regular)

    -- the program's image decides
    pub image_decides : (g f : Operation) → MayBeImage s g f → stands_for group f ↔ HasImage group s g
    image_decides g f a = (
      λ m. record { image = f; is_image = a.is_image; member = m },
      λ h. subst (stands_for group) (image_unique (basis s) (origin s) Q invertible g h.image f h.is_image a.is_image) h.member,
    )

    module _ (columns : HasColumns group s) (gens : List Op) (images : All (λ g. HasImage group s (operation g)) gens) where
      generator_has : (g : Operation) → Contains (operations gens) g → Has (basis s) (origin s) (stands_for group) g
      generator_has g m =
          let t = item_of operation gens g m in
          let h : HasImage group s g = subst (HasImage group s) (ap operation (sym t.3) ∙ t.4) (images t.0 t.2 t.1) in
          record { image = h.image; is_image = h.is_image; member = h.member }

      pub generated_has : (g : Operation) → Generated (operations gens) g → Has (basis s) (origin s) (stands_for group) g
      generated_has = generated_image (basis s) (origin s) Q invertible (stands_for group) (space_group group).is_group columns (operations gens) generator_has

      module _ (inner : Group) (same : (g : Operation) → stands_for inner g ↔ Generated (operations gens) g) where
        pub have_images : ∥ ((g : Operation) → stands_for inner g → (f : Operation) × MayBeImage s g f) ∥₁
        have_images = ∥∥₁_elim (form_of group).denominator squash₁
            (λ over. ∣ (λ g m. let t = generated_has g ((same g).0 m) in (t.image, may_be over g t.image t.is_image t.member)) ∣₁)

        pub is_subgroup : IsSubgroup (basis s) (origin s) (stands_for inner) (stands_for group) (image_of (basis s) (origin s) Q invertible)
        is_subgroup = subgroup_of (basis s) (origin s) Q invertible (stands_for inner) (stands_for group) (λ g m. generated_has g ((same g).0 m))
