-- Each group is a space group: what some generators generate.
--   unimodular_of     rotations with inverses have determinant 1 or -1
--   space_group       the operations are a group, and the centrings a list of centrings
use Rattle.std.proofs.Common.{◌≡◌, ◌∙◌, ap, List, length, get_or, unsigned_abs}
use Rattle.std.proofs.Math.Logic.{∥∥₁_elim}
use Rattle.std.specs.List.{All}
use Rattle.irr_algebra.specs.Matrix.{◌·◌, null, scale, unit}
use Rattle.irr_algebra.specs.Ring.{whole}
use Rattle.irr_number.specs.Integers.{integers}
use Rattle.irr_rational.specs.Rational.{rationals}
use Rattle.irr_rational.proofs.WholeNumbers.{whole_decide}
use Rattle.irr_space.specs.Operation.{Operation, Rotation, ◌⊙◌, identity, component, IsInverse}
use Rattle.irr_space.specs.SpaceGroup.{Generated}
use Rattle.irr_space.specs.SpaceGroup.Generated.{one, product, inverse}
use Rattle.irr_rat.specs.VectorMeaning.{vector}
use Rattle.irr_rat.specs.declared.vec3.Vec3.{Vec3}
use Rattle.irr_seitz.specs.Rotation.{determinant}
use Rattle.irr_seitz.specs.OperationMeaning.{operation}
use Rattle.irr_seitz.specs.declared.op.Op.{Op}
use Rattle.irr_kvec.specs.Centrings.{IsCentringList}
use Rattle.irr_kvec.proofs.CentringLists.{are_centring_list}
use Rattle.irr_cocycle.specs.SpaceGroupLaws.{IsGroup}
use Rattle.irr_close.specs.Standing.{StandFor}
use Rattle.irr_close.specs.GeneratedGroup.{AreGenerated}
use Rattle.irr_close.specs.Canonical.{AreCanonical, IsRotationGroup}
use Rattle.irr_close.specs.StandsFor.{stands_for}
use Rattle.irr_close.specs.SpaceGroup.{IsSpaceGroup}
use Rattle.irr_close.specs.declared.group.Group.{Group}
use Rattle.irr_close.proofs.Along.{centrings_along}
use Rattle.irr_close.proofs.Bareness.{first_of}
use Rattle.irr_close.proofs.CanonicalForm.{centred}
use Rattle.irr_close.proofs.Closure.{null_whole}
use Rattle.irr_close.proofs.Determinants.{unimodular_of_inverse}
use Rattle.irr_close.proofs.Lattice.{inverse_operation}
use Rattle.irr_close.proofs.Untruncated.{stable, stand_or_not, untruncated}

-- the rotations with inverses have determinant 1 or -1
pub unimodular_of : (ops : List Op) → IsRotationGroup ops → All (λ g. unsigned_abs (determinant (operation g).rotation) ≡ 1) ops
unimodular_of ops r k d l = let t = r.inverses k d l in unimodular_of_inverse (operation (get_or ops k d)).rotation
    (operation (get_or ops t.0 d)).rotation (t.2 d)

module _ (ops : List Op) (cs : List Vec3) (form : AreCanonical ops cs) (generated : ∥ AreGenerated ops cs ∥₁) where
  know : {A : Type 0} → (AreGenerated ops cs → A) → ¬ (¬ A)
  know f denied = ∥∥₁_elim generated (λ a b. absurd a) (λ t. denied (f t))

  in_group : (g : Operation) → ¬ (¬ (StandFor ops cs g)) → StandFor ops cs g
  in_group g h = stable (stand_or_not ops cs (first_of ops form.nonempty) (first_of cs form.has_centring) g) h

  -- the rotation of an operation of the group has an inverse
  inverse_rotation : (g : Operation) → StandFor ops cs g → (S : Rotation) × (g.rotation · S ≡ unit integers 3)
  inverse_rotation g s =
      let d = first_of ops form.nonempty in
      let t = form.rotations.inverses s.0 d s.1 in
      ((operation (get_or ops t.0 d)).rotation, ap (λ (R : Rotation). R · (operation (get_or ops t.0 d)).rotation) (s.2 d).0 ∙ t.2 d)

  inverse_in : (g : Operation) → StandFor ops cs g → (h : Operation) × StandFor ops cs h × IsInverse g h
  inverse_in g s =
      let r = inverse_rotation g s in
      let t = inverse_operation g r.0 r.1 in
      (t.0, in_group t.0 (know (λ k. (k.same t.0).1 (inverse t.1 ((k.same g).0 s)))), t.1)

  pub are_group : IsGroup (StandFor ops cs)
  are_group = record {
    has_identity = in_group identity (know (λ k. (k.same identity).1 one));
    has_product = λ g h p q. in_group (g ⊙ h) (know (λ k. (k.same (g ⊙ h)).1 (product ((k.same g).0 p) ((k.same h).0 q))));
    has_inverse = inverse_in;
  }

  listed : AreGenerated ops cs → IsCentringList cs
  listed k = are_centring_list k.generators cs
      (centrings_along (StandFor ops cs) (Generated k.generators) k.same cs form.centrings) form.few_centrings

  pub are_centrings : IsCentringList cs
  are_centrings = record {
    zero = centred cs (first_of cs form.has_centring) null (form.lattice.whole null null_whole);
    few = form.few_centrings;
    multiple = λ c m i. stable (whole_decide (component (scale rationals (whole rationals (length cs)) (vector c)) i))
        (know (λ k. (listed k).multiple c m i));
  }

pub space_group : (group : Group) → IsSpaceGroup group
unfolding stands_for
space_group group =
    let form = untruncated group.ops.items group.centrings.items group.form in record {
      is_group = are_group group.ops.items group.centrings.items form group.generated;
      unimodular = unimodular_of group.ops.items form.rotations;
      centrings = are_centrings group.ops.items group.centrings.items form group.generated;
    }
