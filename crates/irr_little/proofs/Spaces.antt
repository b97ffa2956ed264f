-- What the form of a group gives, and where its operations carry wave vectors.
--   form_of                      the canonical form
--   same_reciprocal              the reciprocal lattice is that of the centrings
--   at_place, canonical_at       the canonical operation with a number
--   place_of                     and the number of the rotation of an operation
--   carries_along                an operation carries a wave vector where it carries an equivalent one
--   kept_of_carried, carried_of_kept     it carries k to an equivalent one exactly where kR is equivalent to k
--   carried_same, carried_to     it carries k to one wave vector, up to equivalence
use Rattle.std.proofs.Common.{◌≡◌, sym, ◌∙◌, ap, subst, subst₂, ℕ, ◌<◌, ◌↔◌, length, get_or}
use Rattle.irr_algebra.proofs.Indices.{from_nat, to_nat-from_nat}
use Rattle.irr_space.specs.Operation.{Operation, WaveVector, IsInverse, turned}
use Rattle.irr_space.specs.Reciprocal.{IsReciprocal, AreEquivalent}
use Rattle.irr_space.specs.CanonicalOperation.{IsCanonicalOperation, IsNumbering}
use Rattle.irr_space.specs.Star.{Carries}
use Rattle.irr_seitz.specs.OperationMeaning.{operation}
use Rattle.irr_seitz.specs.declared.op.Op.{Op}
use Rattle.irr_kvec.specs.Centrings.{LatticeOf, AreCentrings}
use Rattle.irr_kvec.proofs.GroupLattices.{reciprocal_same}
use Rattle.irr_cocycle.specs.SpaceGroupLaws.{IsGroup, HasCanonical}
use Rattle.irr_cocycle.proofs.Operations.{turned-op, turned-identity}
use Rattle.irr_cocycle.proofs.Reciprocals.{equivalent_sym, equivalent_trans, equivalent-turned}
use Rattle.irr_close.specs.Canonical.{AreCanonical, numbered}
use Rattle.irr_close.specs.StandsFor.{stands_for}
use Rattle.irr_close.specs.declared.group.Group.{Group}
use Rattle.irr_close.proofs.Members.{canonical_of}
use Rattle.irr_close.proofs.Untruncated.{untruncated}

pub form_of : (group : Group) → AreCanonical group.ops.items group.centrings.items
form_of group = untruncated group.ops.items group.centrings.items group.form

pub same_reciprocal : (group : Group) (k : WaveVector) → IsReciprocal (stands_for group) k ↔ IsReciprocal (LatticeOf group.centrings.items) k
unfolding stands_for
same_reciprocal group k = reciprocal_same (stands_for group) group.centrings.items (form_of group).centrings k

pub at_place : (group : Group) (d : Op) (p : ℕ) (l : p < length group.ops.items)
    → numbered group.ops.items d (from_nat (length group.ops.items) p l) ≡ operation (get_or group.ops.items p d)
at_place group d p l = ap (λ n. operation (get_or group.ops.items n d)) (to_nat-from_nat (length group.ops.items) p l)

pub numbering_of : (group : Group) (d : Op) → IsNumbering (stands_for group) (λ _. Unit {0}) (numbered group.ops.items d)
unfolding stands_for
numbering_of group d = (form_of group).numbering d

pub canonical_at : (group : Group) (d : Op) (p : ℕ) → p < length group.ops.items → IsCanonicalOperation (stands_for group) (operation
    (get_or group.ops.items p d))
canonical_at group d p l = subst (IsCanonicalOperation (stands_for group)) (at_place group d p l)
    ((numbering_of group d).canonical (from_nat (length group.ops.items) p l))

pub has_canonical : (group : Group) → HasCanonical (stands_for group)
unfolding stands_for
has_canonical group = canonical_of group.ops.items group.centrings.items (form_of group)

-- each operation has the rotation of a canonical one
pub place_of : (group : Group) (d : Op) (g : Operation) → stands_for group g
    → (p : ℕ) × (p < length group.ops.items) × ((operation (get_or group.ops.items p d)).rotation ≡ g.rotation)
unfolding stands_for
place_of group d g s = (s.0, s.1, sym (s.2 d).0)

module _ (G : Operation → Type 0) (group : IsGroup G) (g : Operation) (m : G g) where
  image_is : (k image : WaveVector) (h : Operation) → IsInverse g h → turned image g ≡ k → image ≡ turned k h
  image_is k image h i e = sym (turned-identity image) ∙ ap (turned image) (sym i.right) ∙ turned-op image g h ∙ ap (λ w. turned w h) e

  pub carries_along : (k w image : WaveVector) → AreEquivalent G w k → turned image g ≡ w → Carries G g k image
  carries_along k w image e t = let i = group.has_inverse g m in record {
    image = turned k i.0;
    turned_back = sym (turned-op k i.0 g) ∙ ap (turned k) i.2.left ∙ turned-identity k;
    equivalent = subst (λ x. AreEquivalent G x (turned k i.0)) (sym (image_is w image i.0 i.2 t)) (equivalent-turned G group w k i.0 i.1 e);
  }

  pub kept_of_carried : (k w : WaveVector) → Carries G g k w → AreEquivalent G w k → AreEquivalent G (turned k g) k
  kept_of_carried k w c e = equivalent_sym G k (turned k g) (subst (λ x. AreEquivalent G x (turned k g)) c.turned_back
      (equivalent-turned G group c.image k g m (equivalent_trans G c.image w k (equivalent_sym G w c.image c.equivalent) e)))

  pub carried_of_kept : (k w : WaveVector) → Carries G g k w → AreEquivalent G (turned k g) k → AreEquivalent G w k
  carried_of_kept k w c e = let i = group.has_inverse g m in equivalent_trans G w c.image k c.equivalent
      (subst₂ (λ x y. AreEquivalent G x y) (sym (image_is k c.image i.0 i.2 c.turned_back)) (sym (turned-op k g i.0) ∙ ap (turned k) i.2.right
      ∙ turned-identity k)
      (equivalent_sym G (turned (turned k g) i.0) (turned k i.0) (equivalent-turned G group (turned k g) k i.0 i.1 e)))

  pub carried_same : (k w v : WaveVector) → Carries G g k w → Carries G g k v → AreEquivalent G w v
  carried_same k w v c d = let i = group.has_inverse g m in equivalent_trans G w c.image v c.equivalent
      (subst (λ x. AreEquivalent G x v) (image_is k d.image i.0 i.2 d.turned_back ∙ sym (image_is k c.image i.0 i.2 c.turned_back))
      (equivalent_sym G v d.image d.equivalent))

pub carried_to : (G : Operation → Type 0) (g : Operation) (k w v : WaveVector) → Carries G g k w → AreEquivalent G v w → Carries G g k v
carried_to G g k w v c e = record { image = c.image; turned_back = c.turned_back; equivalent = equivalent_trans G v w c.image e c.equivalent }

pub centrings_of : (group : Group) → AreCentrings (stands_for group) group.centrings.items
unfolding stands_for
centrings_of group = (form_of group).centrings
