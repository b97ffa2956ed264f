-- Operations that carry a point to points that are together: the cosets of its site group.
--   carried                        the operation with a number carries the point
--   together_of_product            h_j x and h_i x are together where R_i R_b = R_j, with R_b a rotation of the site group
--   product_of_together            and there alone
--   same_number                    a product of rotations has one number
use Rattle.std.proofs.Common.{◌≡◌, sym, ◌∙◌, ap, ap₂, subst, ℕ, ◌<◌, List, length, get_or, Contains}
use Rattle.std.proofs.lemmas.List.{get_or_default}
use Rattle.irr_algebra.specs.Fin.{to_nat}
use Rattle.irr_algebra.specs.Matrix.{◌·◌, ◌⊖◌}
use Rattle.irr_algebra.proofs.Indices.{from_nat, to_nat-from_nat}
use Rattle.irr_space.specs.Operation.{Operation, Vector, ◌⊙◌, translation, IsInverse}
use Rattle.irr_space.specs.SpaceGroup.{IsTranslation}
use Rattle.irr_cocycle.specs.SpaceGroupLaws.{IsGroup}
use Rattle.irr_cocycle.proofs.Numberings.{rotation_distinct}
use Rattle.irr_cocycle.proofs.Operations.{rotation-op, rotation-translation-op, translation_between, op-assoc}
use Rattle.irr_seitz.specs.OperationMeaning.{operation}
use Rattle.irr_seitz.specs.declared.op.Op.{Op}
use Rattle.irr_close.specs.Canonical.{numbered}
use Rattle.irr_close.specs.StandsFor.{stands_for}
use Rattle.irr_close.specs.declared.group.Group.{Group}
use Rattle.irr_close.proofs.Bareness.{first_of}
use Rattle.irr_close.proofs.SpaceGroups.{space_group}
use Rattle.irr_little.proofs.Spaces.{at_place, canonical_at, form_of, numbering_of}
use Rattle.irr_little.proofs.SubgroupTables.{product_translation}
use Rattle.irr_orbit.specs.Site.{AreTogether, DifferBy, IsInSiteGroup, image}
use Rattle.irr_orbit.proofs.Points.{image-identity, image-op, image-translation}
use Rattle.irr_orbit.proofs.Sites.{together_sym, undone}
use Rattle.irr_site.specs.Points.{AreSitePlaces, fixing}
use Rattle.irr_site.specs.Products.{IsRotationProduct}
use Rattle.irr_site.proofs.SiteGroups.{fixing-keeps, fixing-rotation, fixing_member, site_place}

pub some_op : Group → Op
some_op group = first_of group.ops.items (form_of group).nonempty

-- different numbers have different rotations
pub same_rotation : (group : Group) (d : Op) (p q : ℕ) (l : p < length group.ops.items) (m : q < length group.ops.items)
    → (operation (get_or group.ops.items p d)).rotation ≡ (operation (get_or group.ops.items q d)).rotation → p ≡ q
same_rotation group d p q l m e =
    let n = length group.ops.items in
    sym (to_nat-from_nat n p l)
    ∙ ap to_nat (rotation_distinct (stands_for group) (λ _. Unit {0}) (numbered group.ops.items d) (numbering_of group d)
    (from_nat n p l) (from_nat n q m)
    (ap (λ (g : Operation). g.rotation) (at_place group d p l) ∙ e
    ∙ ap (λ (g : Operation). g.rotation) (sym (at_place group d q m))))
    ∙ to_nat-from_nat n q m

pub same_number : (group : Group) (i j l m : ℕ) → IsRotationProduct group i j l → IsRotationProduct group i j m → l ≡ m
same_number group i j l m p q = let d = some_op group in
    same_rotation group d l m p.below q.below (p.is d ∙ sym (q.is d))

module _ (group : Group) (x : Vector) (xs : List ℕ) (places : AreSitePlaces group x xs) (d : Op) where
  abbrev G : Operation → Type 0
  G = stands_for group

  abbrev at : ℕ → Operation
  at p = operation (get_or group.ops.items p d)

  module _ (i : ℕ) (l : i < length group.ops.items) where
    pub together_of_product : (b j : ℕ) → Contains xs b → IsRotationProduct group i b j → AreTogether G (image (at j) x) (image (at i) x)
    together_of_product b j c p =
        let group_law = (space_group group).is_group in
        let n = fixing (at b) x in
        let both = at i ⊙ n in
        let same : both.rotation ≡ (at j).rotation = rotation-op (at i) n
        ∙ ap (λ R. (at i).rotation · R) (fixing-rotation (at b) x) ∙ sym (p.is d) in
        let t = both.vector ⊖ (at j).vector in
        let e : both ≡ translation t ⊙ at j = translation_between both (at j) same in
        together_sym G group_law (image (at i) x) (image (at j) x) (
          t,
          record {
            is_translation = product_translation G group_law (at i) n (at j) t (canonical_at group d i l).member
                (fixing_member group x xs places b d c).member (canonical_at group d j p.below).member e;
            is_sum = ap (image (at i)) (sym (fixing-keeps (at b) x)) ∙ sym (image-op (at i) n x)
                ∙ ap (λ g. image g x) e ∙ image-op (translation t) (at j) x ∙ image-translation t (image (at j) x);
          },
        )

    -- h_j = (1|t) h_i n with n in the site group
    pub product_of_together : (j : ℕ) → j < length group.ops.items → AreTogether G (image (at j) x) (image (at i) x)
        → (b : ℕ) × Contains xs b × IsRotationProduct group i b j
    product_of_together j m (t, p) = from_inverse (group_law.has_inverse (translation t ⊙ at i)
        (group_law.has_product (translation t) (at i) p.is_translation (canonical_at group d i l).member))
      where
        group_law : IsGroup (stands_for group)
        group_law = (space_group group).is_group

        from_inverse : (f : Operation) × G f × IsInverse (translation t ⊙ at i) f → (b : ℕ) × Contains xs b × IsRotationProduct group i b j
        from_inverse (f, q, inverse) = from_place (site_place group x xs places (f ⊙ at j) in_site_group d)
          where
            in_site_group : IsInSiteGroup G x (f ⊙ at j)
            in_site_group = record {
              member = group_law.has_product f (at j) q (canonical_at group d j m).member;
              keeps = image-op f (at j) x ∙ ap (image f) (p.is_sum ∙ sym (image-translation t (image (at i) x))
                  ∙ sym (image-op (translation t) (at i) x)) ∙ sym (image-op f (translation t ⊙ at i) x)
                  ∙ ap (λ y. image y x) inverse.left ∙ image-identity x;
            }

            from_place : (b : ℕ) × (b < length group.ops.items) × Contains xs b × (fixing (at b) x ≡ f ⊙ at j)
                → (b : ℕ) × Contains xs b × IsRotationProduct group i b j
            from_place (b, k, c, e) = (
              b,
              c,
              record {
                below = m;
                is = λ g. ap (λ (o : Op). (operation o).rotation) (defaults j m g)
                    ∙ ap (λ (o : Operation). o.rotation) (sym (undone (translation t ⊙ at i) f (at j) inverse) ∙ ap (λ y. (translation t ⊙ at i) ⊙ y) (sym e))
                    ∙ rotation-op (translation t ⊙ at i) (fixing (at b) x)
                    ∙ ap₂ (λ R S. R · S) (rotation-translation-op t (at i)) (fixing-rotation (at b) x)
                    ∙ ap₂ (λ (o p : Op). (operation o).rotation · (operation p).rotation) (sym (defaults i l g)) (sym (defaults b k g));
              },
            )
              where
                defaults : (q : ℕ) → q < length group.ops.items → (g : Op) → get_or group.ops.items q g ≡ get_or group.ops.items q d
                defaults q w g = get_or_default group.ops.items q g d w
