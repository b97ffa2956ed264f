-- The operations of a site group, by their numbers.
--   fixing-rotation, fixing-keeps, fixing-is     the operation with a rotation that fixes a point
--   get_same                                     an operation with a number, whatever stands past the end
--   listed_below, all_below                      listed numbers
--   site_numbering                               the operations with the listed numbers are those of the site group
--   site_place                                   an operation of the site group has a listed number
use Rattle.std.proofs.Common.{◌≡◌, sym, ◌∙◌, ap, ap₂, subst, subst₂, refl, ℕ, ◌<◌, List, length, get_or, slice_index, Contains, arith}
use Rattle.std.specs.List.{All}
use Rattle.std.proofs.lemmas.List.{get_or_default}
use Rattle.std.proofs.lemmas.List.Elements.{Contains-get_or}
use Rattle.irr_algebra.specs.Fin.{Fin, to_nat}
use Rattle.irr_algebra.specs.Matrix.{◌·◌, ◌⊕◌, ◌⊖◌}
use Rattle.irr_algebra.proofs.Indices.{from_nat, to_nat-from_nat, to_nat-lt}
use Rattle.irr_rational.specs.Integer.{whole_matrix}
use Rattle.irr_rational.specs.Rational.{rationals}
use Rattle.irr_space.specs.Operation.{Operation, Vector}
use Rattle.irr_space.specs.CanonicalOperation.{IsNumberedBefore}
use Rattle.irr_lattice.proofs.Translations.{operation-ext}
use Rattle.irr_cocycle.proofs.Operations.{add-sub, sub-add}
use Rattle.irr_seitz.specs.OperationMeaning.{operation}
use Rattle.irr_seitz.specs.declared.op.Op.{Op}
use Rattle.irr_close.specs.Canonical.{numbered}
use Rattle.irr_close.specs.StandsFor.{stands_for}
use Rattle.irr_close.specs.declared.group.Group.{Group}
use Rattle.irr_little.proofs.Spaces.{at_place, numbering_of, place_of}
use Rattle.irr_orbit.specs.Site.{IsInSiteGroup, IsSiteNumbering, image}
use Rattle.irr_orbit.proofs.Points.{image-parts}
use Rattle.irr_site.specs.Orbits.{fixing_at}
use Rattle.irr_site.specs.Points.{AreSitePlaces, fixing}

pub fixing-rotation : (g : Operation) (x : Vector) → (fixing g x).rotation ≡ g.rotation
unfolding fixing
fixing-rotation g x = refl

pub fixing-vector : (g : Operation) (x : Vector) → (fixing g x).vector ≡ x ⊖ (whole_matrix rationals g.rotation · x)
unfolding fixing
fixing-vector g x = refl

pub fixing-keeps : (g : Operation) (x : Vector) → image (fixing g x) x ≡ x
fixing-keeps g x = image-parts (fixing g x) x
    ∙ ap₂ (λ v R. v ⊕ (whole_matrix rationals R · x)) (fixing-vector g x) (fixing-rotation g x)
    ∙ sub-add x (whole_matrix rationals g.rotation · x)

-- an operation that fixes x is that of its rotation
pub fixing-is : (g f : Operation) (x : Vector) → image g x ≡ x → f.rotation ≡ g.rotation → fixing f x ≡ g
fixing-is g f x keeps e = operation-ext (fixing f x) g (fixing-rotation f x ∙ e)
    (fixing-vector f x ∙ ap (λ R. x ⊖ (whole_matrix rationals R · x)) e
    ∙ ap (λ y. y ⊖ (whole_matrix rationals g.rotation · x)) (sym keeps ∙ image-parts g x)
    ∙ add-sub g.vector (whole_matrix rationals g.rotation · x))

-- the operation with a number
pub get_same : (group : Group) (p : ℕ) (d e : Op) → p < length group.ops.items
    → operation (get_or group.ops.items p d) ≡ operation (get_or group.ops.items p e)
get_same group p d e l = ap operation (get_or_default group.ops.items p d e l)

module _ (group : Group) (x : Vector) (xs : List ℕ) (places : AreSitePlaces group x xs) where
  abbrev G : Operation → Type 0
  G = stands_for group

  pub listed_below : (a : ℕ) → a < length xs → slice_index xs a < length group.ops.items
  listed_below a l = places.below (slice_index xs a) (Contains-get_or xs a 0 l)

  pub all_below : All (λ p. p < length group.ops.items) xs
  all_below a d l = subst (λ p. p < length group.ops.items) (get_or_default xs a 0 d l) (listed_below a l)

  -- the operation that fixes x is in the group
  pub fixing_member : (p : ℕ) (d : Op) → Contains xs p → IsInSiteGroup G x (fixing (operation (get_or group.ops.items p d)) x)
  fixing_member p d c = record { member = places.holds p c d; keeps = fixing-keeps (operation (get_or group.ops.items p d)) x }

  -- and each operation of the site group is one of these
  pub site_place : (g : Operation) → IsInSiteGroup G x g → (d : Op)
      → (p : ℕ) × (p < length group.ops.items) × Contains xs p × (fixing (operation (get_or group.ops.items p d)) x ≡ g)
  site_place g m d =
      let t = place_of group d g m.member in
      let e : fixing (operation (get_or group.ops.items t.0 d)) x ≡ g
      = fixing-is g (operation (get_or group.ops.items t.0 d)) x m.keeps t.2 in (
        t.0,
        t.1,
        places.all t.0 t.1 (λ f. subst G (sym (ap (λ h. fixing h x) (get_same group t.0 f d t.1) ∙ e)) m.member),
        e,
      )

  module _ (h : ℕ) (count : h ≡ length xs) (d : Op) where
    within : (i : Fin h) → to_nat i < length xs
    within i = subst (λ n. to_nat i < n) count (to_nat-lt i)

    number_in : (i : Fin h) → Contains xs (slice_index xs (to_nat i))
    number_in i = Contains-get_or xs (to_nat i) 0 (within i)

    inside : (i : Fin h) → slice_index xs (to_nat i) < length group.ops.items
    inside i = places.below (slice_index xs (to_nat i)) (number_in i)

    place : Fin h → Fin (length group.ops.items)
    place i = from_nat (length group.ops.items) (slice_index xs (to_nat i)) (inside i)

    place-number : (i : Fin h) → to_nat (place i) ≡ slice_index xs (to_nat i)
    unfolding place
    place-number i = to_nat-from_nat (length group.ops.items) (slice_index xs (to_nat i)) (inside i)

    place-rotation : (i : Fin h) → (numbered group.ops.items d (place i)).rotation ≡ (fixing_at group x xs d i).rotation
    place-rotation i = ap (λ n. (operation (get_or group.ops.items n d)).rotation) (place-number i)
        ∙ sym (fixing-rotation (operation (get_or group.ops.items (slice_index xs (to_nat i)) d)) x)

    found : (g : Operation) → (p : ℕ) × (p < length group.ops.items) × Contains xs p
        × (fixing (operation (get_or group.ops.items p d)) x ≡ g) → (i : Fin h) × (fixing_at group x xs d i ≡ g)
    found g (p, l, c, e) =
        let b : c.0 < h = subst (λ n. c.0 < n) (sym count) c.1 in (
          from_nat h c.0 b,
          ap (λ n. fixing (operation (get_or group.ops.items (slice_index xs n) d)) x) (to_nat-from_nat h c.0 b)
              ∙ ap (λ n. fixing (operation (get_or group.ops.items n d)) x) (get_or_default xs c.0 0 p c.1 ∙ c.2) ∙ e,
        )

    pub site_numbering : IsSiteNumbering G x (fixing_at group x {h = h} xs d)
    site_numbering = record {
      member = λ i. fixing_member (slice_index xs (to_nat i)) d (number_in i);
      all = λ g m. found g (site_place g m d);
      ordered = λ i j l. subst₂ (λ R S. IsNumberedBefore R S) (place-rotation i) (place-rotation j)
          ((numbering_of group d).ordered (place i) (place j) (subst₂ (λ a b. a < b) (sym (place-number i))
          (sym (place-number j)) (places.increasing (to_nat i) (to_nat j) l (within j))));
    }
