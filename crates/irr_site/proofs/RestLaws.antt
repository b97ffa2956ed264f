-- What is left of an operation that carries a site to itself.
--   conjugate_of_together        it has the rotation R_a^-1 R R_a, which is one of the site group
--   kept                         so where it has this rotation, it carries the site to itself, by this translation
use Rattle.std.proofs.Common.{◌≡◌, sym, ◌∙◌, ap, ap₂, subst, subst₂, refl, ℕ, ◌<◌, List, length, get_or, slice_index}
use Rattle.irr_algebra.specs.Fin.{Fin, to_nat}
use Rattle.irr_algebra.specs.Matrix.{◌·◌, ◌⊕◌, ◌⊖◌}
use Rattle.irr_algebra.proofs.Indices.{from_nat, to_nat-from_nat, to_nat-lt}
use Rattle.irr_algebra.specs.Ring.{Ring}
use Rattle.irr_algebra.proofs.Matrices as M
use Rattle.irr_algebra.proofs.Rings.{ring_laws}
use Rattle.irr_rational.specs.Integer.{whole_matrix}
use Rattle.irr_rational.specs.Rational.{rationals}
use Rattle.irr_lattice.proofs.Translations.{operation-ext}
use Rattle.irr_space.specs.Operation.{Operation, Vector, WaveVector, ◌⊙◌, translation}
use Rattle.irr_space.specs.Reciprocal.{IsPhase, Sign}
use Rattle.irr_space.specs.SpaceGroup.{IsTranslation}
use Rattle.irr_cocycle.proofs.Operations.{op-assoc, rotation-op, rotation-translation-op, vector-op, vector-translation-op, wide, wide-op}
use Rattle.irr_seitz.specs.OperationMeaning.{operation}
use Rattle.irr_seitz.specs.declared.op.Op.{Op}
use Rattle.irr_close.specs.StandsFor.{stands_for}
use Rattle.irr_close.specs.declared.group.Group.{Group}
use Rattle.irr_close.proofs.SpaceGroups.{space_group}
use Rattle.irr_little.proofs.Spaces.{canonical_at, place_of}
use Rattle.irr_little.proofs.SubgroupTables.{product_translation}
use Rattle.irr_orbit.specs.Site.{AreTogether, DifferBy, Orbit, carrier, image, site}
use Rattle.irr_orbit.proofs.Points.{image-op, image-translation}
use Rattle.irr_orbit.proofs.Sites.{carrier_member, rest}
use Rattle.irr_site.specs.Orbits.{HasPlaces}
use Rattle.irr_site.specs.Products.{IsRotationProduct}
use Rattle.irr_site.specs.Rests.{IsConjugate, IsKept, IsRestAt}
use Rattle.irr_site.specs.declared.rest.Rest.{Rest}
use Rattle.irr_site.proofs.Cosets.{some_op}
use Rattle.irr_site.proofs.SiteGroups.{fixing-is, fixing-vector, get_same}

-- b is its difference from h after what is taken and added again
regroup : (b h p q : Vector) → (((b ⊖ h) ⊕ (p ⊖ q)) ⊕ h) ⊕ (q ⊖ p) ≡ b
unfolding ◌⊕◌ ◌⊖◌
regroup b h p q = M.matrix-ext (λ i j. entries rationals (b.at i j) (h.at i j) (p.at i j) (q.at i j))
  where
    entries : (R : Ring) (b h p q : R.Carrier) → R.add (R.add (R.add (R.add b (R.neg h)) (R.add p (R.neg q))) h) (R.add q (R.neg p)) ≡ b
    entries R b h p q = simp (ring_laws, R)

module _ (group : Group) {x : Vector} (xs : List ℕ) (O : Orbit (stands_for group) x) (has : HasPlaces group xs O)
    (op c : ℕ) (l : op < length group.ops.items) (m : c < length group.ops.items) (a : Fin O.sites)
    (carried : (d : Op) → carrier O a ≡ operation (get_or group.ops.items c d)) where
  abbrev G : Operation → Type 0
  G = stands_for group

  abbrev g : Op → Operation
  g d = operation (get_or group.ops.items op d)

  -- the number of the product of the rotations
  product_here : (d : Op) → (both : ℕ) × IsRotationProduct group op c both
  product_here d =
      let p = place_of group d (g d ⊙ carrier O a) ((space_group group).is_group.has_product (g d) (carrier O a)
      (canonical_at group d op l).member (carrier_member G (space_group group).is_group O a)) in (
        p.0,
        record {
          below = p.1;
          is = λ e. ap (λ (f : Operation). f.rotation) (get_same group p.0 e d p.1) ∙ p.2 ∙ rotation-op (g d) (carrier O a)
              ∙ ap₂ (λ (f h : Operation). f.rotation · h.rotation) (get_same group op d e l) (carried e);
        },
      )

  -- the products of rotations, at the operations
  pub conjugate_of_together : (d : Op) → AreTogether G (image (g d) (site O a)) (site O a)
      → (n : ℕ) × (n < length xs) × IsConjugate group op c (slice_index xs n)
  conjugate_of_together d (t, p) =
      let r = rest G (space_group group).is_group O (g d) (canonical_at group d op l).member a a t p in
      let both = product_here d in (
        to_nat r.0,
        subst (λ k. to_nat r.0 < k) has.count (to_nat-lt r.0),
        (
          both.0,
          both.1,
          record {
            below = both.1.below;
            is = λ e. both.1.is e
                ∙ ap₂ (λ (f h : Operation). f.rotation · h.rotation) (get_same group op e d l) (sym (carried e))
                ∙ sym (rotation-op (g d) (carrier O a)) ∙ ap (λ (f : Operation). f.rotation) r.1
                ∙ rotation-op (translation t ⊙ carrier O a) (O.operation r.0)
                ∙ ap₂ (λ R S. R · S) (rotation-translation-op t (carrier O a)) (has.rotation r.0 e)
                ∙ ap (λ (f : Operation). f.rotation · (operation (get_or group.ops.items (slice_index xs (to_nat r.0)) e)).rotation) (carried e);
          },
        ),
      )

  -- the translation, with the number of the product
  pub shift_is : (both : ℕ) → IsRotationProduct group op c both → (d : Op) (t : Vector)
      → t ≡ ((g d ⊙ operation (get_or group.ops.items c d)).vector ⊖ (operation (get_or group.ops.items c d)).vector)
      ⊕ ((whole_matrix rationals (operation (get_or group.ops.items both d)).rotation · x)
      ⊖ (whole_matrix rationals (operation (get_or group.ops.items c d)).rotation · x))
      → t ≡ ((g d ⊙ carrier O a).vector ⊖ (carrier O a).vector)
      ⊕ ((whole_matrix rationals (g d ⊙ carrier O a).rotation · x) ⊖ (whole_matrix rationals (carrier O a).rotation · x))
  shift_is both product d t e = e
      ∙ ap (λ R. ((g d ⊙ operation (get_or group.ops.items c d)).vector ⊖ (operation (get_or group.ops.items c d)).vector)
      ⊕ ((whole_matrix rationals R · x) ⊖ (whole_matrix rationals (operation (get_or group.ops.items c d)).rotation · x)))
      (product.is d ∙ sym (rotation-op (g d) (operation (get_or group.ops.items c d))))
      ∙ ap (λ (h : Operation). ((g d ⊙ h).vector ⊖ h.vector)
      ⊕ ((whole_matrix rationals (g d ⊙ h).rotation · x) ⊖ (whole_matrix rationals h.rotation · x))) (sym (carried d))

  -- x and R x for the rotation of an operation
  abbrev turn : Operation → Vector
  turn f = whole_matrix rationals f.rotation · x

  module _ (n : ℕ) (inside : n < length xs) (conjugate : IsConjugate group op c (slice_index xs n)) (d : Op) (t : Vector)
      (is : t ≡ ((g d ⊙ carrier O a).vector ⊖ (carrier O a).vector)
      ⊕ ((whole_matrix rationals (g d ⊙ carrier O a).rotation · x) ⊖ (whole_matrix rationals (carrier O a).rotation · x))) where
    abbrev here : n < O.places
    here = subst (λ k. n < k) (sym has.count) inside

    abbrev place : Fin O.places
    place = from_nat O.places n here

    place-number : to_nat place ≡ n
    place-number = to_nat-from_nat O.places n here

    abbrev rest_op : Operation
    rest_op = O.operation place

    rotations : (g d ⊙ carrier O a).rotation ≡ (carrier O a).rotation · rest_op.rotation
    rotations = rotation-op (g d) (carrier O a)
        ∙ ap (λ (f : Operation). (g d).rotation · f.rotation) (carried d)
        ∙ sym (conjugate.1.is d) ∙ conjugate.2.is d
        ∙ ap₂ (λ (f : Operation) (k : ℕ). f.rotation · (operation (get_or group.ops.items (slice_index xs k) d)).rotation) (sym (carried d)) (sym place-number)
        ∙ ap (λ R. (carrier O a).rotation · R) (sym (has.rotation place d))

    -- n is (S|x - Sx)
    rest_vector : rest_op.vector ≡ x ⊖ turn rest_op
    rest_vector = ap (λ (f : Operation). f.vector) (sym (fixing-is rest_op rest_op x (O.numbering.member place).keeps refl)) ∙ fixing-vector rest_op x

    vectors : (g d ⊙ carrier O a).vector ≡ ((translation t ⊙ carrier O a) ⊙ rest_op).vector
    vectors = sym (vector-op (translation t ⊙ carrier O a) rest_op
        ∙ ap₂ (λ v W. v ⊕ (W · rest_op.vector)) (vector-translation-op t (carrier O a))
        (ap (whole_matrix rationals) (rotation-translation-op t (carrier O a)))
        ∙ ap (λ v. (t ⊕ (carrier O a).vector) ⊕ v) (ap (λ v. wide (carrier O a) · v) rest_vector
        ∙ M.mul-sub (wide (carrier O a)) x (wide rest_op · x)
        ∙ ap (λ v. (wide (carrier O a) · x) ⊖ v) (sym (M.mul_assoc (wide (carrier O a)) (wide rest_op) x)
        ∙ ap (λ W. W · x) (sym (wide-op (carrier O a) rest_op)
        ∙ ap (whole_matrix rationals) (rotation-op (carrier O a) rest_op ∙ sym rotations))))
        ∙ ap (λ v. (v ⊕ (carrier O a).vector) ⊕ ((wide (carrier O a) · x) ⊖ (wide (g d ⊙ carrier O a) · x))) is
        ∙ regroup (g d ⊙ carrier O a).vector (carrier O a).vector (wide (g d ⊙ carrier O a) · x) (wide (carrier O a) · x))

    pub product : g d ⊙ carrier O a ≡ (translation t ⊙ carrier O a) ⊙ O.operation place
    product = operation-ext (g d ⊙ carrier O a) ((translation t ⊙ carrier O a) ⊙ rest_op)
        (rotations ∙ sym (rotation-op (translation t ⊙ carrier O a) rest_op ∙ ap (λ R. R · rest_op.rotation) (rotation-translation-op t (carrier O a))))
        vectors

    pub shift_in : IsTranslation G t
    shift_in = product_translation G (space_group group).is_group (g d) (carrier O a) (carrier O a ⊙ O.operation place) t
        (canonical_at group d op l).member (carrier_member G (space_group group).is_group O a)
        ((space_group group).is_group.has_product (carrier O a) (O.operation place) (carrier_member G (space_group group).is_group O a) (O.numbering.member place).member)
        (product ∙ op-assoc (translation t) (carrier O a) (O.operation place))

    pub differ : DifferBy G t (image (g d) (site O a)) (site O a)
    differ = record {
      is_translation = shift_in;
      is_sum = sym (image-op (g d) (carrier O a) x) ∙ ap (λ f. image f x) product
          ∙ image-op (translation t ⊙ carrier O a) (O.operation place) x ∙ ap (image (translation t ⊙ carrier O a)) (O.numbering.member place).keeps
          ∙ image-op (translation t) (carrier O a) x ∙ image-translation t (site O a);
    }

    pub kept : (s : Sign) (k : WaveVector) (N e : ℕ) (q : Rest) → q.place ≡ n → q.exponent ≡ e → IsPhase s N k t e
        → IsKept s k N O (g d) a q
    kept s k N e q same exponent phase = record {
      translation_of = t;
      differ = differ;
      is_phase = subst (IsPhase s N k t) (sym exponent) phase;
      place = place;
      number = place-number ∙ sym same;
      is_product = product;
    }
