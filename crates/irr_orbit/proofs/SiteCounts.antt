-- The number of sites.
--   matched_sizes          as many indices as are matched with others
--   sites_places           the number of sites times that of the operations of the site group is that of the canonical operations of G
use Rattle.std.proofs.Common.{◌≡◌, sym, ◌∙◌, ap, ap₂, subst, ℕ, ◌*◌}
use Rattle.irr_algebra.specs.Fin.{Fin}
use Rattle.irr_algebra.specs.Matrix.{◌·◌, ◌⊕◌, ◌⊖◌}
use Rattle.irr_algebra.specs.Pair.{times, pair, on_pairs}
use Rattle.irr_algebra.proofs.Fields.{whole_inj}
use Rattle.irr_algebra.proofs.Pairs.{on_pairs-pair, ext_pairs, times-mul}
use Rattle.irr_algebra.proofs.Sums.{sum-matched, sum-one}
use Rattle.irr_rational.specs.Rational.{rationals, rational_field}
use Rattle.irr_space.specs.Operation.{Operation, Vector, ◌⊙◌, translation, IsInverse}
use Rattle.irr_space.specs.CanonicalOperation.{IsCanonicalOperation}
use Rattle.irr_cocycle.specs.SpaceGroupLaws.{IsGroup, HasCanonical}
use Rattle.irr_cocycle.proofs.Operations.{rotation-op, rotation-translation-op, translation_between, translation-quotient}
use Rattle.irr_cocycle.proofs.Numberings.{rotation_distinct}
use Rattle.irr_orbit.specs.Site.{Orbit, AreTogether, image, carrier, site}
use Rattle.irr_orbit.proofs.Points.{image-op, image-translation}
use Rattle.irr_orbit.proofs.Sites.{carrier_member, image_at_site, moved_once, rest_at, same_place}

pub matched_sizes : (m n : ℕ) (s : Fin m → Fin n) (t : Fin n → Fin m) → ((i : Fin n) → s (t i) ≡ i) → ((i : Fin m) → t (s i) ≡ i) → m ≡ n
matched_sizes m n s t st ts = whole_inj rational_field m n (sym (sum-one rationals m) ∙ sum-matched rationals m n s t st ts (λ i. rationals.one) ∙ sum-one rationals n)

module _ (G : Operation → Type 0) (group : IsGroup G) (chosen : HasCanonical G) {x : Vector} (O : Orbit G x) where
  -- the canonical operation of the rotation of h_a n
  join : (a : Fin O.sites) (n : Fin O.places) → (j : Fin O.count) × ((O.canonical j).rotation ≡ (carrier O a).rotation · (O.operation n).rotation)
  join a n = from_chosen (chosen (carrier O a ⊙ O.operation n) (group.has_product (carrier O a) (O.operation n) (carrier_member G group O a) (O.numbering.member n).member))
    where
      from_chosen : (c : Operation) × IsCanonicalOperation G c × (c.rotation ≡ (carrier O a ⊙ O.operation n).rotation) → (j : Fin O.count) × ((O.canonical j).rotation ≡ (carrier O a).rotation · (O.operation n).rotation)
      from_chosen (c, p, e) = let j = O.canonical_numbering.all c p tt in (j.0, ap (λ (g : Operation). g.rotation) j.1 ∙ e ∙ rotation-op (carrier O a) (O.operation n))

  -- the site of a canonical operation, and what is left of it
  parts : (j : Fin O.count) → (a : Fin O.sites) × (n : Fin O.places) × AreTogether G (image (O.canonical j) x) (site O a) × ((O.canonical j).rotation ≡ (carrier O a).rotation · (O.operation n).rotation)
  parts j = from_site (image_at_site G group O chosen (O.canonical j) member)
    where
      member : G (O.canonical j)
      member = (O.canonical_numbering.canonical j).member

      from_site : (a : Fin O.sites) × AreTogether G (image (O.canonical j) x) (site O a)
          → (a : Fin O.sites) × (n : Fin O.places) × AreTogether G (image (O.canonical j) x) (site O a) × ((O.canonical j).rotation ≡ (carrier O a).rotation · (O.operation n).rotation)
      from_site (a, t) = let n = rest_at G group O (O.canonical j) member a t.0 t.1 in
          (a, n.0, t, ap (λ (g : Operation). g.rotation) n.1 ∙ rotation-op (translation t.0 ⊙ carrier O a) (O.operation n.0) ∙ ap (λ R. R · (O.operation n.0).rotation) (rotation-translation-op t.0 (carrier O a)))

  joined : Fin O.sites → Fin O.places → Fin O.count
  joined a n = (join a n).0

  site_part : Fin O.count → Fin O.sites
  site_part j = (parts j).0

  place_part : Fin O.count → Fin O.places
  place_part j = (parts j).1

  joined-parts : (j : Fin O.count) → joined (site_part j) (place_part j) ≡ j
  unfolding joined site_part place_part
  joined-parts j = rotation_distinct G (λ _. Unit {0}) O.canonical O.canonical_numbering (join (parts j).0 (parts j).1).0 j ((join (parts j).0 (parts j).1).1 ∙ sym (parts j).3)

  -- the canonical operation of h_a n carries x to the a-th site
  together : (a : Fin O.sites) (n : Fin O.places) → AreTogether G (image (O.canonical (joined a n)) x) (site O a)
  unfolding joined
  together a n = (
    c.vector ⊖ f.vector,
    record {
      is_translation = subst G (sym (translation-quotient c f i.0 same_rotation i.2)) (group.has_product c i.0 (O.canonical_numbering.canonical (join a n).0).member i.1);
      is_sum = ap (λ g. image g x) (translation_between c f same_rotation) ∙ image-op (translation (c.vector ⊖ f.vector)) f x ∙ image-translation (c.vector ⊖ f.vector) (image f x)
          ∙ ap (λ y. (c.vector ⊖ f.vector) ⊕ y) (image-op (carrier O a) (O.operation n) x ∙ ap (image (carrier O a)) (O.numbering.member n).keeps);
    },
  )
    where
      c : Operation
      c = O.canonical (join a n).0

      f : Operation
      f = carrier O a ⊙ O.operation n

      i : (h : Operation) × G h × IsInverse f h
      i = group.has_inverse f (group.has_product (carrier O a) (O.operation n) (carrier_member G group O a) (O.numbering.member n).member)

      same_rotation : c.rotation ≡ f.rotation
      same_rotation = (join a n).1 ∙ sym (rotation-op (carrier O a) (O.operation n))

  site_part-joined : (a : Fin O.sites) (n : Fin O.places) → site_part (joined a n) ≡ a
  unfolding site_part
  site_part-joined a n = moved_once G group O (image (O.canonical (joined a n)) x) (parts (joined a n)).0 a (parts (joined a n)).2 (together a n)

  place_part-joined : (a : Fin O.sites) (n : Fin O.places) → place_part (joined a n) ≡ n
  unfolding joined site_part place_part
  place_part-joined a n = same_place G group O a (place_part (joined a n)) n (ap (λ b. (carrier O b).rotation · (O.operation (place_part (joined a n))).rotation) (sym (site_part-joined a n)) ∙ sym (split (joined a n)) ∙ whole)
    where
      split : (j : Fin O.count) → (O.canonical j).rotation ≡ (carrier O (site_part j)).rotation · (O.operation (place_part j)).rotation
      split j = (parts j).3

      whole : (O.canonical (joined a n)).rotation ≡ (carrier O a).rotation · (O.operation n).rotation
      whole = (join a n).1

  pub sites_places : O.sites * O.places ≡ O.count
  sites_places = sym (times-mul O.sites O.places) ∙ matched_sizes (times O.sites O.places) O.count (on_pairs O.sites O.places joined) (λ j. pair O.places (site_part j) (place_part j))
      (λ j. on_pairs-pair O.places joined (site_part j) (place_part j) ∙ joined-parts j)
      (ext_pairs O.sites O.places (λ z. pair O.places (site_part (on_pairs O.sites O.places joined z)) (place_part (on_pairs O.sites O.places joined z))) (λ z. z)
      (λ a n. ap (λ j. pair O.places (site_part j) (place_part j)) (on_pairs-pair O.places joined a n) ∙ ap₂ (pair O.places) (site_part-joined a n) (place_part-joined a n)))
