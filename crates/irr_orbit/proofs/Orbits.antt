-- Each point has its orbit, where it is decided which vectors are in T.
--   together_or_not     whether points are together
--   first_of_class      the canonical operations that carry the point to no earlier site
--   orbit, orbit-count
use Rattle.std.proofs.Common.{◌≡◌, sym, ◌∙◌, ap, subst, subst₂, refl, ℕ, zero, suc, ◌<◌, ◌≤◌, ◌⊎◌, inl, inr, arith}
use Rattle.std.proofs.lemmas.Bool.{cases_lt}
use Rattle.irr_algebra.specs.Fin.{Fin, to_nat}
use Rattle.irr_algebra.specs.Matrix.{◌⊕◌, ◌⊖◌}
use Rattle.irr_algebra.proofs.Indices.{all_or_one}
use Rattle.irr_space.specs.Operation.{Operation, Vector, ◌⊙◌, translation}
use Rattle.irr_space.specs.SpaceGroup.{IsTranslation}
use Rattle.irr_space.specs.CanonicalOperation.{IsCanonicalOperation, IsNumbering, IsNumberedBefore}
use Rattle.irr_cocycle.specs.SpaceGroupLaws.{IsGroup, HasCanonical}
use Rattle.irr_cocycle.proofs.Operations.{sub-add, add-sub, rotation-translation-op, translation_between, translation-quotient}
use Rattle.irr_orbit.specs.Site.{Orbit, AreSites, IsSiteNumbering, IsInSiteGroup, AreTogether, image}
use Rattle.irr_orbit.proofs.Points.{image-op, image-translation}
use Rattle.irr_orbit.proofs.Sites.{together_refl, together_trans}
use Rattle.irr_full.proofs.Counting.{Chosen, choose}

module _ (G : Operation → Type 0) (group : IsGroup G) (chosen : HasCanonical G) (decided : (t : Vector) → IsTranslation G t ⊎ (IsTranslation G t → ⊥)) where
  together_or_not : (y z : Vector) → AreTogether G y z ⊎ (AreTogether G y z → ⊥)
  together_or_not y z = from_decided (decided (y ⊖ z))
    where
      from_decided : IsTranslation G (y ⊖ z) ⊎ (IsTranslation G (y ⊖ z) → ⊥) → AreTogether G y z ⊎ (AreTogether G y z → ⊥)
      from_decided (inl p) = inl (y ⊖ z, record { is_translation = p; is_sum = sym (sub-add y z) })
      from_decided (inr f) = inr (λ t. f (subst (IsTranslation G) (sym (add-sub t.0 z) ∙ ap (λ v. v ⊖ z) (sym t.1.is_sum)) t.1.is_translation))

  module _ {c : ℕ} (ops : Fin c → Operation) (numbering : IsNumbering G (λ _. Unit {0}) ops) (x : Vector) where
    -- no earlier operation carries x to the same point modulo T
    IsFirst : Fin c → Type 0
    IsFirst i = (j : Fin c) → to_nat j < to_nat i → AreTogether G (image (ops i) x) (image (ops j) x) → ⊥

    first-apart : (i : Fin c) → IsFirst i → (j : Fin c) → to_nat j < to_nat i → AreTogether G (image (ops i) x) (image (ops j) x) → ⊥
    unfolding IsFirst
    first-apart i f = f

    first_or_later : (i : Fin c) → IsFirst i ⊎ ((j : Fin c) × (to_nat j < to_nat i) × AreTogether G (image (ops i) x) (image (ops j) x))
    unfolding IsFirst
    first_or_later i = regroup (all_or_one c (λ j. to_nat j < to_nat i → AreTogether G (image (ops i) x) (image (ops j) x) → ⊥) (λ j. (to_nat j < to_nat i) × AreTogether G (image (ops i) x) (image (ops j) x))
        (λ j. by_order j (cases_lt (to_nat j) (to_nat i)) (together_or_not (image (ops i) x) (image (ops j) x))))
      where
        regroup : ((j : Fin c) → to_nat j < to_nat i → AreTogether G (image (ops i) x) (image (ops j) x) → ⊥) ⊎ ((j : Fin c) × ((to_nat j < to_nat i) × AreTogether G (image (ops i) x) (image (ops j) x)))
            → IsFirst i ⊎ ((j : Fin c) × (to_nat j < to_nat i) × AreTogether G (image (ops i) x) (image (ops j) x))
        regroup (inl f) = inl f
        regroup (inr (j, w)) = inr (j, w.0, w.1)

        by_order : (j : Fin c) → (to_nat j < to_nat i) ⊎ (to_nat i ≤ to_nat j) → AreTogether G (image (ops i) x) (image (ops j) x) ⊎ (AreTogether G (image (ops i) x) (image (ops j) x) → ⊥)
            → (to_nat j < to_nat i → AreTogether G (image (ops i) x) (image (ops j) x) → ⊥) ⊎ ((to_nat j < to_nat i) × AreTogether G (image (ops i) x) (image (ops j) x))
        by_order j (inl l) (inl t) = inr (l, t)
        by_order j (inl l) (inr f) = inl (λ m. f)
        by_order j (inr g) t = inl (λ m. absurd (omega arith))

    is_first_or_not : (i : Fin c) → IsFirst i ⊎ (IsFirst i → ⊥)
    is_first_or_not i = elim (first_or_later i) [ inl f ↦ inl f | inr w ↦ inr (refuted i w) ]
      where
        refuted : (i : Fin c) → (j : Fin c) × (to_nat j < to_nat i) × AreTogether G (image (ops i) x) (image (ops j) x) → IsFirst i → ⊥
        refuted i w f = first-apart i f w.0 w.1 w.2

    first_of_class : Chosen IsFirst
    first_of_class = choose c IsFirst is_first_or_not

    -- each image is together with that of a first one
    reaches : (b : ℕ) (i : Fin c) → to_nat i < b → (a : Fin first_of_class.count) × (to_nat (first_of_class.place a) ≤ to_nat i) × AreTogether G (image (ops i) x) (image (ops (first_of_class.place a)) x)
    reaches zero i l = absurd (omega arith)
    reaches (suc b) i l = elim (first_or_later i) [
      | inl f ↦ (let a = first_of_class.all i f in (
        a.0,
        (let e : to_nat (first_of_class.place a.0) ≡ to_nat i = ap to_nat a.1 in omega arith),
        subst (λ j. AreTogether G (image (ops i) x) (image (ops j) x)) (sym a.1) (together_refl G group (image (ops i) x)),
      ))
      | inr w ↦ (let below : to_nat w.0 < b = (let m : to_nat w.0 < to_nat i = w.1 in omega arith) in
          let r = reaches b w.0 below in (
            r.0,
            (let m : to_nat w.0 < to_nat i = w.1 in let n : to_nat (first_of_class.place r.0) ≤ to_nat w.0 = r.1 in omega arith),
            together_trans G group (image (ops i) x) (image (ops w.0) x) (image (ops (first_of_class.place r.0)) x) w.2 r.2,
          ))
    ]

    are_sites : AreSites G x ops first_of_class.place
    are_sites = record {
      ordered = first_of_class.ordered;
      apart = λ a b l. first-apart (first_of_class.place b) (first_of_class.holds b) (first_of_class.place a) (first_of_class.ordered a b l);
      all = λ i. reaches (suc (to_nat i)) i (omega arith);
    }

    -- (1|x - gx) g keeps x
    kept : Fin c → Operation
    kept i = translation (x ⊖ image (ops i) x) ⊙ ops i

    kept-is : (i : Fin c) → kept i ≡ translation (x ⊖ image (ops i) x) ⊙ ops i
    unfolding kept
    kept-is i = refl

    kept-rotation : (i : Fin c) → (kept i).rotation ≡ (ops i).rotation
    kept-rotation i = ap (λ (g : Operation). g.rotation) (kept-is i) ∙ rotation-translation-op (x ⊖ image (ops i) x) (ops i)

    kept-member : (i : Fin c) → IsTranslation G (x ⊖ image (ops i) x) → IsInSiteGroup G x (kept i)
    kept-member i p = subst (IsInSiteGroup G x) (sym (kept-is i)) (record {
      member = group.has_product (translation (x ⊖ image (ops i) x)) (ops i) p (numbering.canonical i).member;
      keeps = image-op (translation (x ⊖ image (ops i) x)) (ops i) x ∙ image-translation (x ⊖ image (ops i) x) (image (ops i) x) ∙ sub-add x (image (ops i) x);
    })

    stabilizers : Chosen (λ i. IsTranslation G (x ⊖ image (ops i) x))
    stabilizers = choose c (λ i. IsTranslation G (x ⊖ image (ops i) x)) (λ i. decided (x ⊖ image (ops i) x))

    all_kept : (g : Operation) → IsInSiteGroup G x g → (n : Fin stabilizers.count) × (kept (stabilizers.place n) ≡ g)
    all_kept g p = from_chosen (chosen g p.member)
      where
        from_chosen : (f : Operation) × IsCanonicalOperation G f × (f.rotation ≡ g.rotation) → (n : Fin stabilizers.count) × (kept (stabilizers.place n) ≡ g)
        from_chosen (f, q, e) = from_place (numbering.all f q tt)
          where
            from_place : (i : Fin c) × (ops i ≡ f) → (n : Fin stabilizers.count) × (kept (stabilizers.place n) ≡ g)
            from_place (i, r) = (n.0, ap kept n.1 ∙ kept-is i ∙ ap (λ t. translation t ⊙ ops i) (sym same_shift) ∙ sym between)
              where
                same_rotation : g.rotation ≡ (ops i).rotation
                same_rotation = sym e ∙ ap (λ (y : Operation). y.rotation) (sym r)

                between : g ≡ translation (g.vector ⊖ (ops i).vector) ⊙ ops i
                between = translation_between g (ops i) same_rotation

                sum : x ≡ (g.vector ⊖ (ops i).vector) ⊕ image (ops i) x
                sum = sym p.keeps ∙ ap (λ y. image y x) between ∙ image-op (translation (g.vector ⊖ (ops i).vector)) (ops i) x ∙ image-translation (g.vector ⊖ (ops i).vector) (image (ops i) x)

                same_shift : g.vector ⊖ (ops i).vector ≡ x ⊖ image (ops i) x
                same_shift = sym (add-sub (g.vector ⊖ (ops i).vector) (image (ops i) x)) ∙ ap (λ v. v ⊖ image (ops i) x) (sym sum)

                in_lattice : IsTranslation G (g.vector ⊖ (ops i).vector)
                in_lattice = let w = group.has_inverse (ops i) (numbering.canonical i).member in
                    subst G (sym (translation-quotient g (ops i) w.0 same_rotation w.2)) (group.has_product g w.0 p.member w.1)

                n : (n : Fin stabilizers.count) × (stabilizers.place n ≡ i)
                n = stabilizers.all i (subst (IsTranslation G) same_shift in_lattice)

    site_numbering : IsSiteNumbering G x (λ n. kept (stabilizers.place n))
    site_numbering = record {
      member = λ n. kept-member (stabilizers.place n) (stabilizers.holds n);
      all = all_kept;
      ordered = λ n m l. subst₂ (λ R S. IsNumberedBefore R S) (sym (kept-rotation (stabilizers.place n))) (sym (kept-rotation (stabilizers.place m)))
          (numbering.ordered (stabilizers.place n) (stabilizers.place m) (stabilizers.ordered n m l));
    }

    pub orbit : Orbit G x
    orbit = record {
      count = c;
      canonical = ops;
      canonical_numbering = numbering;
      sites = first_of_class.count;
      number = first_of_class.place;
      are_sites = are_sites;
      places = stabilizers.count;
      operation = λ n. kept (stabilizers.place n);
      numbering = site_numbering;
    }

    pub orbit-count : orbit.count ≡ c
    unfolding orbit
    orbit-count = refl
