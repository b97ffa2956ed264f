-- What the centrings of a group are for the calls: as many times each as there are is whole (Lagrange's theorem for the translations
-- modulo the whole ones, by the sum of all centrings, which stays where one is added to each).
--   are_centring_list
use Rattle.std.proofs.Common.{◌≡◌, sym, ◌∙◌, ap, ap₂, subst, ℕ, zero, suc, ◌≤◌, List, length, Contains, get_or, arith}
use Rattle.std.proofs.lemmas.List.{get_or_default}
use Rattle.std.proofs.lemmas.List.Elements.{Contains-get_or}
use Rattle.irr_algebra.specs.Fin.{Fin, to_nat}
use Rattle.irr_algebra.specs.Fin.Fin.{first, next}
use Rattle.irr_algebra.specs.Sum.{sum}
use Rattle.irr_algebra.specs.Matrix.{◌⊕◌, ◌⊖◌, null, scale}
use Rattle.irr_algebra.specs.Ring.{whole}
use Rattle.irr_algebra.proofs.Rings.{ring_laws}
use Rattle.irr_algebra.proofs.Indices.{to_nat-lt, from_nat, to_nat-from_nat, to_nat_inj}
use Rattle.irr_algebra.proofs.Sums.{sum-add, sum-neg, sum_same, sum-permuted}
use Rattle.irr_rational.specs.Rational.{Rational, rationals, IsWhole}
use Rattle.irr_rational.proofs.Orders.{le_antisymm}
use Rattle.irr_rational.proofs.WholeNumbers.{whole-add, whole-neg}
use Rattle.irr_space.specs.Operation.{Operation, Vector, translation, component}
use Rattle.irr_space.specs.SpaceGroup.{Generated, IsTranslation}
use Rattle.irr_space.specs.SpaceGroup.Generated.{one, product, inverse}
use Rattle.irr_lattice.proofs.Vectors.{whole_zero, vector-ext, component-add, component-null, component-scale}
use Rattle.irr_lattice.proofs.Translations.{translation-translation, translation-null}
use Rattle.irr_lattice.proofs.Reciprocals.{least_in_cell}
use Rattle.irr_rat.specs.declared.vec3.Vec3.{Vec3}
use Rattle.irr_rat.specs.VectorMeaning.{vector}
use Rattle.irr_rat.proofs.Vectors.{component-sub}
use Rattle.irr_kvec.specs.Centrings.{IsCentred, AreCentrings, IsCentringList}
use Rattle.irr_kvec.proofs.ReducedForms.{at_most_of_not_below}

whole-sum : (n : ℕ) (f : Fin n → Rational) → ((i : Fin n) → IsWhole (f i)) → IsWhole (sum rationals n f)
unfolding sum
whole-sum zero f h = whole_zero
whole-sum (suc n) f h = whole-add (f first) (sum rationals n (λ i. f (next i))) (h first) (whole-sum n (λ i. f (next i)) (λ i. h (next i)))

flip : (x y : Rational) → rationals.neg (rationals.add x (rationals.neg y)) ≡ rationals.add y (rationals.neg x)
flip x y = simp (ring_laws, rationals)

module _ (gens : List Operation) (cs : List Vec3) (h : AreCentrings (Generated gens) cs) where
  pub zero_centred : IsCentred cs null
  zero_centred = (h.translations null).0 (subst (Generated gens) (sym translation-null) one)

  member_centred : (c : Vec3) → Contains cs c → IsCentred cs (vector c)
  member_centred c m = record {
    centring = c;
    member = m;
    is_whole = λ i. subst IsWhole (sym (component-sub (vector c) (vector c) i ∙ rationals.add-neg (component (vector c) i))) whole_zero;
  }

  at : Fin (length cs) → Vec3
  at j = get_or cs (to_nat j) zero_centred.centring

  at_member : (j : Fin (length cs)) → Contains cs (at j)
  unfolding at
  at_member j = Contains-get_or cs (to_nat j) zero_centred.centring (to_nat-lt j)

  part : Fin (length cs) → Fin 3 → Rational
  part j i = component (vector (at j)) i

  -- no two centrings differ by a whole vector
  same_place : (j k : Fin (length cs)) → ((i : Fin 3) → IsWhole (rationals.add (part j i) (rationals.neg (part k i)))) → j ≡ k
  unfolding at part
  same_place j k w = to_nat_inj j k (let a : to_nat k ≤ to_nat j = at_most_of_not_below (to_nat j) (to_nat k) (λ l. apart (h.ordered (to_nat j) (to_nat k) zero_centred.centring zero_centred.centring l (to_nat-lt k)).place
      (h.ordered (to_nat j) (to_nat k) zero_centred.centring zero_centred.centring l (to_nat-lt k)).less.1) in
      let b : to_nat j ≤ to_nat k = at_most_of_not_below (to_nat k) (to_nat j) (λ l. (h.ordered (to_nat k) (to_nat j) zero_centred.centring zero_centred.centring l (to_nat-lt j)).less.1
      (sym (same (h.ordered (to_nat k) (to_nat j) zero_centred.centring zero_centred.centring l (to_nat-lt j)).place))) in omega arith)
    where
      same : (i : Fin 3) → part j i ≡ part k i
      same i = le_antisymm (part j i) (part k i)
          (least_in_cell (part j i) (part k i) (h.in_cell (at j) (at_member j) i).1 (h.in_cell (at k) (at_member k) i).0 (subst IsWhole (flip (part j i) (part k i)) (whole-neg (rationals.add (part j i) (rationals.neg (part k i))) (w i))))
          (least_in_cell (part k i) (part j i) (h.in_cell (at k) (at_member k) i).1 (h.in_cell (at j) (at_member j) i).0 (w i))

      apart : (i : Fin 3) → (part j i ≡ part k i → ⊥) → ⊥
      apart i d = d (same i)

  -- the place of the centring of a vector
  place_of : (t : Vector) → IsCentred cs t → Fin (length cs)
  place_of t c = from_nat (length cs) c.member.0 c.member.1

  place-at : (t : Vector) (c : IsCentred cs t) → at (place_of t c) ≡ c.centring
  unfolding at place_of
  place-at t c = ap (λ k. get_or cs k zero_centred.centring) (to_nat-from_nat (length cs) c.member.0 c.member.1)
      ∙ get_or_default cs c.member.0 zero_centred.centring c.centring c.member.1 ∙ c.member.2

  place_whole : (t : Vector) (c : IsCentred cs t) (i : Fin 3) → IsWhole (rationals.add (component t i) (rationals.neg (part (place_of t c) i)))
  unfolding part
  place_whole t c i = subst (λ (v : Vec3). IsWhole (rationals.add (component t i) (rationals.neg (component (vector v) i)))) (sym (place-at t c)) (subst IsWhole (component-sub t (vector c.centring) i) (c.is_whole i))

  is_translation : (c : Vec3) → Contains cs c → IsTranslation (Generated gens) (vector c)
  is_translation c m = (h.translations (vector c)).1 (member_centred c m)

  module _ (c : Vec3) (m : Contains cs c) where
    opposite : IsTranslation (Generated gens) (null ⊖ vector c)
    opposite = inverse (record {
      right = translation-translation (vector c) (null ⊖ vector c) ∙ ap translation (vector-ext (vector c ⊕ (null ⊖ vector c)) null
          (λ i. component-add (vector c) (null ⊖ vector c) i ∙ ap (rationals.add (component (vector c) i)) (negative i) ∙ rationals.add-neg (component (vector c) i) ∙ sym (component-null i))) ∙ translation-null;
      left = translation-translation (null ⊖ vector c) (vector c) ∙ ap translation (vector-ext ((null ⊖ vector c) ⊕ vector c) null
          (λ i. component-add (null ⊖ vector c) (vector c) i ∙ ap (λ x. rationals.add x (component (vector c) i)) (negative i) ∙ rationals.add_comm (rationals.neg (component (vector c) i)) (component (vector c) i) ∙ rationals.add-neg (component (vector c) i) ∙ sym (component-null i))) ∙ translation-null;
    }) (is_translation c m)
      where
        negative : (i : Fin 3) → component (null ⊖ vector c) i ≡ rationals.neg (component (vector c) i)
        negative i = component-sub null (vector c) i ∙ ap (λ x. rationals.add x (rationals.neg (component (vector c) i))) (component-null i)
            ∙ rationals.add_comm rationals.zero (rationals.neg (component (vector c) i)) ∙ rationals.add-zero (rationals.neg (component (vector c) i))

    up : (j : Fin (length cs)) → IsCentred cs (vector c ⊕ vector (at j))
    up j = (h.translations (vector c ⊕ vector (at j))).0 (subst (Generated gens) (translation-translation (vector c) (vector (at j))) (product (is_translation c m) (is_translation (at j) (at_member j))))

    down : (j : Fin (length cs)) → IsCentred cs (vector (at j) ⊕ (null ⊖ vector c))
    down j = (h.translations (vector (at j) ⊕ (null ⊖ vector c))).0 (subst (Generated gens) (translation-translation (vector (at j)) (null ⊖ vector c)) (product (is_translation (at j) (at_member j)) opposite))

    raised : Fin (length cs) → Fin (length cs)
    raised j = place_of (vector c ⊕ vector (at j)) (up j)

    lowered : Fin (length cs) → Fin (length cs)
    lowered j = place_of (vector (at j) ⊕ (null ⊖ vector c)) (down j)

    raised_whole : (j : Fin (length cs)) (i : Fin 3) → IsWhole (rationals.add (rationals.add (component (vector c) i) (part j i)) (rationals.neg (part (raised j) i)))
    unfolding raised part
    raised_whole j i = subst (λ x. IsWhole (rationals.add x (rationals.neg (part (raised j) i)))) (component-add (vector c) (vector (at j)) i) (place_whole (vector c ⊕ vector (at j)) (up j) i)

    lowered_whole : (j : Fin (length cs)) (i : Fin 3) → IsWhole (rationals.add (rationals.add (part j i) (rationals.neg (component (vector c) i))) (rationals.neg (part (lowered j) i)))
    unfolding lowered part
    lowered_whole j i = subst (λ x. IsWhole (rationals.add x (rationals.neg (part (lowered j) i)))) (component-add (vector (at j)) (null ⊖ vector c) i
        ∙ ap (rationals.add (component (vector (at j)) i)) (component-sub null (vector c) i ∙ ap (λ x. rationals.add x (rationals.neg (component (vector c) i))) (component-null i)
        ∙ rationals.add_comm rationals.zero (rationals.neg (component (vector c) i)) ∙ rationals.add-zero (rationals.neg (component (vector c) i)))) (place_whole (vector (at j) ⊕ (null ⊖ vector c)) (down j) i)

    raised-lowered : (j : Fin (length cs)) → raised (lowered j) ≡ j
    raised-lowered j = same_place (raised (lowered j)) j (λ i. subst IsWhole (gone (component (vector c) i) (part (lowered j) i) (part (raised (lowered j)) i) (part j i))
        (whole-add (rationals.neg (rationals.add (rationals.add (component (vector c) i) (part (lowered j) i)) (rationals.neg (part (raised (lowered j)) i))))
        (rationals.neg (rationals.add (rationals.add (part j i) (rationals.neg (component (vector c) i))) (rationals.neg (part (lowered j) i))))
        (whole-neg (rationals.add (rationals.add (component (vector c) i) (part (lowered j) i)) (rationals.neg (part (raised (lowered j)) i))) (raised_whole (lowered j) i))
        (whole-neg (rationals.add (rationals.add (part j i) (rationals.neg (component (vector c) i))) (rationals.neg (part (lowered j) i))) (lowered_whole j i))))
      where
        gone : (x y z w : Rational) → rationals.add (rationals.neg (rationals.add (rationals.add x y) (rationals.neg z))) (rationals.neg (rationals.add (rationals.add w (rationals.neg x)) (rationals.neg y))) ≡ rationals.add z (rationals.neg w)
        gone x y z w = simp (ring_laws, rationals)

    lowered-raised : (j : Fin (length cs)) → lowered (raised j) ≡ j
    lowered-raised j = same_place (lowered (raised j)) j (λ i. subst IsWhole (gone (component (vector c) i) (part (raised j) i) (part (lowered (raised j)) i) (part j i))
        (whole-add (rationals.neg (rationals.add (rationals.add (part (raised j) i) (rationals.neg (component (vector c) i))) (rationals.neg (part (lowered (raised j)) i))))
        (rationals.neg (rationals.add (rationals.add (component (vector c) i) (part j i)) (rationals.neg (part (raised j) i))))
        (whole-neg (rationals.add (rationals.add (part (raised j) i) (rationals.neg (component (vector c) i))) (rationals.neg (part (lowered (raised j)) i))) (lowered_whole (raised j) i))
        (whole-neg (rationals.add (rationals.add (component (vector c) i) (part j i)) (rationals.neg (part (raised j) i))) (raised_whole j i))))
      where
        gone : (x y z w : Rational) → rationals.add (rationals.neg (rationals.add (rationals.add y (rationals.neg x)) (rationals.neg z))) (rationals.neg (rationals.add (rationals.add x w) (rationals.neg y))) ≡ rationals.add z (rationals.neg w)
        gone x y z w = simp (ring_laws, rationals)

    count_whole : (i : Fin 3) → IsWhole (component (scale rationals (whole rationals (length cs)) (vector c)) i)
    count_whole i = subst IsWhole (total ∙ sym (component-scale (whole rationals (length cs)) (vector c) i))
        (whole-sum (length cs) (λ j. rationals.add (rationals.add (component (vector c) i) (part j i)) (rationals.neg (part (raised j) i))) (λ j. raised_whole j i))
      where
        drop : (x y : Rational) → rationals.add (rationals.add x y) (rationals.neg y) ≡ x
        drop x y = simp (ring_laws, rationals)

        total : sum rationals (length cs) (λ j. rationals.add (rationals.add (component (vector c) i) (part j i)) (rationals.neg (part (raised j) i))) ≡ rationals.mul (whole rationals (length cs)) (component (vector c) i)
        total = sum-add rationals (length cs) (λ j. rationals.add (component (vector c) i) (part j i)) (λ j. rationals.neg (part (raised j) i))
            ∙ ap₂ rationals.add (sum-add rationals (length cs) (λ j. component (vector c) i) (λ j. part j i) ∙ ap (λ x. rationals.add x (sum rationals (length cs) (λ j. part j i))) (sum_same rationals (length cs) (component (vector c) i)))
            (sum-neg rationals (length cs) (λ j. part (raised j) i) ∙ ap rationals.neg (sum-permuted rationals (length cs) raised lowered raised-lowered lowered-raised (λ j. part j i)))
            ∙ drop (rationals.mul (whole rationals (length cs)) (component (vector c) i)) (sum rationals (length cs) (λ j. part j i))

  pub are_centring_list : length cs ≤ 32 → IsCentringList cs
  are_centring_list few = record { zero = zero_centred; few = few; multiple = λ c m. count_whole c m }
