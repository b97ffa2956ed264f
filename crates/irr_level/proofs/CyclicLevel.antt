-- A normal subgroup of index 2 or 3 has a cyclic quotient: each place outside it generates.
--   cyclic_quotient          the quotient, with a given generator
use Rattle.std.specs.Prelude.{ℕ, ◌≡◌, ◌<◌, ◌⊎◌, List}
use Rattle.std.specs.Int.{◌∣◌}
use Rattle.std.proofs.Common.{sym, ◌∙◌, ap, ap₂, subst, refl, arith}
use Rattle.irr_algebra.specs.Fin.{Fin, to_nat}
use Rattle.irr_algebra.proofs.Indices.{from_nat, to_nat-from_nat, to_nat-lt, to_nat_inj}
use Rattle.irr_eigen.specs.Step.{Subtable}
use Rattle.irr_clifford.specs.Cyclic.{CyclicQuotient, place_power}
use Rattle.irr_space.specs.PhaseTable.{PhaseTable, phases_over}
use Rattle.irr_rep.specs.Subgroup.{IsSubgroup, IsRestriction}
use Rattle.irr_chain.specs.NormalSubgroup.{In, IsCoset, IsNormalOfIndex}
use Rattle.irr_chain.specs.Quotient.{Cover, HasQuotient, IsClosed, power}
use Rattle.irr_chain.proofs.GroupLaws.{group_laws}
use Rattle.irr_chain.proofs.Cosets.{commutators_inside, coset-join, coset-swap, powers_inside}
use Rattle.irr_chain.proofs.Quotients.{powers_apart}
use Rattle.irr_chain.proofs.Levels.{contains_or_not, prime_above, subgroup_closed}
use Rattle.irr_chain.proofs.CyclicLevels.{cover-prime}
use Rattle.irr_level.specs.Part.{ArePositions, as_subgroup}
use Rattle.irr_level.proofs.Positions.{member_at, member_in, member_inj, member_power, position}

module _ {h : ℕ} (T : PhaseTable h) (inner outer : List ℕ) (p : ℕ) (prime : (p ≡ 2) ⊎ (p ≡ 3))
    (large : IsSubgroup T outer) (normal : IsNormalOfIndex T inner outer p) where
  decided : (i : Fin h) → In inner i ⊎ (In inner i → ⊥)
  decided i = contains_or_not inner (to_nat i)

  inner_closed : IsClosed T (In inner)
  inner_closed = subgroup_closed T inner normal.subgroup

  outer_closed : IsClosed T (In outer)
  outer_closed = subgroup_closed T outer large

  pub normal_quotient : HasQuotient T (In inner) (In outer) p
  normal_quotient = record {
    closed = inner_closed;
    within = normal.normal.within;
    powers = powers_inside T (In inner) (In outer) inner_closed outer_closed normal.normal decided p prime normal.index;
    commutators = commutators_inside T (In inner) (In outer) inner_closed outer_closed normal.normal decided p prime normal.index;
  }

  module _ (g : Fin h) (own : In outer g) (out : In inner g → ⊥) where
    pub one_power : (i : Fin h) (a b : ℕ) → a < p → b < p → IsCoset T (In inner) (power T g a) i → IsCoset T (In inner) (power T g b) i → a ≡ b
    one_power i a b l m s t =
        let more : 1 < p = prime_above p prime in
        powers_apart T (In inner) (In outer) p outer_closed normal_quotient g own (omega arith) prime out a b l m
        (coset-join T (In inner) inner_closed (power T g a) i (power T g b) s (coset-swap T (In inner) inner_closed (power T g b) i t))

    covered : (i : Fin h) → In outer i → Cover T (In inner) p g i
    covered = cover-prime T (In inner) (In outer) inner_closed outer_closed normal.normal decided g own out p prime normal.index

  module _ {m n : ℕ} (S : PhaseTable n) (U : PhaseTable m) (low : IsRestriction T inner S) (high : IsRestriction T outer U)
      (M : ℕ) (v : U.order ∣ M) (w : S.order ∣ M) (sub : Subtable (phases_over S M w) (phases_over U M v)) (positions : ArePositions inner outer sub.place)
      (g : Fin m) (out : In inner (high.member g) → ⊥) where
    own : In outer (high.member g)
    own = member_in T outer U large high g

    at : (i : Fin n) → high.member (sub.place i) ≡ low.member i
    at i = member_at T inner outer S U normal.subgroup large low high M v w sub.place positions i

    -- the place of an element of the inner subgroup
    inside : (x : Fin h) → In inner x → (i : Fin n) × (high.member (sub.place i) ≡ x)
    inside x k = let i = position T inner S normal.subgroup low x k in (i.0, at i.0 ∙ i.1)

    -- equal in the outer restriction, since they are equal in the table
    same : (x y : Fin m) → high.member x ≡ high.member y → x ≡ y
    same = member_inj T outer U large high

    product_at : (x y : Fin m) (a b : Fin h) → high.member x ≡ a → high.member y ≡ b → high.member (U.product x y) ≡ T.product a b
    product_at x y a b d e = high.member-product x y ∙ ap₂ T.product d e

    power_at : (e : ℕ) → high.member (place_power (phases_over U M v) g e) ≡ power T (high.member g) e
    power_at e = member_power T outer U large high M v g e

    -- a i a^-1
    abbrev conjugated : Fin h → Fin h → Fin h
    conjugated a i = T.product (T.product a i) (T.opposite a)

    front : (i : Fin n) → (k : Fin n) × (high.member (sub.place k) ≡ conjugated (T.opposite (high.member g)) (low.member i))
    front i = inside (conjugated (T.opposite (high.member g)) (low.member i))
        (normal.normal.conjugates (low.member i) (T.opposite (high.member g)) (member_in T inner S normal.subgroup low i)
        (outer_closed.opposites (high.member g) own))

    behind : (i : Fin n) → (k : Fin n) × (high.member (sub.place k) ≡ conjugated (high.member g) (low.member i))
    behind i = inside (conjugated (high.member g) (low.member i))
        (normal.normal.conjugates (low.member i) (high.member g) (member_in T inner S normal.subgroup low i) own)

    highest : (k : Fin n) × (high.member (sub.place k) ≡ power T (high.member g) p)
    highest = inside (power T (high.member g) p) (normal_quotient.powers (high.member g) own)

    split : (x : Fin m) → Cover T (In inner) p (high.member g) (high.member x)
    split x = covered (high.member g) own out (high.member x) (member_in T outer U large high x)

    rest : (x : Fin m) → (k : Fin n) × (high.member (sub.place k) ≡ T.product (T.opposite (power T (high.member g) (split x).0)) (high.member x))
    rest x = inside (T.product (T.opposite (power T (high.member g) (split x).0)) (high.member x)) (split x).2

    front-law : (a i : Fin h) → T.product i a ≡ T.product a (T.product (T.product (T.opposite a) i) (T.opposite (T.opposite a)))
    front-law a i = simp (group_laws, T)

    behind-law : (a i : Fin h) → T.product a i ≡ T.product (T.product (T.product a i) (T.opposite a)) a
    behind-law a i = simp (group_laws, T)

    split-law : (a i : Fin h) → T.product a (T.product (T.opposite a) i) ≡ i
    split-law a i = simp (group_laws, T)

    coset-law : (a i : Fin h) → i ≡ T.product (T.opposite a) (T.product a i)
    coset-law a i = simp (group_laws, T)

    -- a power of the generator times a member is in the coset of that power
    coset_at : (a : ℕ) (i : Fin n)
        → IsCoset T (In inner) (power T (high.member g) a) (high.member (U.product (place_power (phases_over U M v) g a) (sub.place i)))
    coset_at a i = subst (IsCoset T (In inner) (power T (high.member g) a))
        (sym (product_at (place_power (phases_over U M v) g a) (sub.place i) (power T (high.member g) a) (low.member i) (power_at a) (at i)))
        (subst (In inner) (coset-law (power T (high.member g) a) (low.member i)) (member_in T inner S normal.subgroup low i))

    quotient : CyclicQuotient (as_subgroup sub)
    quotient = record {
      index = p;
      generator = g;
      conj = λ i. (front i).0;
      member-generator = λ i. same (U.product (sub.place i) g) (U.product g (sub.place (front i).0))
          (product_at (sub.place i) g (low.member i) (high.member g) (at i) refl ∙ front-law (high.member g) (low.member i)
          ∙ sym (product_at g (sub.place (front i).0) (high.member g) (conjugated (T.opposite (high.member g)) (low.member i)) refl (front i).1));
      conj_back = λ i. (behind i).0;
      generator-member = λ i. same (U.product g (sub.place i)) (U.product (sub.place (behind i).0) g)
          (product_at g (sub.place i) (high.member g) (low.member i) refl (at i) ∙ behind-law (high.member g) (low.member i)
          ∙ sym (product_at (sub.place (behind i).0) g (conjugated (high.member g) (low.member i)) (high.member g) (behind i).1 refl));
      top = highest.0;
      power-index = same (place_power (phases_over U M v) g p) (sub.place highest.0) (power_at p ∙ sym highest.1);
      exponent = λ x. from_nat p (split x).0 (split x).1;
      part = λ x. (rest x).0;
      splits = λ x. same (U.product (place_power (phases_over U M v) g (to_nat (from_nat p (split x).0 (split x).1))) (sub.place (rest x).0)) x
          (product_at (place_power (phases_over U M v) g (to_nat (from_nat p (split x).0 (split x).1))) (sub.place (rest x).0)
          (power T (high.member g) (split x).0)
          (T.product (T.opposite (power T (high.member g) (split x).0)) (high.member x))
          (power_at (to_nat (from_nat p (split x).0 (split x).1)) ∙ ap (power T (high.member g)) (to_nat-from_nat p (split x).0 (split x).1)) (rest x).1
          ∙ split-law (power T (high.member g) (split x).0) (high.member x));
      one_exponent = λ a b i j e. to_nat_inj a b (one_power (high.member g) own out
          (high.member (U.product (place_power (phases_over U M v) g (to_nat a)) (sub.place i))) (to_nat a) (to_nat b) (to_nat-lt a) (to_nat-lt b)
          (coset_at (to_nat a) i)
          (subst (λ x. IsCoset T (In inner) (power T (high.member g) (to_nat b)) (high.member x)) (sym e) (coset_at (to_nat b) j)));
    }

    pub cyclic_quotient : (Q : CyclicQuotient (as_subgroup sub)) × (Q.index ≡ p) × (Q.generator ≡ g)
    unfolding quotient
    cyclic_quotient = (quotient, refl, refl)
