-- Stars as classes of wave vectors.
--   star_reflexive, star_symmetric, star_transitive     to be in one star is an equivalence
--   reduced_same                                        equivalent reduced wave vectors are equal
--   order_in_star                                       the wave vectors of one star have one order
use Rattle.std.proofs.Common.{◌≡◌, sym, ◌∙◌, ap, subst, ℕ, pos}
use Rattle.irr_algebra.specs.Ring.{whole}
use Rattle.irr_algebra.proofs.Matrices.{scale-mul}
use Rattle.irr_rational.specs.Rational.{Rational, rationals, IsWhole}
use Rattle.irr_rational.proofs.Integers.{integer-pos}
use Rattle.irr_rational.proofs.WholeNumbers.{whole-add, whole-integer, whole-mul}
use Rattle.irr_rational.proofs.Lexicographic.{at_most_antisymm}
use Rattle.irr_lattice.proofs.Vectors.{wave-ext}
use Rattle.irr_space.specs.Operation.{IsInverse, Operation, WaveVector, dot, identity, turned, wave_component, ◌⊙◌}
use Rattle.irr_space.specs.Reciprocal.{AreEquivalent, IsOrder, IsReciprocal, IsReduced, times}
use Rattle.irr_space.specs.Star.{IsInStar}
use Rattle.irr_cocycle.specs.SpaceGroupLaws.{IsGroup}
use Rattle.irr_cocycle.proofs.Operations.{dot-sub, dot-times, turned-identity, turned-op, wide}
use Rattle.irr_cocycle.proofs.Reciprocals.{equivalent-turned, equivalent_refl, equivalent_sym, equivalent_trans}
use Rattle.irr_cocycle.proofs.Reciprocals.{reciprocal-turned}

turned_back : (k : WaveVector) (g h : Operation) → IsInverse g h → turned (turned k g) h ≡ k
turned_back k g h i = sym (turned-op k g h) ∙ ap (turned k) i.right ∙ turned-identity k

swapped : (g h : Operation) → IsInverse g h → IsInverse h g
swapped g h i = record { right = i.left; left = i.right }

times-turned : (n : ℕ) (k : WaveVector) (g : Operation) → turned (times n k) g ≡ times n (turned k g)
unfolding turned
times-turned n k g = scale-mul rationals (whole rationals n) k (wide g)

whole_count : (n : ℕ) → IsWhole (whole rationals n)
whole_count n = subst IsWhole (integer-pos rationals n) (whole-integer (pos n))

parted : (q x y : Rational) → rationals.add (rationals.mul q (rationals.add x (rationals.neg y))) (rationals.mul q y)
    ≡ rationals.mul q x
parted q x y = sym (rationals.mul-add q (rationals.add x (rationals.neg y)) y) ∙ ap (rationals.mul q) undone
  where
    undone : rationals.add (rationals.add x (rationals.neg y)) y ≡ x
    undone = rationals.add_assoc x (rationals.neg y) y
        ∙ ap (rationals.add x) (rationals.add_comm (rationals.neg y) y ∙ rationals.add-neg y) ∙ rationals.add-zero x

module _ (G : Operation → Type 0) where
  pub reduced_same : (r s : WaveVector) → IsReduced G r r → IsReduced G s s → AreEquivalent G r s → r ≡ s
  reduced_same r s p q e = wave-ext r s (at_most_antisymm (wave_component r) (wave_component s)
      (p.least s (equivalent_sym G r s e) q.no_negative) (q.least r e p.no_negative))

  module _ (group : IsGroup G) where
    pub star_reflexive : (k : WaveVector) → IsInStar G k k
    star_reflexive k = record {
      operation = identity;
      member = group.has_identity;
      carries = record { image = k; turned_back = turned-identity k; equivalent = equivalent_refl G k };
    }

    pub star_symmetric : (k w : WaveVector) → IsInStar G k w → IsInStar G w k
    star_symmetric k w s = from_inverse (group.has_inverse s.operation s.member)
      where
        from_inverse : (h : Operation) × G h × IsInverse s.operation h → IsInStar G w k
        from_inverse (h, member, inverse) = record {
          operation = h;
          member = member;
          carries = record {
            image = turned w s.operation;
            turned_back = turned_back w s.operation h inverse;
            equivalent = equivalent_sym G (turned w s.operation) k
                (subst (AreEquivalent G (turned w s.operation)) s.carries.turned_back
                (equivalent-turned G group w s.carries.image s.operation s.member s.carries.equivalent));
          };
        }

    pub star_transitive : (a b c : WaveVector) → IsInStar G a b → IsInStar G b c → IsInStar G a c
    star_transitive a b c s t = from_inverse (group.has_inverse t.operation t.member)
      where
        from_inverse : (h : Operation) × G h × IsInverse t.operation h → IsInStar G a c
        from_inverse (h, member, inverse) = record {
          operation = t.operation ⊙ s.operation;
          member = group.has_product t.operation s.operation t.member s.member;
          carries = record {
            image = turned s.carries.image h;
            turned_back = turned-op (turned s.carries.image h) t.operation s.operation
                ∙ ap (λ k. turned k s.operation) (turned_back s.carries.image h t.operation (swapped t.operation h inverse))
                ∙ s.carries.turned_back;
            equivalent = equivalent_trans G c t.carries.image (turned s.carries.image h) t.carries.equivalent
                (subst (λ k. AreEquivalent G k (turned s.carries.image h)) image
                (equivalent-turned G group b s.carries.image h member s.carries.equivalent));
          };
        }
          where
            image : turned b h ≡ t.carries.image
            image = ap (λ k. turned k h) (sym t.carries.turned_back)
                ∙ turned_back t.carries.image t.operation h inverse

    -- a multiple of one wave vector is in the reciprocal lattice where that of another one of its star is
    reciprocal_in_star : (v w : WaveVector) → IsInStar G v w → (q : ℕ) → IsReciprocal G (times q v)
        → IsReciprocal G (times q w)
    reciprocal_in_star v w s q r = from_inverse (group.has_inverse s.operation s.member)
      where
        from_inverse : (h : Operation) × G h × IsInverse s.operation h → IsReciprocal G (times q w)
        from_inverse (h, member, inverse) = record {
          is_whole = λ t m. subst IsWhole (sym (dot-times q w t))
              (subst IsWhole (parted (whole rationals q) (dot w t) (dot s.carries.image t))
              (whole-add _ _
              (whole-mul (whole rationals q) _ (whole_count q)
              (subst IsWhole (dot-sub w s.carries.image t) (s.carries.equivalent.is_whole t m)))
              (subst IsWhole (dot-times q s.carries.image t) (of_image.is_whole t m))));
        }
          where
            image : turned v h ≡ s.carries.image
            image = ap (λ k. turned k h) (sym s.carries.turned_back)
                ∙ turned_back s.carries.image s.operation h inverse

            of_image : IsReciprocal G (times q s.carries.image)
            of_image = subst (IsReciprocal G) (times-turned q v h ∙ ap (times q) image)
                (reciprocal-turned G group (times q v) h member r)

    -- the wave vectors of one star have one order
    pub order_in_star : (v w : WaveVector) → IsInStar G v w → (n : ℕ) → IsOrder G v n → IsOrder G w n
    order_in_star v w s n o = record {
      exponent = o.exponent;
      period = o.period;
      is_exponent = o.is_exponent;
      is_period = record {
        positive = o.is_period.positive;
        reciprocal = reciprocal_in_star v w s o.period o.is_period.reciprocal;
        least = λ m p r. o.is_period.least m p (reciprocal_in_star w v (star_symmetric v w s) m r);
      };
      is_product = o.is_product;
    }
