-- What is known of the group of generators that can be read, at a wave vector.
--   is_group, centrings_of, centring_list     it is a group, with these centrings
--   reduced_of              the reduced wave vector
--   period_at, order_at     equivalent wave vectors have one period and one order
use Rattle.std.proofs.Common.{◌≡◌, sym, ◌∙◌, ap, ap₂, subst, ℕ, List, pos}
use Rattle.irr_algebra.specs.Matrix.{◌⊖◌}
use Rattle.irr_algebra.specs.Ring.{whole}
use Rattle.irr_algebra.proofs.Rings.{ring_laws}
use Rattle.irr_rational.specs.Integer.{integer}
use Rattle.irr_rational.specs.Rational.{Rational, rationals, IsWhole}
use Rattle.irr_rational.proofs.WholeNumbers.{whole-integer, whole-add, whole-mul}
use Rattle.irr_space.specs.Operation.{Operation, WaveVector, Vector, dot}
use Rattle.irr_space.specs.SpaceGroup.Generated.{one, product, inverse}
use Rattle.irr_space.specs.Reciprocal.{IsReciprocal, AreEquivalent, IsOrder, IsPeriod, IsReduced, times}
use Rattle.irr_seitz.specs.declared.op.Op.{Op}
use Rattle.irr_kvec.specs.Centrings.{LatticeOf, AreCentrings, IsCentringList}
use Rattle.irr_kvec.proofs.GroupLattices.{reduced_in_group}
use Rattle.irr_kvec.proofs.CentringLists.{are_centring_list}
use Rattle.irr_cocycle.specs.SpaceGroupLaws.{IsGroup}
use Rattle.irr_cocycle.proofs.Operations.{dot-sub, dot-times}
use Rattle.irr_cocycle.proofs.Reciprocals.{equivalent_sym}
use Rattle.irr_close.specs.Limits.{operations}
use Rattle.irr_close.specs.Standing.{StandFor}
use Rattle.irr_close.specs.StandsFor.{stands_for}
use Rattle.irr_close.specs.declared.group.Group.{Group}
use Rattle.irr_close.proofs.Along.{centrings_along}
use Rattle.irr_close.proofs.Lattice.{invertible_generated, invertible_operations, inverse_operation}
use Rattle.irr_close.proofs.Unimodular.{are_invertible}
use Rattle.irr_little.proofs.Spaces.{form_of}
use Rattle.irr_top.specs.GroupOf.{IsGroupOf, group_of}
use Rattle.irr_top.proofs.Numerators.{readable_unimodular}

module _ (group : Group) (gens : List Op) (h : IsGroupOf group gens) where
  pub is_group : IsGroup (group_of gens)
  is_group = record {
    has_identity = one;
    has_product = λ f g p q. product p q;
    has_inverse = λ g p.
        let a = invertible_generated (operations gens) (invertible_operations gens (are_invertible gens (readable_unimodular gens h.readable))) p in
        let t = inverse_operation g a.0 a.1 in
        (t.0, inverse t.1 p, t.1);
  }

  pub centrings_of : AreCentrings (group_of gens) group.centrings.items
  unfolding stands_for
  centrings_of = centrings_along (StandFor group.ops.items group.centrings.items) (group_of gens) h.stands group.centrings.items
      (form_of group).centrings

  pub centring_list : IsCentringList group.centrings.items
  centring_list = are_centring_list (operations gens) group.centrings.items centrings_of (form_of group).few_centrings

  pub reduced_of : (k r : WaveVector) → IsReduced (LatticeOf group.centrings.items) k r → IsReduced (group_of gens) k r
  reduced_of k r e = reduced_in_group (group_of gens) group.centrings.items centrings_of k r e

-- equivalent wave vectors
module _ (G : Operation → Type 0) (group : IsGroup G) (k w : WaveVector) (e : AreEquivalent G w k) where
  whole_count : (n : ℕ) → IsWhole (whole rationals n)
  unfolding integer
  whole_count n = whole-integer (pos n)

  regrouped : (c x y : Rational) → rationals.add (rationals.mul c (rationals.add x (rationals.neg y))) (rationals.mul c y) ≡ rationals.mul c x
  regrouped c x y = simp (ring_laws, rationals)

  multiple_at : (n : ℕ) (t : Vector) → rationals.add (rationals.mul (whole rationals n) (dot (w ⊖ k) t)) (dot (times n k) t) ≡ dot (times n w) t
  multiple_at n t = ap₂ rationals.add (ap (rationals.mul (whole rationals n)) (dot-sub w k t)) (dot-times n k t) ∙ regrouped (whole rationals n)
      (dot w t) (dot k t) ∙ sym (dot-times n w t)

  multiple_along : (n : ℕ) → IsReciprocal G (times n k) → IsReciprocal G (times n w)
  multiple_along n r = record {
    is_whole = λ t m. subst IsWhole (multiple_at n t)
        (whole-add (rationals.mul (whole rationals n) (dot (w ⊖ k) t)) (dot (times n k) t)
        (whole-mul (whole rationals n) (dot (w ⊖ k) t) (whole_count n) (e.is_whole t m)) (r.is_whole t m));
  }

module _ (G : Operation → Type 0) (group : IsGroup G) (k w : WaveVector) (e : AreEquivalent G w k) where
  pub period_at : (q : ℕ) → IsPeriod G k q → IsPeriod G w q
  period_at q p = record {
    positive = p.positive;
    reciprocal = multiple_along G group k w e q p.reciprocal;
    least = λ m l r. p.least m l (multiple_along G group w k (equivalent_sym G w k e) m r);
  }

  pub order_at : (n : ℕ) → IsOrder G k n → IsOrder G w n
  order_at n o = record {
    exponent = o.exponent;
    period = o.period;
    is_exponent = o.is_exponent;
    is_period = period_at o.period o.is_period;
    is_product = o.is_product;
  }
