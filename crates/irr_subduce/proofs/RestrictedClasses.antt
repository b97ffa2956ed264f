-- The diagonal places of the restriction of a full representation to a subgroup fall into classes, one for each arm.
--   restricted_space           the restriction, as a representation of the group of the program
--   arm_class                  the class of a place: its arm
--   restricted_classes         the classes, where the wave vector of each is equivalent to that of its arm in the basis of the subgroup
--   class_trace_restricted     the trace of a class is the trace of the block of the arm at the image
use Rattle.std.proofs.Common.{◌≡◌, sym, refl, ◌∙◌, ap, subst, ℕ, ◌<◌}
use Rattle.std.specs.Int.{◌∣◌}
use Rattle.irr_algebra.specs.Ring.{Ring}
use Rattle.irr_algebra.specs.Fin.{Fin}
use Rattle.irr_algebra.specs.Matrix.{Matrix, ◌·◌, trace}
use Rattle.irr_algebra.specs.Sum.{sum, delta}
use Rattle.irr_algebra.specs.Pair.{times, pair, on_pairs}
use Rattle.irr_algebra.proofs.Pairs.{on_pairs-pair, sum-times}
use Rattle.irr_algebra.proofs.Sums.{sum-ext, mul-sum, sum-delta}
use Rattle.irr_number.specs.Number.{numbers}
use Rattle.irr_rational.specs.Rational.{rationals}
use Rattle.irr_theory.specs.FactorSystem.{Representation}
use Rattle.irr_space.specs.Operation.{Operation, Vector, WaveVector, turned}
use Rattle.irr_space.specs.SpaceGroup.{IsExponent}
use Rattle.irr_space.specs.Reciprocal.{AreEquivalent, IsOrder, IsReciprocal, times as multiple}
use Rattle.irr_space.specs.PhaseTable.{phases_over}
use Rattle.irr_seitz.specs.PhaseMeaning.{sign_of}
use Rattle.irr_cocycle.proofs.Reciprocals.{equivalent_sym}
use Rattle.irr_close.specs.StandsFor.{stands_for}
use Rattle.irr_close.specs.declared.group.Group.{Group}
use Rattle.irr_close.proofs.SpaceGroups.{space_group}
use Rattle.irr_little.proofs.Spaces.{has_canonical}
use Rattle.irr_full.specs.Star.{Star}
use Rattle.irr_full.specs.Full.{IsFullOf, block}
use Rattle.irr_full.specs.Part.{HasPhase}
use Rattle.irr_full.specs.Restriction.{IsSubgroup, restricted}
use Rattle.irr_full.proofs.Diagonals.{full-diagonal, unpaired}
use Rattle.irr_full.proofs.FullMatrices.{full_representation}
use Rattle.irr_full.proofs.Images.{restricted_representation, restricted-diagonal}
use Rattle.irr_full.proofs.PhaseLaws.{phase_equivalent}
use Rattle.irr_full.proofs.StarLaws.{back, back_member, image-back}
use Rattle.irr_full.proofs.Waves.{arm_has_phase, restricted_has_phase}
use Rattle.irr_mult.specs.Traced.{SpaceRepresentation}
use Rattle.irr_mult.specs.Classes.{Classes, class_trace}
use Rattle.irr_subduce.proofs.Periods.{equivalent_of, turned_of}
use Rattle.irr_subduce.proofs.ReciprocalTests.{decide_reciprocal}
use Rattle.irr_subduce.proofs.RestrictedOrders.{order_along}

-- the first of the pair that an index stands for
abbrev pub arm_class : (a d : ℕ) → Fin (times a d) → Fin a
arm_class a d = on_pairs a d (λ i r. i)

-- the sum over the pairs with one first
pub arm_sum : (R : Ring) (a d : ℕ) (i : Fin a) (f : Fin (times a d) → R.Carrier)
    → sum R (times a d) (λ p. R.mul (delta R i (arm_class a d p)) (f p)) ≡ sum R d (λ r. f (pair d i r))
arm_sum R a d i f =
    sum-times R a d (λ p. R.mul (delta R i (arm_class a d p)) (f p))
    ∙ sum-ext R a (λ k. sum R d (λ r. R.mul (delta R i (arm_class a d (pair d k r))) (f (pair d k r))))
    (λ k. R.mul (delta R i k) (sum R d (λ r. f (pair d k r))))
    (λ k. sum-ext R d (λ r. R.mul (delta R i (arm_class a d (pair d k r))) (f (pair d k r)))
    (λ r. R.mul (delta R i k) (f (pair d k r)))
    (λ r. ap (λ z. R.mul (delta R i z) (f (pair d k r))) (on_pairs-pair d (λ i r. i) k r))
    ∙ sym (mul-sum R d (delta R i k) (λ r. f (pair d k r))))
    ∙ sum-delta R a i (λ k. sum R d (λ r. f (pair d k r)))

block_trace : (R : Ring) (a d : ℕ) (m : Matrix R (times a d) (times a d)) (i : Fin a) → trace (block d m i i) ≡ sum R d (λ r. m.at (pair d i r) (pair d i r))
unfolding trace block
block_trace R a d m i = refl

module _ (inner outer : Group) (same_phase : inner.phase ≡ outer.phase) (P : Matrix rationals 3 3) (p : Vector) (image : Operation → Operation)
    (subgroup : IsSubgroup P p (stands_for inner) (stands_for outer) image)
    {k : WaveVector} (U : Star (sign_of outer.phase) (stands_for outer) k) (M : ℕ) (positive : 0 < M) (u : U.table.order ∣ M)
    {d : ℕ} (D : Representation (phases_over U.table M u) d) (F : Operation → Matrix (numbers M) (times U.arms d) (times U.arms d)) (full : IsFullOf U M u D F) where
  abbrev pub restricted_space : SpaceRepresentation
  restricted_space = record {
    group = inner;
    order = M;
    positive = positive;
    size = times U.arms d;
    at = restricted image F;
    is_representation = restricted_representation P p (stands_for inner) (stands_for outer) (space_group inner).is_group image subgroup F
        (full_representation (stands_for outer) (space_group outer).is_group (has_canonical outer) U M positive u D F full);
    has_diagonal = restricted-diagonal P p (stands_for inner) (stands_for outer) (space_group inner).is_group image subgroup F
        (full-diagonal (stands_for outer) (space_group outer).is_group (has_canonical outer) U M positive u D F full);
  }

  arm_reciprocal : (n : ℕ) → IsReciprocal (stands_for outer) (multiple n k) → (i : Fin U.arms) → IsReciprocal (stands_for outer) (multiple n (U.arm i))
  arm_reciprocal n r i = equivalent_of (stands_for outer) n (turned k (back (stands_for outer) (space_group outer).is_group (has_canonical outer) U i)) (U.arm i)
      (subst (λ w. AreEquivalent (stands_for outer) (U.arm i) w) (image-back (stands_for outer) (space_group outer).is_group (has_canonical outer) U i) (U.are_arms.carries i).equivalent)
      (turned_of (stands_for outer) (space_group outer).is_group n k (back (stands_for outer) (space_group outer).is_group (has_canonical outer) U i) (back_member (stands_for outer) (space_group outer).is_group (has_canonical outer) U i) r)

  module _ (e : ℕ) (exponent : IsExponent (stands_for inner) e) (w : Fin U.arms → WaveVector) (near : (i : Fin U.arms) → AreEquivalent (stands_for inner) (w i) (U.arm i · P)) where
    pub restricted_order : (i : Fin U.arms) → (m : ℕ) × IsOrder (stands_for inner) (w i) m × (m ∣ M)
    restricted_order i = let o = U.is_table.is_order in order_along P p (stands_for inner) (stands_for outer) (space_group inner).is_group image subgroup
        (decide_reciprocal inner) e exponent (U.arm i) (w i) o.exponent o.period o.is_exponent o.is_period.positive (arm_reciprocal o.period o.is_period.reciprocal i) M
        (subst (λ x. x ∣ M) o.is_product u) (near i)

    -- the place of an arm and a row has the phases of the arm's wave vector in the basis of the subgroup
    place_phase : (i : Fin U.arms) (r : Fin d) → HasPhase (sign_of inner.phase) (stands_for inner) (w i) M (restricted image F) (pair d i r)
    place_phase i r = subst (λ z. HasPhase (sign_of z) (stands_for inner) (w i) M (restricted image F) (pair d i r)) (sym same_phase)
        (λ t y m q. restricted_has_phase P p (stands_for inner) (stands_for outer) (space_group inner).is_group image subgroup (sign_of outer.phase) M (U.arm i) F (pair d i r)
        (arm_has_phase (stands_for outer) (space_group outer).is_group (has_canonical outer) U M positive u D F full i r)
        t y m (phase_equivalent (sign_of outer.phase) M (stands_for inner) (w i) (U.arm i · P) t y (equivalent_sym (stands_for inner) (w i) (U.arm i · P) (near i)) m q))

    pub restricted_phase : (x : Fin (times U.arms d)) → HasPhase (sign_of inner.phase) (stands_for inner) (w (arm_class U.arms d x)) M (restricted image F) x
    restricted_phase = unpaired U.arms d (λ x. HasPhase (sign_of inner.phase) (stands_for inner) (w (arm_class U.arms d x)) M (restricted image F) x)
        (λ i r. subst (λ z. HasPhase (sign_of inner.phase) (stands_for inner) (w z) M (restricted image F) (pair d i r)) (sym (on_pairs-pair d (λ i r. i) i r)) (place_phase i r))

    abbrev pub restricted_classes : Classes restricted_space
    restricted_classes = record {
      count = U.arms;
      class = arm_class U.arms d;
      wave = w;
      has_order = restricted_order;
      has_phase = restricted_phase;
    }

    pub class_trace_restricted : (i : Fin U.arms) (g : Operation) → class_trace restricted_classes i g ≡ trace (block d (F (image g)) i i)
    unfolding class_trace
    class_trace_restricted i g = arm_sum (numbers M) U.arms d i (λ x. (F (image g)).at x x) ∙ sym (block_trace (numbers M) U.arms d (F (image g)) i)
