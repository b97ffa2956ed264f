-- The diagonal places of the direct product of two full representations fall into classes, one for each pair of arms.
--   product_representation     the direct product, as a representation of the group of the program
--   product_class              the class of a place: the pair of the arms of both places
--   product_order, product_phase     the wave vectors of the classes: their orders, and their phases at the places
--   product_classes            the classes
--   class_trace_product, class_traces     the trace of a class is the product of the traces of the blocks of both arms
--   class_of_arms              each class is that of two arms
--   part_trace_product         the trace of the part at a wave vector is the sum of these products over its classes
use Rattle.std.proofs.Common.{◌≡◌, sym, ◌∙◌, ap₂, subst, ℕ, ◌<◌, List, length}
use Rattle.std.specs.Int.{◌∣◌}
use Rattle.irr_algebra.specs.Fin.{Fin}
use Rattle.irr_algebra.specs.Matrix.{Matrix, ◌⊕◌, trace}
use Rattle.irr_algebra.specs.Sum.{sum}
use Rattle.irr_algebra.specs.Pair.{times, pair, on_pairs}
use Rattle.irr_algebra.proofs.Pairs.{on_pairs-pair}
use Rattle.irr_algebra.proofs.Sums.{sum-ext}
use Rattle.irr_number.specs.Number.{numbers}
use Rattle.irr_theory.specs.FactorSystem.{Representation}
use Rattle.irr_space.specs.Operation.{Operation, WaveVector}
use Rattle.irr_space.specs.Reciprocal.{AreEquivalent, IsOrder}
use Rattle.irr_space.specs.PhaseTable.{phases_over}
use Rattle.irr_seitz.specs.PhaseMeaning.{sign_of}
use Rattle.irr_close.specs.StandsFor.{stands_for}
use Rattle.irr_close.specs.declared.group.Group.{Group}
use Rattle.irr_close.proofs.SpaceGroups.{space_group}
use Rattle.irr_little.proofs.Spaces.{has_canonical}
use Rattle.irr_full.specs.Star.{Star}
use Rattle.irr_full.specs.Full.{IsFullOf, block}
use Rattle.irr_full.specs.Product.{kronecker}
use Rattle.irr_full.specs.Part.{HasPhase}
use Rattle.irr_full.proofs.Diagonals.{unpair, unpaired}
use Rattle.irr_mult.specs.Traced.{SpaceRepresentation}
use Rattle.irr_mult.specs.Classes.{AreClassesAt, Classes, class_trace, part_trace}
use Rattle.irr_product.proofs.PairSums.{pair_class, pair_class-at, class_sum}
use Rattle.irr_product.proofs.KroneckerPlaces.{block_trace, pair_order, phase_of_same, place_phase, product_has_diagonal, product_is_representation}
use Rattle.irr_product.proofs.ReciprocalTests.{decide_reciprocal}

module _ (group : Group) {k l : WaveVector} (U : Star (sign_of group.phase) (stands_for group) k)
    (V : Star (sign_of group.phase) (stands_for group) l)
    (M : ℕ) (positive : 0 < M) (u : U.table.order ∣ M) (v : V.table.order ∣ M)
    {c d : ℕ} (D : Representation (phases_over U.table M u) c) (E : Representation (phases_over V.table M v) d)
    (F : Operation → Matrix (numbers M) (times U.arms c) (times U.arms c)) (full_F : IsFullOf U M u D F)
    (H : Operation → Matrix (numbers M) (times V.arms d) (times V.arms d)) (full_H : IsFullOf V M v E H) where
  abbrev pub product_representation : SpaceRepresentation
  product_representation = record {
    group = group;
    order = M;
    positive = positive;
    size = times (times U.arms c) (times V.arms d);
    at = kronecker F H;
    is_representation = product_is_representation (stands_for group) (space_group group).is_group
        (has_canonical group) U V M positive u v D E F full_F H full_H;
    has_diagonal = product_has_diagonal (stands_for group) (space_group group).is_group
        (has_canonical group) U V M positive u v D E F full_F H full_H;
  }

  module _ (w : Fin (times U.arms V.arms) → WaveVector)
      (near : (i : Fin U.arms) (j : Fin V.arms)
      → AreEquivalent (stands_for group) (w (pair V.arms i j)) (U.arm i ⊕ V.arm j)) where
    pub product_order : (x : Fin (times U.arms V.arms)) → (m : ℕ) × IsOrder (stands_for group) (w x) m × (m ∣ M)
    product_order = unpaired U.arms V.arms (λ x. (m : ℕ) × IsOrder (stands_for group) (w x) m × (m ∣ M))
        (λ i j. pair_order (stands_for group) (space_group group).is_group (has_canonical group)
        (decide_reciprocal group) U V M positive u v i j (w (pair V.arms i j)) (near i j))

    pub product_phase : (x : Fin (times (times U.arms c) (times V.arms d)))
        → HasPhase (sign_of group.phase) (stands_for group) (w (pair_class U.arms c V.arms d x)) M (kronecker F H) x
    product_phase = unpaired (times U.arms c) (times V.arms d)
        (λ x. HasPhase (sign_of group.phase) (stands_for group) (w (pair_class U.arms c V.arms d x)) M
        (kronecker F H) x)
        (λ p q. at_first p q)
      where
        At : Fin (times U.arms c) → Fin (times V.arms d) → Type 0
        At p q = HasPhase (sign_of group.phase) (stands_for group)
            (w (pair_class U.arms c V.arms d (pair (times V.arms d) p q))) M (kronecker F H) (pair (times V.arms d) p q)

        at_pairs : (i : Fin U.arms) (r : Fin c) (j : Fin V.arms) (t : Fin d) → At (pair c i r) (pair d j t)
        at_pairs i r j t = phase_of_same (sign_of group.phase) (stands_for group) (U.arm i ⊕ V.arm j)
            (w (pair_class U.arms c V.arms d (pair (times V.arms d) (pair c i r) (pair d j t)))) M (kronecker F H)
            (pair (times V.arms d) (pair c i r) (pair d j t))
            (subst (λ x. AreEquivalent (stands_for group) (w x) (U.arm i ⊕ V.arm j))
            (sym (pair_class-at U.arms c V.arms d i r j t)) (near i j))
            (place_phase (stands_for group) (space_group group).is_group
            (has_canonical group) U V M positive u v D E F full_F H full_H (decide_reciprocal group)
            i r j t)

        at_second : (i : Fin U.arms) (r : Fin c) (q : Fin (times V.arms d)) → At (pair c i r) q
        at_second i r = unpaired V.arms d (At (pair c i r)) (λ j t. at_pairs i r j t)

        at_first : (p : Fin (times U.arms c)) (q : Fin (times V.arms d)) → At p q
        at_first = unpaired U.arms c (λ p. (q : Fin (times V.arms d)) → At p q) (λ i r. at_second i r)

    abbrev pub product_classes : Classes product_representation
    product_classes = record {
      count = times U.arms V.arms;
      class = pair_class U.arms c V.arms d;
      wave = w;
      has_order = product_order;
      has_phase = product_phase;
    }

    pub class_trace_product : (i : Fin U.arms) (j : Fin V.arms) (g : Operation)
        → class_trace product_classes (pair V.arms i j) g
        ≡ (numbers M).mul (trace (block c (F g) i i)) (trace (block d (H g) j j))
    unfolding class_trace
    class_trace_product i j g = class_sum (numbers M) U.arms c V.arms d (F g) (H g) i j
        ∙ sym (ap₂ (numbers M).mul (block_trace (numbers M) U.arms c (F g) i)
        (block_trace (numbers M) V.arms d (H g) j))

    -- so at each class, by its two arms
    pub class_traces : (x : Fin (times U.arms V.arms)) (g : Operation)
        → class_trace product_classes x g
        ≡ on_pairs U.arms V.arms (λ i j. (numbers M).mul (trace (block c (F g) i i)) (trace (block d (H g) j j))) x
    class_traces x g = unpaired U.arms V.arms (λ x. class_trace product_classes x g
        ≡ on_pairs U.arms V.arms (λ i j. (numbers M).mul (trace (block c (F g) i i)) (trace (block d (H g) j j))) x)
        (λ i j. class_trace_product i j g
        ∙ sym (on_pairs-pair V.arms (λ i j. (numbers M).mul (trace (block c (F g) i i))
        (trace (block d (H g) j j))) i j)) x

    -- each class is that of two arms
    pub class_of_arms : (x : Fin (times U.arms V.arms)) → (i : Fin U.arms) × (j : Fin V.arms) × (pair V.arms i j ≡ x)
    class_of_arms = unpair U.arms V.arms

    -- the trace of the part at a wave vector, by the two arms of each of its classes
    pub part_trace_product : (r : WaveVector) {cs : List ℕ} (at : AreClassesAt product_classes r cs) (g : Operation)
        → part_trace product_classes r at g
        ≡ sum (numbers M) (length cs)
        (λ x. on_pairs U.arms V.arms (λ i j. (numbers M).mul (trace (block c (F g) i i)) (trace (block d (H g) j j)))
        (at.index x))
    unfolding part_trace
    part_trace_product r {cs = cs} at g = sum-ext (numbers M) (length cs)
        (λ x. class_trace product_classes (at.index x) g)
        (λ x. on_pairs U.arms V.arms (λ i j. (numbers M).mul (trace (block c (F g) i i)) (trace (block d (H g) j j)))
        (at.index x))
        (λ x. class_traces (at.index x) g)
