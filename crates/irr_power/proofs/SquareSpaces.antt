-- The squares of a full representation, as representations whose diagonal places fall into classes, one for each pair of arms.
--   few_symmetric, few_skew                     they have at most 1,176 places
--   symmetric_representation, skew_representation     the squares
--   symmetric_classes, skew_classes             the classes
--   turned_class, turned-pair                   the class of two arms in the other order
--   twice_sum                                   twice the sum over classes that come with the turned ones
--   symmetric_part, skew_part                   twice the traces of the parts at a wave vector
use Rattle.std.proofs.Common.{◌≡◌, sym, ◌∙◌, ap, subst, ℕ, ◌+◌, ◌*◌, ◌<◌, ◌≤◌, List, length, arith}
use Rattle.std.specs.Int.{◌∣◌}
use native.Mathlib.Nat as Nat
use Rattle.irr_algebra.specs.Ring.{Ring}
use Rattle.irr_algebra.specs.Fin.{Fin}
use Rattle.irr_algebra.specs.Matrix.{Matrix, ◌⊕◌, trace}
use Rattle.irr_algebra.specs.Sum.{sum}
use Rattle.irr_algebra.specs.Pair.{times, pair, on_pairs}
use Rattle.irr_algebra.proofs.Matrices.{matrix-ext}
use Rattle.irr_algebra.proofs.Pairs.{on_pairs-pair}
use Rattle.irr_algebra.proofs.Sums.{sum-add, sum-ext, sum-permuted}
use Rattle.irr_number.specs.Number.{Number, numbers}
use Rattle.irr_rational.specs.Rational.{rationals}
use Rattle.irr_theory.specs.FactorSystem.{Representation}
use Rattle.irr_space.specs.Operation.{Operation, WaveVector}
use Rattle.irr_space.specs.Reciprocal.{AreEquivalent}
use Rattle.irr_space.specs.PhaseTable.{phases_over}
use Rattle.irr_cocycle.proofs.Reciprocals.{equivalent_sym, equivalent_trans}
use Rattle.irr_seitz.specs.PhaseMeaning.{sign_of}
use Rattle.irr_close.specs.StandsFor.{stands_for}
use Rattle.irr_close.specs.declared.group.Group.{Group}
use Rattle.irr_close.proofs.SpaceGroups.{space_group}
use Rattle.irr_little.proofs.Spaces.{has_canonical}
use Rattle.irr_full.specs.Star.{Star}
use Rattle.irr_full.specs.Full.{IsFullOf, block}
use Rattle.irr_full.proofs.Diagonals.{full-diagonal, unpaired}
use Rattle.irr_full.proofs.FullMatrices.{full_representation}
use Rattle.irr_full.proofs.Selections.{ordered_injective}
use Rattle.irr_forms.specs.Square.{upper, strict}
use Rattle.irr_forms.proofs.Triangles.{size-upper, size-strict}
use Rattle.irr_reality.specs.Squares.{symmetric_squares, skew_squares}
use Rattle.irr_reality.proofs.SquaresOfGroups.{symmetric-representation, skew-representation, symmetric-has_diagonal, skew-has_diagonal}
use Rattle.irr_mult.specs.Traced.{SpaceRepresentation}
use Rattle.irr_mult.specs.Classes.{AreClassesAt, Classes, class_trace, part_trace}
use Rattle.irr_product.proofs.KroneckerClasses.{product_order}
use Rattle.irr_product.proofs.ReciprocalTests.{decide_reciprocal}
use Rattle.irr_power.specs.Places.{IsReturn, skew_sum, strict_class, symmetric_sum, upper_class}
use Rattle.irr_power.proofs.SquareClasses.{skew_classes as skew_both, strict_phase, symmetric_classes as symmetric_both, upper_phase}

pub few_symmetric : (n : ℕ) → n ≤ 48 → upper n ≤ 1176
few_symmetric n few =
    let e : upper n + upper n ≡ n * (n + 1) = size-upper n in
    let m : n + 1 ≤ 49 = omega (arith, few) in
    let l : n * (n + 1) ≤ 48 * 49 = Nat.mul-le-mul few m in
    omega (arith, e, l)

pub few_skew : (n : ℕ) → n ≤ 48 → strict n ≤ 1176
few_skew n few =
    let e : strict n + strict n + n ≡ n * n = size-strict n in
    let l : n * n ≤ 48 * 48 = Nat.mul-le-mul few few in
    omega (arith, e, l)

-- the class of two arms in the other order
abbrev pub turned_class : (a : ℕ) → Fin (times a a) → Fin (times a a)
turned_class a = on_pairs a a (λ i j. pair a j i)

pub turned-pair : (a : ℕ) (i j : Fin a) → turned_class a (pair a i j) ≡ pair a j i
turned-pair a i j = on_pairs-pair a (λ i j. pair a j i) i j

turned-turned : (a : ℕ) (c : Fin (times a a)) → turned_class a (turned_class a c) ≡ c
turned-turned a = unpaired a a (λ c. turned_class a (turned_class a c) ≡ c)
    (λ i j. ap (turned_class a) (turned-pair a i j) ∙ turned-pair a j i)

sum_turned : (k l : WaveVector) → k ⊕ l ≡ l ⊕ k
unfolding ◌⊕◌
sum_turned k l = matrix-ext (λ i j. rationals.add_comm (k.at i j) (l.at i j))

-- with each of these classes comes the turned one
pub twice_sum : (R : Ring) (a n : ℕ) (index : Fin n → Fin (times a a)) → ((s t : Fin n) → index s ≡ index t → s ≡ t)
    → ((t : Fin n) → (s : Fin n) × (index s ≡ turned_class a (index t))) → (f : Fin (times a a) → R.Carrier)
    → R.add (sum R n (λ t. f (index t))) (sum R n (λ t. f (index t)))
    ≡ sum R n (λ t. R.add (f (index t)) (f (turned_class a (index t))))
twice_sum R a n index injective others f =
    ap (R.add (sum R n (λ t. f (index t)))) (sym (sum-permuted R n other other back back (λ t. f (index t)))
    ∙ sum-ext R n (λ t. f (index (other t))) (λ t. f (turned_class a (index t))) (λ t. ap f (others t).1))
    ∙ sym (sum-add R n (λ t. f (index t)) (λ t. f (turned_class a (index t))))
  where
    other : Fin n → Fin n
    other t = (others t).0

    back : (t : Fin n) → other (other t) ≡ t
    back t = injective (other (other t)) t ((others (other t)).1 ∙ ap (turned_class a) (others t).1 ∙ turned-turned a (index t))

module _ (group : Group) {k : WaveVector} (U : Star (sign_of group.phase) (stands_for group) k)
    (M : ℕ) (positive : 0 < M) (u : U.table.order ∣ M) {d : ℕ} (D : Representation (phases_over U.table M u) d)
    (F : Operation → Matrix (numbers M) (times U.arms d) (times U.arms d)) (full : IsFullOf U M u D F) where
  abbrev pub symmetric_representation : SpaceRepresentation
  symmetric_representation = record {
    group = group;
    order = M;
    positive = positive;
    size = upper (times U.arms d);
    at = symmetric_squares F;
    is_representation = symmetric-representation (stands_for group) F
        (full_representation (stands_for group) (space_group group).is_group (has_canonical group) U M positive u D F full);
    has_diagonal = symmetric-has_diagonal (stands_for group) F
        (full-diagonal (stands_for group) (space_group group).is_group (has_canonical group) U M positive u D F full);
  }

  abbrev pub skew_representation : SpaceRepresentation
  skew_representation = record {
    group = group;
    order = M;
    positive = positive;
    size = strict (times U.arms d);
    at = skew_squares F;
    is_representation = skew-representation (stands_for group) F
        (full_representation (stands_for group) (space_group group).is_group (has_canonical group) U M positive u D F full);
    has_diagonal = skew-has_diagonal (stands_for group) F
        (full-diagonal (stands_for group) (space_group group).is_group (has_canonical group) U M positive u D F full);
  }

  module _ (wave : Fin (times U.arms U.arms) → WaveVector)
      (near : (i j : Fin U.arms) → AreEquivalent (stands_for group) (wave (pair U.arms i j)) (U.arm i ⊕ U.arm j)) where
    abbrev pub symmetric_classes : Classes symmetric_representation
    symmetric_classes = record {
      count = times U.arms U.arms;
      class = upper_class U.arms d;
      wave = wave;
      has_order = product_order group U U M positive u u D D F full F full wave near;
      has_phase = upper_phase (stands_for group) (space_group group).is_group (has_canonical group) U M positive u D F full
          (decide_reciprocal group) wave near;
    }

    abbrev pub skew_classes : Classes skew_representation
    skew_classes = record {
      count = times U.arms U.arms;
      class = strict_class U.arms d;
      wave = wave;
      has_order = product_order group U U M positive u u D D F full F full wave near;
      has_phase = strict_phase (stands_for group) (space_group group).is_group (has_canonical group) U M positive u D F full
          (decide_reciprocal group) wave near;
    }

    near_turned : (c : Fin (times U.arms U.arms)) → AreEquivalent (stands_for group) (wave c) (wave (turned_class U.arms c))
    near_turned = unpaired U.arms U.arms (λ c. AreEquivalent (stands_for group) (wave c) (wave (turned_class U.arms c)))
        (λ i j. subst (λ c. AreEquivalent (stands_for group) (wave (pair U.arms i j)) (wave c)) (sym (turned-pair U.arms i j))
        (equivalent_trans (stands_for group) (wave (pair U.arms i j)) (U.arm i ⊕ U.arm j) (wave (pair U.arms j i)) (near i j)
        (subst (λ w. AreEquivalent (stands_for group) w (wave (pair U.arms j i))) (sum_turned (U.arm j) (U.arm i))
        (equivalent_sym (stands_for group) (wave (pair U.arms j i)) (U.arm j ⊕ U.arm i) (near j i)))))

    -- the product of the traces of two arms, and what returns
    abbrev pub added : Operation → (Fin U.arms → Fin U.arms → Number M) → Fin (times U.arms U.arms) → Number M
    added g x = on_pairs U.arms U.arms (λ i j. (numbers M).add ((numbers M).mul (trace (block d (F g) i i)) (trace (block d (F g) j j))) (x i j))

    abbrev pub subtracted : Operation → (Fin U.arms → Fin U.arms → Number M) → Fin (times U.arms U.arms) → Number M
    subtracted g x = on_pairs U.arms U.arms (λ i j. (numbers M).add ((numbers M).mul (trace (block d (F g) i i)) (trace (block d (F g) j j))) ((numbers M).neg (x i j)))

    module _ (r : WaveVector) {cs : List ℕ} where
      module _ (at : AreClassesAt symmetric_classes r cs) where
        others : (t : Fin (length cs)) → (s : Fin (length cs)) × (at.index s ≡ turned_class U.arms (at.index t))
        others t = at.all (turned_class U.arms (at.index t))
            (equivalent_trans (stands_for group) r (wave (at.index t)) (wave (turned_class U.arms (at.index t))) (at.holds t) (near_turned (at.index t)))

        pub symmetric_part : (g : Operation) → stands_for group g → (x : Fin U.arms → Fin U.arms → Number M)
            → ((i j : Fin U.arms) → IsReturn U M d F g i j (x i j))
            → (numbers M).add (part_trace symmetric_classes r at g) (part_trace symmetric_classes r at g)
            ≡ sum (numbers M) (length cs) (λ t. added g x (at.index t))
        unfolding part_trace class_trace
        symmetric_part g in_g x is =
            twice_sum (numbers M) U.arms (length cs) at.index (ordered_injective at.index at.ordered) others (symmetric_sum (numbers M) U.arms d (F g))
            ∙ sum-ext (numbers M) (length cs)
            (λ t. (numbers M).add (symmetric_sum (numbers M) U.arms d (F g) (at.index t)) (symmetric_sum (numbers M) U.arms d (F g) (turned_class U.arms (at.index t))))
            (λ t. added g x (at.index t)) (λ t. each (at.index t))
          where
            each : (c : Fin (times U.arms U.arms))
                → (numbers M).add (symmetric_sum (numbers M) U.arms d (F g) c) (symmetric_sum (numbers M) U.arms d (F g) (turned_class U.arms c))
                ≡ added g x c
            each = unpaired U.arms U.arms (λ c. (numbers M).add (symmetric_sum (numbers M) U.arms d (F g) c)
                (symmetric_sum (numbers M) U.arms d (F g) (turned_class U.arms c)) ≡ added g x c)
                (λ i j. ap (λ c. (numbers M).add (symmetric_sum (numbers M) U.arms d (F g) (pair U.arms i j)) (symmetric_sum (numbers M) U.arms d (F g) c))
                (turned-pair U.arms i j)
                ∙ symmetric_both (stands_for group) (space_group group).is_group (has_canonical group) U M positive u D F full g in_g i j (x i j) (is i j)
                ∙ sym (on_pairs-pair U.arms (λ i j. (numbers M).add ((numbers M).mul (trace (block d (F g) i i)) (trace (block d (F g) j j))) (x i j)) i j))

      module _ (at : AreClassesAt skew_classes r cs) where
        other_classes : (t : Fin (length cs)) → (s : Fin (length cs)) × (at.index s ≡ turned_class U.arms (at.index t))
        other_classes t = at.all (turned_class U.arms (at.index t))
            (equivalent_trans (stands_for group) r (wave (at.index t)) (wave (turned_class U.arms (at.index t))) (at.holds t) (near_turned (at.index t)))

        pub skew_part : (g : Operation) → stands_for group g → (x : Fin U.arms → Fin U.arms → Number M)
            → ((i j : Fin U.arms) → IsReturn U M d F g i j (x i j))
            → (numbers M).add (part_trace skew_classes r at g) (part_trace skew_classes r at g)
            ≡ sum (numbers M) (length cs) (λ t. subtracted g x (at.index t))
        unfolding part_trace class_trace
        skew_part g in_g x is =
            twice_sum (numbers M) U.arms (length cs) at.index (ordered_injective at.index at.ordered) other_classes (skew_sum (numbers M) U.arms d (F g))
            ∙ sum-ext (numbers M) (length cs)
            (λ t. (numbers M).add (skew_sum (numbers M) U.arms d (F g) (at.index t)) (skew_sum (numbers M) U.arms d (F g) (turned_class U.arms (at.index t))))
            (λ t. subtracted g x (at.index t)) (λ t. each (at.index t))
          where
            each : (c : Fin (times U.arms U.arms))
                → (numbers M).add (skew_sum (numbers M) U.arms d (F g) c) (skew_sum (numbers M) U.arms d (F g) (turned_class U.arms c))
                ≡ subtracted g x c
            each = unpaired U.arms U.arms (λ c. (numbers M).add (skew_sum (numbers M) U.arms d (F g) c)
                (skew_sum (numbers M) U.arms d (F g) (turned_class U.arms c)) ≡ subtracted g x c)
                (λ i j. ap (λ c. (numbers M).add (skew_sum (numbers M) U.arms d (F g) (pair U.arms i j)) (skew_sum (numbers M) U.arms d (F g) c))
                (turned-pair U.arms i j)
                ∙ skew_both (stands_for group) (space_group group).is_group (has_canonical group) U M positive u D F full g in_g i j (x i j) (is i j)
                ∙ sym (on_pairs-pair U.arms (λ i j. (numbers M).add ((numbers M).mul (trace (block d (F g) i i)) (trace (block d (F g) j j))) ((numbers M).neg (x i j))) i j))
