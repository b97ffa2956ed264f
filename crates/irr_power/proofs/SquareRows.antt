-- The rows of the squares of a full representation at a star, as halves of sums over pairs of arms.
--   OwnRows                 the rows of a full representation at the operations of a star
--   product_rows            the rows of the traces of both arms of pairs
--   return_rows             the rows of the traces at the squares of the operations, and where these take the arms
--   symmetric_row_at, skew_row_at     a row of halves is that of the part of the square there
use Rattle.std.proofs.Common.{◌≡◌, sym, ◌∙◌, ap, subst, ℕ, ◌+◌, ◌*◌, ◌<◌, ◌≤◌, List, length, get_or, Vec, Global}
use Rattle.std.specs.Int.{◌∣◌}
use native.Mathlib.Nat as Nat
use Rattle.irr_algebra.specs.Fin.{Fin, to_nat}
use Rattle.irr_algebra.specs.Matrix.{Matrix, ◌⊕◌, trace}
use Rattle.irr_algebra.specs.Pair.{times, pair}
use Rattle.irr_algebra.specs.Sum.{delta, sum}
use Rattle.irr_algebra.proofs.Pairs.{on_pairs-pair, to_nat-pair}
use Rattle.irr_algebra.proofs.Rings.{one-mul, zero-mul}
use Rattle.irr_algebra.proofs.Sums.{delta-eq, delta-ne, sum-add, sum-ext, sum-neg}
use Rattle.irr_number.specs.Number.{Number, numbers}
use Rattle.irr_canonical.specs.RootSum.{IsRootSum}
use Rattle.irr_theory.specs.FactorSystem.{Representation}
use Rattle.irr_space.specs.Operation.{Operation, WaveVector, ◌⊙◌}
use Rattle.irr_space.specs.Reciprocal.{AreEquivalent}
use Rattle.irr_space.specs.PhaseTable.{phases_over}
use Rattle.irr_seitz.specs.PhaseMeaning.{sign_of}
use Rattle.irr_rep.specs.Twisted.{place_count}
use Rattle.irr_kvec.specs.WaveMeaning.{wave_vector}
use Rattle.irr_close.specs.StandsFor.{stands_for}
use Rattle.irr_close.specs.declared.group.Group.{Group}
use Rattle.irr_close.proofs.SpaceGroups.{space_group}
use Rattle.irr_little.proofs.Spaces.{has_canonical}
use Rattle.irr_char.specs.Characters.{IsRowOf}
use Rattle.irr_full.specs.Star.{Star}
use Rattle.irr_full.specs.Full.{IsFullOf, block}
use Rattle.irr_full.proofs.StarLaws.{same_arm}
use Rattle.irr_star.proofs.StarLists.{few_numbers}
use Rattle.irr_mult.specs.Listing.{item}
use Rattle.irr_mult.specs.declared.star.StarCharacters.{StarCharacters}
use Rattle.irr_mult.specs.Traced.{AreStarCharacters, traces_at}
use Rattle.irr_mult.specs.Classes.{AreClassesAt, IsRowAt, part_trace}
use Rattle.irr_product.specs.ClassRows.{ClassRows, class_sum}
use Rattle.irr_product.proofs.KroneckerLists.{arms_of_number, few_places, listed_near, listed_wave}
use Rattle.irr_power.specs.Places.{IsReturn, IsTaken}
use Rattle.irr_power.specs.Halves.{IsHalf, difference_of, sum_of}
use Rattle.irr_power.specs.Returns.{ReturnRows, return_sum}
use Rattle.irr_power.proofs.SquareSpaces.{added, skew_classes, skew_part, subtracted, symmetric_classes, symmetric_part}

-- rows of the traces of the blocks of the arms at operations, of those at their squares, and of the arms to which they take others
pub record OwnRows (group : Group) {k : WaveVector} (U : Star (sign_of group.phase) (stands_for group) k) (M d : ℕ)
    (F : Operation → Matrix (numbers M) (times U.arms d) (times U.arms d)) {S : Type 0} (order : S → ℕ) (value : (n : ℕ) → S → Number n)
    {h : ℕ} (op : Fin h → Operation) (arms doubles : List (Vec S Global)) (targets : List (Vec ℕ Global)) : Type 0 where
  pub arm_count : length arms ≡ U.arms
  pub double_count : length doubles ≡ U.arms
  pub target_count : length targets ≡ U.arms
  pub arm_row : (i : Fin U.arms) → IsRowOf order value M (λ p. trace (block d (F (op p)) i i)) (traces_at arms (to_nat i))
  pub double_row : (i : Fin U.arms) → IsRowOf order value M (λ p. trace (block d (F (op p ⊙ op p)) i i)) (traces_at doubles (to_nat i))
  pub arm_small : (i : Fin U.arms) (p : Fin h) → IsRootSum M 48 1 (trace (block d (F (op p)) i i))
  pub double_small : (i : Fin U.arms) (p : Fin h) → IsRootSum M 48 1 (trace (block d (F (op p ⊙ op p)) i i))
  pub target : Fin U.arms → Fin h → Fin U.arms
  pub taken : (i : Fin U.arms) (p : Fin h) → IsTaken U (op p) i (target i p)
  pub target_places : (i : Fin U.arms) → length (traces_at targets (to_nat i)) ≡ h
  pub target_at : (i : Fin U.arms) (p : Fin h) (none : ℕ) → get_or (traces_at targets (to_nat i)) (to_nat p) none ≡ to_nat (target i p)

module _ (group : Group) {k : WaveVector} (U : Star (sign_of group.phase) (stands_for group) k)
    (M : ℕ) (positive : 0 < M) (u : U.table.order ∣ M) {d : ℕ} (D : Representation (phases_over U.table M u) d)
    (F : Operation → Matrix (numbers M) (times U.arms d) (times U.arms d)) (full : IsFullOf U M u D F)
    (sums : List WaveVector) (default : WaveVector)
    (near : (i j : Fin U.arms) → AreEquivalent (stands_for group) (get_or sums (to_nat i * U.arms + to_nat j) default) (U.arm i ⊕ U.arm j)) where
  abbrev wave_at : Fin (times U.arms U.arms) → WaveVector
  wave_at = listed_wave (stands_for group) U.arm U.arm sums default

  abbrev near_at : (i j : Fin U.arms) → AreEquivalent (stands_for group) (wave_at (pair U.arms i j)) (U.arm i ⊕ U.arm j)
  near_at = listed_near (stands_for group) U.arm U.arm sums default near

  module _ {S : Type 0} (order : S → ℕ) (value : (n : ℕ) → S → Number n) (few_U : U.arms ≤ 48)
      (star : StarCharacters S) (has : AreStarCharacters order value group M star)
      (cs : List ℕ) (at : AreClassesAt (symmetric_classes group U M positive u D F full wave_at near_at) (wave_vector star.wave) cs)
      {arms doubles : List (Vec S Global)} {targets : List (Vec ℕ Global)}
      (rows : OwnRows group U M d F order value has.star.operation arms doubles targets) where
    pub few_classes : length cs ≤ 2304
    few_classes = Nat.le_trans (few_numbers (length cs) (times U.arms U.arms) at.index at.ordered) (few_places U.arms U.arms few_U few_U)

    abbrev pub first : Fin (length cs) → Fin U.arms
    first t = (arms_of_number U.arms U.arms (at.index t)).0

    abbrev pub second : Fin (length cs) → Fin U.arms
    second t = (arms_of_number U.arms U.arms (at.index t)).1

    pub is_pair : (t : Fin (length cs)) → pair U.arms (first t) (second t) ≡ at.index t
    is_pair t = (arms_of_number U.arms U.arms (at.index t)).2

    pub class_at : (t : Fin (length cs)) → item cs t ≡ to_nat (first t) * U.arms + to_nat (second t)
    class_at t = at.is t ∙ sym (ap to_nat (is_pair t)) ∙ to_nat-pair U.arms (first t) (second t)

    abbrev pub product_rows : ClassRows order value M (place_count star.table) arms arms cs
    product_rows = record {
      lefts = U.arms;
      rights = U.arms;
      left_count = rows.arm_count;
      right_count = rows.arm_count;
      left_number = λ i p. trace (block d (F (has.star.operation p)) i i);
      right_number = λ j p. trace (block d (F (has.star.operation p)) j j);
      left_row = rows.arm_row;
      right_row = rows.arm_row;
      left_small = rows.arm_small;
      right_small = rows.arm_small;
      few_classes = few_classes;
      first = first;
      second = second;
      class = class_at;
    }

    abbrev pub return_rows : ReturnRows order value M (place_count star.table) doubles targets cs
    return_rows = record {
      arms = U.arms;
      count = rows.double_count;
      number = λ i p. trace (block d (F (has.star.operation p ⊙ has.star.operation p)) i i);
      row = rows.double_row;
      small = rows.double_small;
      target = rows.target;
      target_count = rows.target_count;
      target_places = rows.target_places;
      target_at = rows.target_at;
      few_classes = few_classes;
      first = first;
      second = second;
      class = class_at;
    }

    abbrev returning : Fin (place_count star.table) → Fin U.arms → Fin U.arms → Number M
    returning p i j = (numbers M).mul (delta (numbers M) (rows.target i p) j) (trace (block d (F (has.star.operation p ⊙ has.star.operation p)) i i))

    in_group : (p : Fin (place_count star.table)) → stands_for group (has.star.operation p)
    in_group p = (has.star.numbering.canonical p).member

    is_return : (p : Fin (place_count star.table)) (i j : Fin U.arms) → IsReturn U M d F (has.star.operation p) i j (returning p i j)
    is_return p i j = record {
      taken = λ t.
          let here = rows.taken i p in
          let same : rows.target i p ≡ j = same_arm (stands_for group) (space_group group).is_group (has_canonical group) U (rows.target i p) j here.0 t.0 here.1 t.1
          (sym here.2 ∙ t.2) in
          ap (λ x. (numbers M).mul x (trace (block d (F (has.star.operation p ⊙ has.star.operation p)) i i))) (delta-eq (numbers M) (rows.target i p) j same)
          ∙ one-mul (numbers M) (trace (block d (F (has.star.operation p ⊙ has.star.operation p)) i i));
      apart = λ none.
          ap (λ x. (numbers M).mul x (trace (block d (F (has.star.operation p ⊙ has.star.operation p)) i i)))
          (delta-ne (numbers M) (rows.target i p) j (λ q. none (subst (IsTaken U (has.star.operation p) i) q (rows.taken i p))))
          ∙ zero-mul (numbers M) (trace (block d (F (has.star.operation p ⊙ has.star.operation p)) i i));
    }

    -- the products and what returns, over the classes
    abbrev products : Fin (place_count star.table) → Fin (length cs) → Number M
    products p t = (numbers M).mul (trace (block d (F (has.star.operation p)) (first t) (first t))) (trace (block d (F (has.star.operation p)) (second t) (second t)))

    sum_added : (p : Fin (place_count star.table))
        → sum (numbers M) (length cs) (λ t. added group U M positive u D F full wave_at near_at (has.star.operation p) (returning p) (at.index t))
        ≡ (numbers M).add (class_sum product_rows p) (return_sum return_rows p)
    unfolding class_sum return_sum
    sum_added p = sum-ext (numbers M) (length cs)
        (λ t. added group U M positive u D F full wave_at near_at (has.star.operation p) (returning p) (at.index t))
        (λ t. (numbers M).add (products p t) (returning p (first t) (second t)))
        (λ t. ap (added group U M positive u D F full wave_at near_at (has.star.operation p) (returning p)) (sym (is_pair t))
        ∙ on_pairs-pair U.arms (λ i j. (numbers M).add ((numbers M).mul (trace (block d (F (has.star.operation p)) i i)) (trace (block d (F (has.star.operation p)) j j)))
        (returning p i j)) (first t) (second t))
        ∙ sum-add (numbers M) (length cs) (products p) (λ t. returning p (first t) (second t))

    sum_subtracted : (p : Fin (place_count star.table))
        → sum (numbers M) (length cs) (λ t. subtracted group U M positive u D F full wave_at near_at (has.star.operation p) (returning p) (at.index t))
        ≡ (numbers M).add (class_sum product_rows p) ((numbers M).neg (return_sum return_rows p))
    unfolding class_sum return_sum
    sum_subtracted p = sum-ext (numbers M) (length cs)
        (λ t. subtracted group U M positive u D F full wave_at near_at (has.star.operation p) (returning p) (at.index t))
        (λ t. (numbers M).add (products p t) ((numbers M).neg (returning p (first t) (second t))))
        (λ t. ap (subtracted group U M positive u D F full wave_at near_at (has.star.operation p) (returning p)) (sym (is_pair t))
        ∙ on_pairs-pair U.arms (λ i j. (numbers M).add ((numbers M).mul (trace (block d (F (has.star.operation p)) i i)) (trace (block d (F (has.star.operation p)) j j)))
        ((numbers M).neg (returning p i j))) (first t) (second t))
        ∙ sum-add (numbers M) (length cs) (products p) (λ t. (numbers M).neg (returning p (first t) (second t)))
        ∙ ap ((numbers M).add (sum (numbers M) (length cs) (products p))) (sum-neg (numbers M) (length cs) (λ t. returning p (first t) (second t)))

    pub symmetric_row_at : (row : List S) → ((number : Fin (place_count star.table) → Number M)
        → ((p : Fin (place_count star.table)) → IsHalf M (sum_of M (class_sum product_rows p) (return_sum return_rows p)) (number p))
        → IsRowOf order value M number row)
        → IsRowAt order value (symmetric_classes group U M positive u D F full wave_at near_at) star cs row
    symmetric_row_at row halves = record {
      has = has;
      at = at;
      traces = halves
          (λ p. part_trace (symmetric_classes group U M positive u D F full wave_at near_at) (wave_vector star.wave) at (has.star.operation p))
          (λ p. record {
            twice = symmetric_part group U M positive u D F full wave_at near_at (wave_vector star.wave) at (has.star.operation p) (in_group p)
                (returning p) (is_return p) ∙ sum_added p;
          });
    }

    pub skew_row_at : (row : List S) → ((number : Fin (place_count star.table) → Number M)
        → ((p : Fin (place_count star.table)) → IsHalf M (difference_of M (class_sum product_rows p) (return_sum return_rows p)) (number p))
        → IsRowOf order value M number row)
        → IsRowAt order value (skew_classes group U M positive u D F full wave_at near_at) star cs row
    skew_row_at row halves = record {
      has = has;
      at = at;
      traces = halves
          (λ p. part_trace (skew_classes group U M positive u D F full wave_at near_at) (wave_vector star.wave) at (has.star.operation p))
          (λ p. record {
            twice = skew_part group U M positive u D F full wave_at near_at (wave_vector star.wave) at (has.star.operation p) (in_group p)
                (returning p) (is_return p) ∙ sum_subtracted p;
          });
    }
