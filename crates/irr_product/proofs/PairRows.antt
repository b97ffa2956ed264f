-- The rows of a direct product at a star, as sums over the classes of products of traces of blocks.
--   class_rows      the rows of both sides and the numbers of the classes
--   row_at_star     the row of sums is that of the part of the direct product there
use Rattle.std.proofs.Common.{◌≡◌, sym, ◌∙◌, ap, ℕ, ◌+◌, ◌*◌, ◌<◌, ◌≤◌, List, length, get_or, Vec, Global}
use Rattle.std.specs.Int.{◌∣◌}
use native.Mathlib.Nat as Nat
use Rattle.irr_algebra.specs.Fin.{Fin, to_nat}
use Rattle.irr_algebra.specs.Matrix.{Matrix, ◌⊕◌, trace}
use Rattle.irr_algebra.specs.Pair.{times, pair}
use Rattle.irr_algebra.proofs.Pairs.{to_nat-pair}
use Rattle.irr_algebra.proofs.Sums.{sum-ext}
use Rattle.irr_number.specs.Number.{Number, numbers}
use Rattle.irr_canonical.specs.RootSum.{IsRootSum}
use Rattle.irr_theory.specs.FactorSystem.{Representation}
use Rattle.irr_space.specs.Operation.{Operation, WaveVector}
use Rattle.irr_space.specs.Reciprocal.{AreEquivalent}
use Rattle.irr_space.specs.PhaseTable.{phases_over}
use Rattle.irr_seitz.specs.PhaseMeaning.{sign_of}
use Rattle.irr_rep.specs.Twisted.{place_count}
use Rattle.irr_kvec.specs.WaveMeaning.{wave_vector}
use Rattle.irr_close.specs.StandsFor.{stands_for}
use Rattle.irr_close.specs.declared.group.Group.{Group}
use Rattle.irr_char.specs.Characters.{IsRowOf}
use Rattle.irr_full.specs.Star.{Star}
use Rattle.irr_full.specs.Full.{IsFullOf, block}
use Rattle.irr_star.proofs.StarLists.{few_numbers}
use Rattle.irr_mult.specs.declared.star.StarCharacters.{StarCharacters}
use Rattle.irr_mult.specs.Traced.{AreStarCharacters, traces_at}
use Rattle.irr_mult.specs.Classes.{AreClassesAt, Classes, IsRowAt, class_trace, part_trace}
use Rattle.irr_product.specs.ClassRows.{ClassRows, class_sum}
use Rattle.irr_product.proofs.KroneckerClasses.{class_trace_product, product_classes, product_representation}
use Rattle.irr_product.proofs.KroneckerLists.{arms_of_number, few_places, listed_near, listed_wave}

module _ (group : Group) {k l : WaveVector} (U : Star (sign_of group.phase) (stands_for group) k)
    (V : Star (sign_of group.phase) (stands_for group) l)
    (M : ℕ) (positive : 0 < M) (u : U.table.order ∣ M) (v : V.table.order ∣ M)
    {c d : ℕ} (D : Representation (phases_over U.table M u) c) (E : Representation (phases_over V.table M v) d)
    (F : Operation → Matrix (numbers M) (times U.arms c) (times U.arms c)) (full_F : IsFullOf U M u D F)
    (H : Operation → Matrix (numbers M) (times V.arms d) (times V.arms d)) (full_H : IsFullOf V M v E H)
    (sums : List WaveVector) (default : WaveVector)
    (near : (i : Fin U.arms) (j : Fin V.arms)
    → AreEquivalent (stands_for group) (get_or sums (to_nat i * V.arms + to_nat j) default)
    (U.arm i ⊕ V.arm j)) where
  abbrev pub classes_here : Classes (product_representation group U V M positive u v D E F full_F H full_H)
  classes_here = product_classes group U V M positive u v D E F full_F H full_H
      (listed_wave (stands_for group) U.arm V.arm sums default) (listed_near (stands_for group) U.arm V.arm sums default near)

  module _ {S : Type 0} (order : S → ℕ) (value : (n : ℕ) → S → Number n) (few_U : U.arms ≤ 48) (few_V : V.arms ≤ 48)
      (star : StarCharacters S) (has : AreStarCharacters order value group M star)
      (cs : List ℕ) (at : AreClassesAt classes_here (wave_vector star.wave) cs) (left right : List (Vec S Global))
      (left_count : length left ≡ U.arms) (right_count : length right ≡ V.arms)
      (left_row : (i : Fin U.arms) → IsRowOf order value M (λ p. trace (block c (F (has.star.operation p)) i i)) (traces_at left (to_nat i)))
      (right_row : (j : Fin V.arms) → IsRowOf order value M (λ p. trace (block d (H (has.star.operation p)) j j)) (traces_at right (to_nat j)))
      (left_small : (i : Fin U.arms) (p : Fin (place_count star.table)) → IsRootSum M 48 1 (trace (block c (F (has.star.operation p)) i i)))
      (right_small : (j : Fin V.arms) (p : Fin (place_count star.table)) → IsRootSum M 48 1 (trace (block d (H (has.star.operation p)) j j)))
    where
      pub few : times U.arms V.arms ≤ 2304
      few = few_places U.arms V.arms few_U few_V

      abbrev first : Fin (length cs) → Fin U.arms
      first t = (arms_of_number U.arms V.arms (at.index t)).0

      abbrev second : Fin (length cs) → Fin V.arms
      second t = (arms_of_number U.arms V.arms (at.index t)).1

      pub is_pair : (t : Fin (length cs)) → pair V.arms (first t) (second t) ≡ at.index t
      is_pair t = (arms_of_number U.arms V.arms (at.index t)).2

      abbrev pub class_rows : ClassRows order value M (place_count star.table) left right cs
      class_rows = record {
        lefts = U.arms;
        rights = V.arms;
        left_count = left_count;
        right_count = right_count;
        left_number = λ i p. trace (block c (F (has.star.operation p)) i i);
        right_number = λ j p. trace (block d (H (has.star.operation p)) j j);
        left_row = left_row;
        right_row = right_row;
        left_small = left_small;
        right_small = right_small;
        few_classes = Nat.le_trans (few_numbers (length cs) (times U.arms V.arms) at.index at.ordered) few;
        first = first;
        second = second;
        class = λ t. at.is t ∙ sym (ap to_nat (is_pair t)) ∙ to_nat-pair V.arms (first t) (second t);
      }

      same_sum : (p : Fin (place_count star.table))
          → class_sum class_rows p ≡ part_trace classes_here (wave_vector star.wave) at (has.star.operation p)
      unfolding class_sum part_trace
      same_sum p = sum-ext (numbers M) (length cs)
          (λ t. (numbers M).mul (trace (block c (F (has.star.operation p)) (first t) (first t))) (trace (block d (H (has.star.operation p)) (second t) (second t))))
          (λ t. class_trace classes_here (at.index t) (has.star.operation p))
          (λ t. sym (class_trace_product group U V M positive u v D E F full_F H full_H
          (listed_wave (stands_for group) U.arm V.arm sums default) (listed_near (stands_for group) U.arm V.arm sums default near)
          (first t) (second t) (has.star.operation p))
          ∙ ap (λ x. class_trace classes_here x (has.star.operation p)) (is_pair t))

      pub row_at_star : (row : List S) → IsRowOf order value M (class_sum class_rows) row → IsRowAt order value classes_here star cs row
      row_at_star row r = record {
        has = has;
        at = at;
        traces = record { count = r.count; orders = r.orders; numbers_at = λ p. r.numbers_at p ∙ same_sum p };
      }
