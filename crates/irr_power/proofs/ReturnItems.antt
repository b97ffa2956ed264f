-- Numbers of the arms that operations take to others, and their sums.
--   row_of_each            a row, by its items
--   return_term            the number for a pair, or 0
--   class_rows             the rows of the numbers, for both arms of pairs
--   some_arm, arm_inside, target_inside, double_place, target_place     what is read is there
--   double_order, double_small     the number that is read
--   few_terms, all_terms   the sum so far, and all of it
--   one_more               the sum with one more number, or 0
use Rattle.std.proofs.Common.{◌≡◌, sym, ◌∙◌, ap, ap₂, subst, refl, ℕ, ◌+◌, ◌*◌, ◌/◌, ◌%◌, ◌<◌, ◌≤◌, inl, inr, List, length, get_or, Vec, Global, arith}
use Rattle.std.proofs.lemmas.List.{get_or-map, get_or_default}
use native.Mathlib.Nat as Nat
use Rattle.irr_algebra.specs.Fin.{Fin, to_nat}
use Rattle.irr_algebra.specs.Listed.{sum_below}
use Rattle.irr_algebra.specs.Sum.{delta}
use Rattle.irr_algebra.proofs.Indices.{from_nat, same_or_not, to_nat-lt, to_nat_inj}
use Rattle.irr_algebra.proofs.Rings.{one-mul, zero-mul}
use Rattle.irr_algebra.proofs.Sums.{delta-eq, delta-ne}
use Rattle.irr_number.specs.Number.{Number, numbers}
use Rattle.irr_canonical.specs.RootSum.{IsRootSum}
use Rattle.irr_canonical.proofs.RootSums.{IsRootSum-more, IsRootSum-zero}
use Rattle.irr_mat.proofs.PartialSums.{PartialSum, partial-add, partial-within}
use Rattle.irr_char.specs.Characters.{IsRowOf}
use Rattle.irr_char.proofs.Traces.{extended, extended-is, sum-extended}
use Rattle.irr_mult.specs.Listing.{item}
use Rattle.irr_mult.specs.Traced.{traces_at}
use Rattle.irr_product.specs.ClassRows.{ClassRows}
use Rattle.irr_side.specs.ArmTraces.{AreEach}
use Rattle.irr_power.specs.Returns.{ReturnRows, return_sum}
use Rattle.irr_product.proofs.RowItems.{first_inside, first_is, left_row_here, number_order, number_value, place_inside_left, second_is, some_right}

pub row_of_each : {S : Type 0} (order : S → ℕ) (value : (n : ℕ) → S → Number n) (n h : ℕ) (f : Fin h → Number n) (row : List S)
    → AreEach (λ k (x : S). (order x ≡ n) × ((p : Fin h) → to_nat p ≡ k → value n x ≡ f p)) h row → IsRowOf order value n f row
row_of_each order value n h f row made = record {
  count = made.count;
  orders = λ k d l. (made.each k d (subst (λ m. k < m) made.count l)).0;
  numbers_at = λ p.
      let l : to_nat p < length row = subst (λ m. to_nat p < m) (sym made.count) (to_nat-lt p) in
      let d = item row (from_nat (length row) (to_nat p) l) in
      get_or-map (value n) row (to_nat p) d (numbers n).zero l ∙ (made.each (to_nat p) d (to_nat-lt p)).1 p refl;
}

module _ {S : Type 0} (order : S → ℕ) (value : (n : ℕ) → S → Number n) (n h : ℕ) (doubles : List (Vec S Global)) (targets : List (Vec ℕ Global))
    (classes : List ℕ) (e : ReturnRows order value n h doubles targets classes) where
  abbrev pub return_term : Fin h → Fin (length classes) → Number n
  return_term p t = (numbers n).mul (delta (numbers n) (e.target (e.first t) p) (e.second t)) (e.number (e.first t) p)

  abbrev pub class_rows : ClassRows order value n h doubles doubles classes
  class_rows = record {
    lefts = e.arms;
    rights = e.arms;
    left_count = e.count;
    right_count = e.count;
    left_number = e.number;
    right_number = e.number;
    left_row = e.row;
    right_row = e.row;
    left_small = e.small;
    right_small = e.small;
    few_classes = e.few_classes;
    first = e.first;
    second = e.second;
    class = e.class;
  }

  pub return_term_small : (p : Fin h) (t : Fin (length classes)) → IsRootSum n 48 1 (return_term p t)
  return_term_small p t = elim (same_or_not (e.target (e.first t) p) (e.second t)) [
    | inl there ↦ subst (IsRootSum n 48 1) (sym (ap (λ x. (numbers n).mul x (e.number (e.first t) p))
        (delta-eq (numbers n) (e.target (e.first t) p) (e.second t) there) ∙ one-mul (numbers n) (e.number (e.first t) p))) (e.small (e.first t) p)
    | inr none ↦ subst (IsRootSum n 48 1) (sym (ap (λ x. (numbers n).mul x (e.number (e.first t) p))
        (delta-ne (numbers n) (e.target (e.first t) p) (e.second t) none) ∙ zero-mul (numbers n) (e.number (e.first t) p)))
        (IsRootSum-more n 48 (omega arith) (IsRootSum-zero n 1 (omega arith)))
  ]

  pub few_terms : (p : Fin h) (k : ℕ) → k < length classes → (s : S) → PartialSum order value n (extended n (return_term p)) k s
      → IsRootSum (order s) 110592 1 (value (order s) s)
  few_terms p k l s so = subst (λ m. IsRootSum m 110592 1 (value m s)) (sym so.has_order)
      (let few = e.few_classes in
      let within : k ≤ 2304 = omega (arith, few, l) in
      let size : k * 48 ≤ 2304 * 48 = Nat.mul-le-mul_right 48 within in
      IsRootSum-more n 110592 (omega (arith, size))
      (partial-within order value n (extended n (return_term p)) k 48 1 s so (omega arith)
      (λ i q. let m : i < length classes = omega (arith, q, l) in
      subst (IsRootSum n 48 1) (sym (extended-is n (return_term p) i m)) (return_term_small p (from_nat (length classes) i m)))))

  pub all_terms : (p : Fin h) (k : ℕ) → k ≡ length classes → (s : S) → PartialSum order value n (extended n (return_term p)) k s
      → value n s ≡ return_sum e p
  unfolding return_sum
  all_terms p k done s so = so.is_sum ∙ ap (λ m. sum_below (numbers n) m (extended n (return_term p))) done ∙ sum-extended n (return_term p)

  module _ (k : ℕ) (l : k < length classes) where
    abbrev class : ℕ
    class = get_or classes k 0

    abbrev at : Fin (length classes)
    at = from_nat (length classes) k l

    class_is : class ≡ get_or classes k class
    class_is = get_or_default classes k 0 class l

    pub some_arm : 0 < length doubles
    some_arm = some_right order value n h doubles doubles classes class_rows k l class class_is (length doubles) refl

    pub arm_inside : get_or classes k 0 / length doubles < length doubles
    arm_inside = first_inside order value n h doubles doubles classes class_rows k l class class_is (length doubles) refl

    arm_is : class / length doubles ≡ to_nat (e.first at)
    arm_is = first_is order value n h doubles doubles classes class_rows k l class class_is (length doubles) refl

    other_is : class % length doubles ≡ to_nat (e.second at)
    other_is = second_is order value n h doubles doubles classes class_rows k l class class_is (length doubles) refl

    pub target_inside : get_or classes k 0 / length doubles < length targets
    target_inside = subst (λ m. class / length doubles < m) (e.count ∙ sym e.target_count) arm_inside

    pub double_place : (place : ℕ) → place < h → place < length (traces_at doubles (get_or classes k 0 / length doubles))
    double_place place inside = place_inside_left order value n h doubles doubles classes class_rows k l class class_is place inside

    pub target_place : (place : ℕ) → place < h → place < length (traces_at targets (get_or classes k 0 / length doubles))
    target_place place inside = subst (λ m. place < m)
        (sym (ap (λ i. length (traces_at targets i)) arm_is ∙ e.target_places (e.first at))) inside

    module _ (place : ℕ) (inside : place < h) (x : S) (is : x ≡ get_or (traces_at doubles (get_or classes k 0 / length doubles)) place x) where
      row_here : IsRowOf {h = h} order value n (e.number (e.first at)) (traces_at doubles (class / length doubles))
      row_here = left_row_here order value n h doubles doubles classes class_rows k l class class_is (length doubles) refl

      pub double_order : order x ≡ n
      double_order = number_order order value n h (e.number (e.first at)) (traces_at doubles (class / length doubles)) row_here place inside x is

      double_value : (p : Fin h) → to_nat p ≡ place → value n x ≡ e.number (e.first at) p
      double_value p same = number_value order value n h (e.number (e.first at)) (traces_at doubles (class / length doubles)) row_here place inside x is p same

      pub double_small : (p : Fin h) → to_nat p ≡ place → (m : ℕ) → m ≡ n → IsRootSum m 48 1 (value m x)
      double_small p same m e_m = subst (λ j. IsRootSum j 48 1 (value j x)) (sym e_m)
          (subst (IsRootSum n 48 1) (sym (double_value p same)) (e.small (e.first at) p))

      module _ (p : Fin h) (same : to_nat p ≡ place) (target : ℕ)
          (target-is : (d : ℕ) → target ≡ get_or (traces_at targets (get_or classes k 0 / length doubles)) place d) where
        reached : target ≡ to_nat (e.target (e.first at) p)
        reached = target-is 0 ∙ ap₂ (λ i j. get_or (traces_at targets i) j 0) arm_is (sym same) ∙ e.target_at (e.first at) p 0

        pub one_more : (s z : S) → PartialSum order value n (extended n (return_term p)) k s → order z ≡ order s
            → (target ≡ get_or classes k 0 % length doubles → value (order s) z ≡ (numbers (order s)).add (value (order s) s) (value (order s) x))
            → ((target ≡ get_or classes k 0 % length doubles → ⊥) → value (order s) z ≡ value (order s) s)
            → PartialSum order value n (extended n (return_term p)) (k + 1) z
        one_more s z so same_order there elsewhere = elim (same_or_not (e.target (e.first at) p) (e.second at)) [
          | inl taken ↦ partial-add order value n (extended n (return_term p)) k s z (value n x) so (same_order ∙ so.has_order)
              (subst (λ m. value m z ≡ (numbers m).add (value m s) (value m x)) so.has_order (there (reached ∙ ap to_nat taken ∙ sym other_is)))
              (double_value p same ∙ sym (one-mul (numbers n) (e.number (e.first at) p))
              ∙ ap (λ y. (numbers n).mul y (e.number (e.first at) p)) (sym (delta-eq (numbers n) (e.target (e.first at) p) (e.second at) taken))
              ∙ sym (extended-is n (return_term p) k l))
          | inr none ↦ partial-add order value n (extended n (return_term p)) k s z (numbers n).zero so (same_order ∙ so.has_order)
              (subst (λ m. value m z ≡ value m s) so.has_order
              (elsewhere (λ q. none (to_nat_inj (e.target (e.first at) p) (e.second at) (sym reached ∙ q ∙ other_is))))
              ∙ sym ((numbers n).add-zero (value n s)))
              (sym (zero-mul (numbers n) (e.number (e.first at) p))
              ∙ ap (λ y. (numbers n).mul y (e.number (e.first at) p)) (sym (delta-ne (numbers n) (e.target (e.first at) p) (e.second at) none))
              ∙ sym (extended-is n (return_term p) k l))
        ]
