-- A full list in the order of its rows.
--   own, own_list            the members over the phases of the table itself
--   row_value                the numbers of the rows are the traces of the members
--   rows_meet                no two rows are the same
--   place_of, place_back     the order of the places as a map, and its inverse
--   small_list               the families in this order
use Rattle.std.specs.Prelude.{ℕ, ◌≡◌, ◌<◌, ◌≤◌, ◌⊎◌, List, [], map, length, slice_index, Contains}
use Rattle.std.specs.Int.{◌∣◌}
use Rattle.std.specs.List.{All, range_with_len}
use Rattle.std.specs.List.Sorted.{IsPermutation}
use Rattle.std.proofs.Common.{sym, ◌∙◌, ap, subst, refl, inl, inr, get_or, zero-add, arith}
use mathlib.Core.Path.{fun_ext}
use Rattle.std.proofs.lemmas.Bool.{cases_lt}
use Rattle.std.proofs.lemmas.List.{get_or_default, get_or-map}
use Rattle.std.proofs.lemmas.List.Elements.{All-from_get_or, All-get_or, Contains-get_or}
use Rattle.std.proofs.lemmas.List.FromFn.{get_or-range_with_len, length-range_with_len}
use Rattle.std.proofs.lemmas.List.Sorted.{All-permutation, IsPermutation-sym, length_permutation}
use Rattle.irr_algebra.specs.Fin.{Fin, to_nat}
use Rattle.irr_algebra.specs.Matrix.{scale, trace}
use Rattle.irr_algebra.proofs.Indices.{from_nat, to_nat-from_nat, to_nat-lt, to_nat_inj}
use Rattle.irr_number.specs.Number.{Number, numbers, root_power}
use Rattle.irr_number.proofs.Lifts.{lift_self}
use Rattle.irr_number.proofs.NumberField.{number_field}
use Rattle.irr_theory.specs.FactorSystem.{Representation}
use Rattle.irr_theory.specs.Representations.{IsFull, Representations}
use Rattle.irr_clifford.proofs.Choice.{same_traces}
use Rattle.irr_ascent.specs.Joined.{rearranged}
use Rattle.irr_ascent.proofs.Rearranged.{rearranged_full}
use Rattle.irr_space.specs.PhaseTable.{PhaseTable, phases_at, phases_over}
use Rattle.irr_space.specs.CompleteList.{IsInOrder, IsRowBefore, row}
use Rattle.irr_space.proofs.FullLists.{full_list-complete}
use Rattle.irr_cyc.specs.declared.scalars.Scalar.{Ghosts}
use Rattle.irr_rep.specs.declared.family.Family.{Family}
use Rattle.irr_char.specs.Rows as Rows
use Rattle.irr_char.specs.Rows.{AreInOrder, row_at, row_of}
use Rattle.irr_char.proofs.PlaceOrders.{places_differ, places_within}
use Rattle.irr_climb.specs.Families.{AreRows, IsRead}
use Rattle.irr_climb.specs.Lists.{IsFullyRead, IsSmallList}
use Rattle.irr_climb.specs.Sizes.{AreSized, IsSized}

module _ {h : ℕ} (T : PhaseTable h) (v : T.order ∣ T.order) {S : Type 0} {G : Ghosts S} (fs : List (Family S G))
    (f : IsFullyRead T.order (phases_over T T.order v) fs) where
  abbrev own : {d : ℕ} → Representation (phases_over T T.order v) d → Representation (phases_at T) d
  own A = record {
    at = A.at;
    at-start = A.at-start;
    at-product = λ i j. A.at-product i j
        ∙ ap (λ c. scale (numbers T.order) c (A.at (T.product i j))) (lift_self T.order T.order_positive v (root_power T.order (T.exponent i j)));
  }

  abbrev own_list : Representations (phases_at T)
  own_list = record { count = f.list.count; size = f.list.size; member = λ m. own (f.list.member m) }

  own_full : IsFull own_list
  own_full = record { positive = f.full.positive; simple = f.full.simple; inequivalent = f.full.inequivalent; squares = f.full.squares }

  module _ (rows : List (List S)) (are : AreRows G.order_of G.value T.order (phases_over T T.order v) f.list rows) where
    -- the numbers of the rows
    abbrev values : List (List (Number T.order))
    values = map (map (G.value T.order)) rows

    row_value : (m : Fin f.list.count) (a : ℕ) → to_nat m ≡ a → (i : Fin h) → row_at T.order values a i ≡ trace ((f.list.member m).at i)
    row_value m a e i =
        let l = subst (λ n. to_nat m < n) (sym are.count) (to_nat-lt m) in
        ap (λ b. row_of T.order (get_or values b []) i) (sym e)
        ∙ ap (λ r. row_of T.order r i) (get_or-map (map (G.value T.order)) rows (to_nat m) [] [] l) ∙ (are.row m []).numbers_at i

    inside : (a : ℕ) → a < length rows → a < f.list.count
    inside a l = subst (λ n. a < n) are.count l

    different : (a b : ℕ) → a < b → b < length rows → ((i : Fin h) → row_at T.order values a i ≡ row_at T.order values b i) → ⊥
    different a b l m same =
        let x = inside a (let k : a < length rows = omega (arith, l, m) in k) in
        let y = inside b m in
        let p = from_nat f.list.count a x in
        let q = from_nat f.list.count b y in
        let d = to_nat-from_nat f.list.count a x in
        let e = to_nat-from_nat f.list.count b y in
        own_full.inequivalent p q (λ r. let z : a ≡ b = sym d ∙ ap to_nat r ∙ e in omega (arith, z, l))
        (same_traces (number_field T.order T.order_positive) (own (f.list.member p)) (own (f.list.member q)) (own_full.simple p) (own_full.positive q)
        (own_full.simple q)
        (λ i. sym (row_value p a d i) ∙ same i ∙ row_value q b e i))

    pub rows_meet : Rows.AreRows G.order_of T.order h (G.value T.order) rows
    rows_meet = record {
      positive = T.order_positive;
      long = All-from_get_or (λ (r : List S). length r ≡ h) rows [] (λ a l. subst (λ b. length (get_or rows b []) ≡ h)
          (to_nat-from_nat f.list.count a (inside a l)) (are.row (from_nat f.list.count a (inside a l)) []).count);
      orders = All-from_get_or (λ (r : List S). All (λ x. G.order_of x ≡ T.order) r) rows []
          (λ a l. subst (λ b. All (λ x. G.order_of x ≡ T.order) (get_or rows b []))
          (to_nat-from_nat f.list.count a (inside a l)) (are.row (from_nat f.list.count a (inside a l)) []).orders);
      different = different;
    }

    module _ (places : List ℕ) (order : IsPermutation (range_with_len 0 (length rows)) places) where
      places_count : length places ≡ f.list.count
      places_count = length_permutation (range_with_len 0 (length rows)) places order ∙ length-range_with_len 0 (length rows) ∙ are.count

      pub places_inside : (a : ℕ) → a < length places → slice_index places a < f.list.count
      places_inside a l = inside (slice_index places a) (places_within (length rows) (range_with_len 0 (length rows)) places refl order a l)

      at_place : (m : Fin f.list.count) → to_nat m < length places
      at_place m = subst (λ n. to_nat m < n) (sym places_count) (to_nat-lt m)

      place_of : Fin f.list.count → Fin f.list.count
      place_of m = from_nat f.list.count (slice_index places (to_nat m)) (places_inside (to_nat m) (at_place m))

      place_number : (m : Fin f.list.count) → to_nat (place_of m) ≡ slice_index places (to_nat m)
      unfolding place_of
      place_number m = to_nat-from_nat f.list.count (slice_index places (to_nat m)) (places_inside (to_nat m) (at_place m))

      found : (i : Fin f.list.count) → Contains places (to_nat i)
      found i =
          let n = length rows in
          let l = subst (λ k. to_nat i < k) (sym are.count) (to_nat-lt i) in
          subst (Contains places) (get_or-range_with_len 0 n (to_nat i) 0 l ∙ zero-add (to_nat i))
          (All-get_or (λ k. Contains places k) (range_with_len 0 n) (to_nat i) 0 (subst (λ k. to_nat i < k) (sym (length-range_with_len 0 n)) l)
          (All-permutation (λ k. Contains places k) places (range_with_len 0 n) (IsPermutation-sym (range_with_len 0 n) places order)
          (All-from_get_or (λ k. Contains places k) places 0 (λ a m. Contains-get_or places a 0 m))))

      place_back : Fin f.list.count → Fin f.list.count
      place_back i = from_nat f.list.count (found i).0 (subst (λ n. (found i).0 < n) places_count (found i).1)

      back_number : (i : Fin f.list.count) → slice_index places (to_nat (place_back i)) ≡ to_nat i
      unfolding place_back
      back_number i =
          ap (slice_index places) (to_nat-from_nat f.list.count (found i).0 (subst (λ n. (found i).0 < n) places_count (found i).1))
          ∙ get_or_default places (found i).0 0 (to_nat i) (found i).1 ∙ (found i).2

      of-back : (i : Fin f.list.count) → place_of (place_back i) ≡ i
      of-back i = to_nat_inj (place_of (place_back i)) i (place_number (place_back i) ∙ back_number i)

      same_place : (a b : ℕ) → a < length places → b < length places → slice_index places a ≡ slice_index places b → a ≡ b
      same_place a b l m e = elim (cases_lt a b) [
        | inl k ↦ absurd (places_differ (length rows) places order a b k m e)
        | inr k ↦ (elim (cases_lt b a) [
          | inl j ↦ absurd (places_differ (length rows) places order b a j l (sym e))
          | inr j ↦ (omega (arith, k, j))
        ])
      ]

      back-of : (i : Fin f.list.count) → place_back (place_of i) ≡ i
      back-of i = to_nat_inj (place_back (place_of i)) i
          (same_place (to_nat (place_back (place_of i))) (to_nat i) (at_place (place_back (place_of i))) (at_place i)
          (back_number (place_of i) ∙ place_number i))

      abbrev ordered_list : Representations (phases_at T)
      ordered_list = rearranged own_list place_of

      ordered_full : IsFull ordered_list
      ordered_full = rearranged_full (number_field T.order T.order_positive) own_list own_full place_of place_back of-back back-of

      row_same : (m : Fin f.list.count) → row_at {h = h} T.order values (slice_index places (to_nat m)) ≡ row T (ordered_list.member m)
      unfolding row
      row_same m = fun_ext (λ i. row_value (place_of m) (slice_index places (to_nat m)) (place_number m) i)

      in_order : AreInOrder T.order T.start values places → IsInOrder T ordered_list
      in_order o = record {
        ordered = λ m n l.
            subst (λ r. IsRowBefore T.order T.start r (row T (ordered_list.member n))) (row_same m)
            (subst (λ r. IsRowBefore T.order T.start (row_at T.order values (slice_index places (to_nat m))) r) (row_same n)
            (o (to_nat m) (to_nat n) l (at_place n)));
      }

      pub small_list : AreInOrder T.order T.start values places → AreSized T.order h fs → (gs : List (Family S G)) → length gs ≡ length places
          → ((a : ℕ) (e : Family S G) → a < length places → get_or gs a e ≡ get_or fs (slice_index places a) e) → IsSmallList T gs
      small_list o sized gs count items = record {
        list = ordered_list;
        read = record {
          count = count ∙ places_count;
          read = λ m e. subst (λ g. IsRead T.order (phases_at T) (ordered_list.member m) g)
              (ap (λ k. get_or fs k e) (place_number m) ∙ sym (items (to_nat m) e (at_place m)))
              (let one = f.read.read (place_of m) e in record { size = one.size; shape = one.shape; matrices = one.matrices });
        };
        complete = full_list-complete T ordered_list ordered_full;
        ordered = in_order o;
        simple = λ m. ordered_full.simple m;
        squares = ordered_full.squares;
        sized = λ a e l. (let m = subst (λ n. a < n) count l in subst (λ g. IsSized T.order h g) (sym (items a e m))
            (All-get_or (λ (g : Family S G). IsSized T.order h g) fs (slice_index places a) e
            (subst (λ n. slice_index places a < n) (sym f.read.count) (places_inside a m)) sized));
      }
