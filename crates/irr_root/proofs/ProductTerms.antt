-- The listed values at sandwiches are those of the character of a subgroup, where the lists are those of its members and positions.
--   row_order                       the order of a row by its first number
--   sum-is-two, sums-are-three      the two sums
use Rattle.std.proofs.Common.{◌≡◌, sym, ◌∙◌, ap, subst, ℕ, ◌<◌, List, get_or, length, slice_index}
use Rattle.std.proofs.lemmas.List.Elements.{All-get_or}
use Rattle.std.specs.Prelude.{slice_index_or}
use Rattle.std.specs.Int.{◌∣◌}
use Rattle.irr_algebra.specs.Fin.{Fin, to_nat}
use Rattle.irr_algebra.specs.Listed.{sum_below}
use Rattle.irr_algebra.specs.Sum.{sum}
use Rattle.irr_algebra.proofs.Listed.{sum-to_nat}
use Rattle.irr_algebra.proofs.Sums.{sum-ext}
use Rattle.irr_number.specs.Number.{Number, numbers}
use Rattle.irr_theory.specs.Lifted.{Lifted}
use Rattle.irr_eigen.specs.Step.{at_place}
use Rattle.irr_clifford.specs.Subgroup.{Subgroup}
use Rattle.irr_space.specs.PhaseTable.{PhaseTable, phases_over}
use Rattle.irr_extension.specs.Product.{sandwich, three_sum, two_sum, value_at}
use Rattle.irr_char.specs.Characters.{IsRowOf}
use Rattle.irr_char.specs.Rows.{row_of}
use Rattle.irr_root.specs.Sandwiches.{listed_member, listed_value, place_or, sandwich_sum, sandwich_sums, sandwich_value}
use Rattle.irr_root.proofs.SandwichSums.{member-of}

-- the order that the first number of a row has
pub row_order : {S : Type 0} {n l : ℕ} (order : S → ℕ) (value : (n : ℕ) → S → Number n) (M : ℕ) (f : Fin n → Number M) (row : List S)
    → IsRowOf order value M f row
    → 0 < l → n ≡ l → (x : S) → x ≡ get_or row 0 x → (m r : ℕ) → m ≡ r → r ≡ order x → m ≡ M
row_order order value M f row is some count x at m r first second =
    first ∙ second ∙ ap order at ∙ All-get_or (λ y. order y ≡ M) row 0 x (subst (λ k. 0 < k) (sym (is.count ∙ count)) some) is.orders

module _ {h : ℕ} (T : PhaseTable h) (M : ℕ) (v : T.order ∣ M) (members positions : List ℕ) (F : List (Number M)) (H : Subgroup (phases_over T M v))
    (count : H.table.places ≡ length members) (are : (i : Fin H.table.places) → slice_index members (to_nat i) ≡ to_nat (H.member i))
    (position : Fin h → Fin H.table.places) (at : (a : Fin h) → slice_index positions (to_nat a) ≡ to_nat (position a))
    (f : Fin H.table.places → Number M) (row : (i : Fin H.table.places) → row_of M F i ≡ f i) where
  member-listed : (i : Fin H.table.places) → listed_member T members (to_nat i) ≡ H.member i
  member-listed i = ap (place_or T.start) (are i) ∙ member-of T.start (H.member i)

  value-listed : (z : Lifted (phases_over T M v)) → listed_value T M v positions F z ≡ value_at H f position z
  unfolding listed_value value_at
  value-listed z = ap ((numbers M).mul z.number) (ap (λ k. slice_index_or F k (numbers M).zero) (at z.place) ∙ row (position z.place))

  -- a sum over the list is one over the members
  sum-listed : (g : ℕ → Number M) (k : Fin H.table.places → Number M) → ((i : Fin H.table.places) → g (to_nat i) ≡ k i)
      → sum_below (numbers M) (length members) g ≡ sum (numbers M) H.table.places k
  sum-listed g k same = ap (λ n. sum_below (numbers M) n g) (sym count) ∙ sym (sum-to_nat (numbers M) H.table.places g)
      ∙ sum-ext (numbers M) H.table.places (λ i. g (to_nat i)) k same

  values-listed : (x y : Lifted (phases_over T M v))
      → sandwich_sum T M v members positions F x y ≡ sum (numbers M) H.table.places
      (λ n. value_at H f position (sandwich (phases_over T M v) x (H.member n) y))
  values-listed x y = sum-listed (sandwich_value T M v members positions F x y)
      (λ n. value_at H f position (sandwich (phases_over T M v) x (H.member n) y)) (λ n.
      value-listed (sandwich (phases_over T M v) x (listed_member T members (to_nat n)) y)
      ∙ ap (λ m. value_at H f position (sandwich (phases_over T M v) x m y)) (member-listed n))

  pub sum-is-two : (a b : Fin h)
      → sandwich_sum T M v members positions F (at_place (phases_over T M v) a) (at_place (phases_over T M v) b) ≡ two_sum H f position a b
  unfolding two_sum
  sum-is-two a b = values-listed (at_place (phases_over T M v) a) (at_place (phases_over T M v) b)

  pub sums-are-three : (a b : Fin h)
      → sandwich_sums T M v members positions F (at_place (phases_over T M v) a) (at_place (phases_over T M v) b) ≡ three_sum H f position a b
  unfolding three_sum
  sums-are-three a b =
      let W = phases_over T M v in
      let x = at_place W a in
      let y = at_place W b in
      sum-listed (λ i. sandwich_sum T M v members positions F x (sandwich W y (listed_member T members i) y))
      (λ i. sum (numbers M) H.table.places (λ j. value_at H f position (sandwich W x (H.member j) (sandwich W y (H.member i) y)))) (λ i.
      values-listed x (sandwich W y (listed_member T members (to_nat i)) y)
      ∙ ap (λ m. sum (numbers M) H.table.places (λ j. value_at H f position (sandwich W x (H.member j) (sandwich W y m y)))) (member-listed i))
