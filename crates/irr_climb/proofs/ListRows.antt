-- The rows of a full list.
--   count_few                a full list has at most as many members as its table has places
--   rows_few                 so many rows
--   row_small                each row of the list is a row of small sums
--   slice_is                 what is read of a list of rows
--   slice_row, slice_small   what is read of the rows is the character of the member, and small
use Rattle.std.specs.Prelude.{ℕ, zero, suc, ◌≡◌, ◌<◌, ◌≤◌, ◌*◌, List, length}
use Rattle.std.proofs.Common.{sym, ◌∙◌, ap, subst, get_or, map, [], arith}
use Rattle.std.proofs.lemmas.List.{length-map}
use Rattle.irr_algebra.specs.Ring.{Ring}
use Rattle.irr_algebra.specs.Fin.{Fin, to_nat}
use Rattle.irr_algebra.specs.Fin.Fin.{first, next}
use Rattle.irr_algebra.specs.Matrix.{trace}
use Rattle.irr_algebra.proofs.Indices.{from_nat, to_nat-from_nat}
use Rattle.irr_number.specs.Number.{Number}
use Rattle.irr_theory.specs.FactorSystem.{FactorSystem}
use Rattle.irr_theory.specs.Representations.{count_total, IsFull, Representations}
use Rattle.irr_rep.specs.Twisted.{phase_table, place_count}
use Rattle.irr_char.specs.Characters.{IsRowOf, IsSmallRow}
use Rattle.irr_char.proofs.RowLists.{row_read}
use Rattle.irr_climb.specs.declared.step.Step.{Step}
use Rattle.irr_climb.specs.Families.{AreRows}
use Rattle.irr_climb.specs.Steps.{IsStep, small}
use Rattle.irr_climb.proofs.FullRows.{full_row}

total-count : (n : ℕ) (f : Fin n → ℕ) → ((i : Fin n) → 0 < f i) → n ≤ count_total n f
unfolding count_total
total-count zero f p = omega arith
total-count (suc n) f p = let a = p first in let b = total-count n (λ i. f (next i)) (λ i. p (next i)) in omega (arith, a, b)

square_positive : (d : ℕ) → 0 < d → 0 < d * d
square_positive zero l = absurd (omega (arith, l))
square_positive (suc d) l = omega arith

pub count_few : {R : Ring} {P : FactorSystem R} (L : Representations P) → IsFull L → L.count ≤ P.places
count_few L full = subst (λ k. L.count ≤ k) full.squares (total-count L.count (λ m. L.size m * L.size m)
    (λ m. square_positive (L.size m) (full.positive m)))

module _ {S : Type 0} (order : S → ℕ) (value : (n : ℕ) → S → Number n) {M : ℕ} {step : Step} (is : IsStep M step) (L : Representations (small is))
    (full : IsFull L)
    (rows : List (List S)) (listed : AreRows order value M (small is) L rows) where
  pub rows_few : length rows ≤ 48
  rows_few =
      let few = count_few L full in
      let places = step.inner.places_within in
      let count = listed.count in
      omega (arith, few, places, count)

  pub row_small : (k : ℕ) (e : List S) → k < length rows → IsSmallRow order value M (place_count step.inner) (get_or rows k e)
  row_small k e l =
      let m = from_nat L.count k (subst (λ n. k < n) listed.count l) in
      subst (λ n. IsSmallRow order value M (place_count step.inner) (get_or rows n e)) (to_nat-from_nat L.count k (subst (λ n. k < n) listed.count l))
      (full_row order value (phase_table step.inner) M is.positive is.inner_divides step.inner.places_within L full m (get_or rows (to_nat m) e)
      (listed.row m e))

pub slice_is : {S X : Type 0} (items : X → List S) (rows : List X) (k : ℕ) (x : X) → k < length rows → x ≡ get_or rows k x → (slice : List S)
    → slice ≡ items x
    → (e : List S) → get_or (map items rows) k e ≡ slice
slice_is items rows k x l is slice s e = row_read items rows k x e l is ∙ sym s

module _ {S X : Type 0} (order : S → ℕ) (value : (n : ℕ) → S → Number n) (items : X → List S) {M : ℕ} {step : Step} (is : IsStep M step)
    (L : Representations (small is))
    (full : IsFull L) (rows : List X) (listed : AreRows order value M (small is) L (map items rows)) where
  pub rows_count : length rows ≡ L.count
  rows_count = sym (length-map rows items) ∙ listed.count

  pub rows_within : length rows ≤ 48
  rows_within = subst (λ k. k ≤ 48) (length-map rows items) (rows_few order value is L full (map items rows) listed)

  module _ (k : ℕ) (x : X) (below : k < length rows) (read : x ≡ get_or rows k x) (slice : List S) (sliced : slice ≡ items x) where
    pub slice_row : (a : Fin L.count) → to_nat a ≡ k → IsRowOf order value M (λ i. trace ((L.member a).at i)) slice
    slice_row a e = subst (IsRowOf order value M (λ i. trace ((L.member a).at i)))
        (ap (λ j. get_or (map items rows) j []) e ∙ slice_is items rows k x below read slice sliced []) (listed.row a [])

    pub slice_small : IsSmallRow order value M (place_count step.inner) slice
    slice_small = subst (IsSmallRow order value M (place_count step.inner)) (slice_is items rows k x below read slice sliced [])
        (row_small order value is L full (map items rows) listed k [] (subst (λ n. k < n) (sym (length-map rows items)) below))
