-- The column of the unit in the row of a place is its inverse.
--   inverse-of_columns       in a group, the columns of the unit are the inverses
--   row-length, row-entry    a row of a table
--   row-contains             the unit stands in it
--   columns-push             one more column
use Rattle.std.specs.Prelude.{ℕ, ◌≡◌, ◌<◌, ◌≤◌, ◌+◌, ◌*◌, ◌-◌, ◌⊎◌, List, [], ◌∷◌, ◌++◌, length, slice_index, slice_range, Contains}
use Rattle.std.proofs.Common.{sym, ◌∙◌, ap, subst, inl, inr, drop, length-take, length-drop, arith}
use Rattle.std.proofs.Math.Nat.{mul-le-mul_right}
use Rattle.std.proofs.Math.Seq.{get_or-append_seam}
use Rattle.std.proofs.lemmas.Bool.{cases_lt}
use Rattle.std.proofs.lemmas.List.{get_or-take, get_or-drop, get_or_append_left}
use Rattle.irr_rep.specs.Table.{IsGroup, HasInverses, AreInverses, AreUnitColumns, entry}

pub inverse-of_columns : (h : ℕ) (product : ℕ → ℕ → ℕ) (columns : List ℕ) → IsGroup h product → HasInverses h product
    → AreUnitColumns h product columns
    → AreInverses h product (slice_index columns)
inverse-of_columns h product columns group inverses unit = record {
  inverse_below = unit.column_below;
  product-inverse = unit.product-column;
  inverse-product = λ i lt. ap (product (slice_index columns i)) (same i lt) ∙ (other i lt).2;
}
  where
    -- the inverse of the inverse
    other : (i : ℕ) → i < h → (j : ℕ) × (j < h) × (product (slice_index columns i) j ≡ 0)
    other i lt = inverses (slice_index columns i) (unit.column_below i lt)

    same : (i : ℕ) (lt : i < h) → i ≡ (other i lt).0
    same i lt =
        sym (group.product-unit i lt) ∙ ap (product i) (sym (other i lt).2)
        ∙ sym (group.product_assoc i (slice_index columns i) (other i lt).0 lt (unit.column_below i lt) (other i lt).1)
        ∙ ap (λ k. product k (other i lt).0) (unit.product-column i lt) ∙ group.unit-product (other i lt).0 (other i lt).1

pub row-length : (size i : ℕ) (xs : List ℕ) → i < size → length xs ≡ size * size → length (slice_range xs (i * size) ((i + 1) * size)) ≡ size
row-length size i xs lt total =
    let enough : (i + 1) * size ≤ size * size = mul-le-mul_right size (omega arith) in
    simp (length-take, length-drop) (omega (arith, enough, total))

pub row-entry : (size i j : ℕ) (xs : List ℕ) → j < size → slice_index (slice_range xs (i * size) ((i + 1) * size)) j ≡ entry size xs i j
row-entry size i j xs lt =
    get_or-take ((i + 1) * size - i * size) (drop (i * size) xs) j 0 (omega arith) ∙ get_or-drop (i * size) xs j 0

pub row-contains : (size i : ℕ) (xs : List ℕ) → i < size → length xs ≡ size * size → (j : ℕ) × (j < size) × (entry size xs i j ≡ 0)
    → Contains (slice_range xs (i * size) ((i + 1) * size)) 0
row-contains size i xs lt total found =
    (found.0, subst (λ k. found.0 < k) (sym (row-length size i xs lt total)) found.1, row-entry size i found.0 xs found.1 ∙ found.2)

pub columns-push : (size : ℕ) (product : ℕ → ℕ → ℕ) (xs : List ℕ) (i x : ℕ) → length xs ≡ i
    → ((k : ℕ) → k < i → (slice_index xs k < size) × (product k (slice_index xs k) ≡ 0)) → x < size → product i x ≡ 0
    → (k : ℕ) → k < i + 1 → (slice_index (xs ++ x ∷ []) k < size) × (product k (slice_index (xs ++ x ∷ []) k) ≡ 0)
columns-push size product xs i x count so_far below unit k lt = at (cases_lt k i)
  where
    at : (k < i) ⊎ (i ≤ k) → (slice_index (xs ++ x ∷ []) k < size) × (product k (slice_index (xs ++ x ∷ []) k) ≡ 0)
    at (inl l) = subst (λ y. (y < size) × (product k y ≡ 0)) (sym (get_or_append_left xs (x ∷ []) 0 k (omega arith))) (so_far k l)
    at (inr l) =
        let here : k ≡ length xs = omega arith in
        let value : slice_index (xs ++ x ∷ []) k ≡ x = ap (slice_index (xs ++ x ∷ [])) here ∙ get_or-append_seam xs x [] 0 in
        subst (λ y. (y < size) × (product k y ≡ 0)) (sym value) (below, ap (λ a. product a x) (here ∙ count) ∙ unit)
