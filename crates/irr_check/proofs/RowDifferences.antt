-- Two rows of numbers side by side.
--   row_item           the number at a place of a row
--   item_order         its order
--   limited_sums       a small number and one within the limits can be compared
--   before_or_at       a place before the next one
use Rattle.std.proofs.Common.{◌≡◌, sym, ◌∙◌, ap, ◌⊎◌, inl, inr, ℕ, ◌+◌, ◌*◌, ◌^◌, ◌<◌, ◌≤◌, List, length, map, get_or, arith}
use native.Mathlib.Nat as Nat
use Rattle.std.proofs.lemmas.Bool.{cases_lt}
use Rattle.std.proofs.lemmas.List.{get_or-map}
use Rattle.std.proofs.lemmas.List.Elements.{All-get_or}
use Rattle.std.specs.List.{All}
use Rattle.irr_algebra.specs.Fin.{Fin, to_nat}
use Rattle.irr_number.specs.Number.{Number, numbers}
use Rattle.irr_char.specs.Characters.{IsRowOf}
use Rattle.irr_char.specs.Rows.{row_of}

pub before_or_at : (i k : ℕ) → i < k + 1 → (i < k) ⊎ (i ≡ k)
before_or_at i k l = elim (cases_lt i k) [ inl h ↦ inl h | inr m ↦ (let e : i ≡ k = omega arith in inr e) ]

module _ {S : Type 0} (order : S → ℕ) (value : (n : ℕ) → S → Number n) (n : ℕ) (row : List S) (i : ℕ) (x : S) (inside : i < length row)
    (is : x ≡ get_or row i x) where
  pub row_at : {h : ℕ} (k : Fin h) → to_nat k ≡ i → value n x ≡ row_of n (map (value n) row) k
  row_at k e = ap (value n) is ∙ sym (get_or-map (value n) row i x (numbers n).zero inside)
      ∙ ap (λ j. get_or (map (value n) row) j (numbers n).zero) (sym e)

  pub row_item : {h : ℕ} (f : Fin h → Number n) → IsRowOf order value n f row → (k : Fin h) → to_nat k ≡ i → value n x ≡ f k
  row_item f r k e = row_at k e ∙ r.numbers_at k

  pub item_order : All (λ y. order y ≡ n) row → order x ≡ n
  item_order all = ap order is ∙ All-get_or (λ y. order y ≡ n) row i x inside all

pub limited_sums : (n e : ℕ) → n ≤ 12000 → e ≤ 4096 → 48 * n * e + 2 ^ 30 * n * 1 < 2 ^ 110
limited_sums n e l m =
    let a : 48 * n * e ≤ 48 * 12000 * 4096 = Nat.mul-le-mul (Nat.mul-le-mul_left 48 l) m in
    let b : 2 ^ 30 * n ≤ 2 ^ 30 * 12000 = Nat.mul-le-mul_left (2 ^ 30) l in
    omega arith
