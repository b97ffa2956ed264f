-- Sums of the terms of the sites that an operation carries to themselves.
--   number_at n xs p          the number at a place of a list, 0 past its end
--   rest_term n xs r          z^x times the number at a place, for the place and the exponent x of r; 0 where there is none
--   IsSumOf n xs rs c         c is the sum of these over the list rs
--   FitsRow n h q             the exponent is below n and the place below h
--   AreRestsWithin n h rs     so for each in the list
--   AreRowsWithin n h rows    so for each of at most 48 in each list
--   AreSumsOf order value n row rows xs    xs are the sums of the lists, of order n, with the row of numbers of each
--   diagonal_sum R            the trace of a rotation
use Rattle.std.specs.Prelude.{ℕ, ℤ, ◌≡◌, ◌<◌, ◌≤◌, ◌+ℤ◌, List, length, map, Option, Some, None, slice_index_or, All, ⊤, Vec}
use Rattle.std.specs.Global.{Global}
use Rattle.irr_algebra.specs.Fin.Fin.{first, next}
use Rattle.irr_algebra.specs.Listed.{sum_below}
use Rattle.irr_number.specs.Number.{Number, numbers, root_power}
use Rattle.irr_space.specs.Operation.{Rotation}
use Rattle.irr_site.specs.declared.rest.Rest.{Rest}

abbrev pub number_at : (n : ℕ) → List (Number n) → ℕ → Number n
number_at n xs p = slice_index_or xs p (numbers n).zero

unfoldable pub rest_term : (n : ℕ) → List (Number n) → Option Rest → Number n
rest_term n xs (Some q) = (numbers n).mul (root_power n q.exponent) (number_at n xs q.place)
rest_term n xs None = (numbers n).zero

abbrev pub IsSumOf : (n : ℕ) → List (Number n) → List (Option Rest) → Number n → Type 0
IsSumOf n xs rs c = c ≡ sum_below (numbers n) (length rs) (λ a. rest_term n xs (slice_index_or rs a None))

abbrev pub FitsRow : ℕ → ℕ → Rest → Type 0
FitsRow n h q = (q.exponent < n) × (q.place < h)

unfoldable pub FitsIn : ℕ → ℕ → Option Rest → Type 0
FitsIn n h (Some q) = FitsRow n h q
FitsIn n h None = ⊤

abbrev pub AreRestsWithin : ℕ → ℕ → List (Option Rest) → Type 0
AreRestsWithin n h rs = All (λ r. FitsIn n h r) rs

abbrev pub AreRowsWithin : ℕ → ℕ → List (Vec (Option Rest) Global) → Type 0
AreRowsWithin n h rows = All (λ v. (length v.items ≤ 48) × AreRestsWithin n h v.items) rows

-- the sums of the terms of each list, with a row of numbers for each
pub record AreSumsOf {S : Type 0} (order : S → ℕ) (value : (n : ℕ) → S → Number n) (n : ℕ)
    (row : ℕ → List (Number n)) (rows : List (Vec (Option Rest) Global)) (xs : List S) : Type 0 where
  pub count : length xs ≡ length rows
  pub orders : All (λ x. order x ≡ n) xs
  pub each : (i : ℕ) (v : Vec (Option Rest) Global) → i < length rows
      → IsSumOf n (row i) (slice_index_or rows i v).items (number_at n (map (value n) xs) i)

-- the trace of a rotation
abbrev pub diagonal_sum : Rotation → ℤ
diagonal_sum R = (R.at first first +ℤ R.at (next first) (next first)) +ℤ R.at (next (next first)) (next (next first))
