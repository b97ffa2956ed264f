-- Rows of numbers in the program, as the theory has them.
--   IsFormOf n x d ts              the terms ts over d are the canonical form of x
--   IsTermBefore d e s t           at the first exponent of the terms s over d and t over e, s has the greater coefficient
--   IsSameTerm d e s t             the exponents and the coefficients are the same
--   row_of n xs                    the numbers of a list, by place
--   row_at n rows a                those of the list at place a
--   AreFormsOf n f forms           the forms are those of the numbers of f
--   AreRowsOf n f rows             the forms of the rows f 0, f 1, ..
--   AreRows order value n h rows   different rows of h numbers of order n each
--   AreInOrder n start rows ps     the rows at the places ps stand in canonical order
use Rattle.std.specs.Prelude.{ℕ, ℤ, pos, ◌≡◌, ◌<◌, ◌≤ℤ◌, ◌⊎◌, List, [], length, map, slice_index, slice_index_or, All}
use Rattle.irr_algebra.specs.Fin.{Fin, to_nat}
use Rattle.irr_number.specs.Number.{Number, numbers}
use Rattle.irr_rational.specs.Rational.{ratio}
use Rattle.irr_rational.specs.Order.{◌<ℚ◌}
use Rattle.irr_canonical.specs.Coefficient.{canonical, denominator}
use Rattle.irr_cyc.specs.Terms.{nonzero_terms}
use Rattle.irr_space.specs.CompleteList.{IsRowBefore}
use Rattle.irr_char.specs.declared.forms.Form.{Form}

-- the denominator and the terms are those of the canonical form of x
pub record IsFormOf (n : ℕ) (x : Number n) (den : ℕ) (terms : List (ℕ × ℤ)) : Type 0 where
  pub same_denominator : den ≡ denominator n x
  pub same_terms : terms ≡ nonzero_terms n (canonical n x).num.at

-- where the exponents differ, the coefficient of the lesser one is compared with 0
abbrev pub IsTermBefore : (d e : ℕ) (s t : ℕ × ℤ) → Type 0
IsTermBefore d e s t = ((s.0 < t.0) × (pos 0 ≤ℤ s.1)) ⊎ (((t.0 < s.0) × (t.1 ≤ℤ pos 0)) ⊎ ((s.0 ≡ t.0) × (ratio t.1 e <ℚ ratio s.1 d)))

-- one exponent and one coefficient
abbrev pub IsSameTerm : (d e : ℕ) (s t : ℕ × ℤ) → Type 0
IsSameTerm d e s t = (s.0 ≡ t.0) × (ratio s.1 d ≡ ratio t.1 e)

-- the number at each place, 0 past the end
abbrev pub row_of : {h : ℕ} (n : ℕ) → List (Number n) → Fin h → Number n
row_of n xs i = slice_index_or xs (to_nat i) (numbers n).zero

-- the row at place a of a list of rows
abbrev pub row_at : {h : ℕ} (n : ℕ) → List (List (Number n)) → ℕ → Fin h → Number n
row_at n rows a = row_of n (slice_index_or rows a [])

-- one form for each place
pub record AreFormsOf {h : ℕ} (n : ℕ) (f : Fin h → Number n) (forms : List Form) : Type 0 where
  pub same_length : length forms ≡ h
  pub form : (i : Fin h) (d : Form) → IsFormOf n (f i) (slice_index_or forms (to_nat i) d).den (slice_index_or forms (to_nat i) d).terms.items

-- the forms of each row
pub record AreRowsOf {h : ℕ} (n : ℕ) (f : ℕ → Fin h → Number n) (rows : List (List Form)) : Type 0 where
  pub forms : (a : ℕ) → a < length rows → AreFormsOf n (f a) (slice_index_or rows a [])

-- rows of one length and order, no two the same
pub record AreRows {X : Type 0} (order_of : X → ℕ) (n h : ℕ) (value : X → Number n) (rows : List (List X)) : Type 0 where
  pub positive : 0 < n
  pub long : All (λ row. length row ≡ h) rows
  pub orders : All (All (λ x. order_of x ≡ n)) rows
  pub different : (a b : ℕ) → a < b → b < length rows → ¬ ((i : Fin h) → row_at n (map (map value) rows) a i ≡ row_at n (map (map value) rows) b i)

-- each row at an earlier place stands before those at later places
abbrev pub AreInOrder : {h : ℕ} (n : ℕ) (start : Fin h) → List (List (Number n)) → List ℕ → Type 0
AreInOrder n start rows places = (i j : ℕ) → i < j → j < length places → IsRowBefore n start (row_at n rows (slice_index places i)) (row_at n rows (slice_index places j))
