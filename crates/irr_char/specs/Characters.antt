-- Characters of small representations in the program.
--   IsRowOf order value n f row      the row has the numbers f, of order n, by place
--   IsRowWithin order value n h s row   h numbers of order n, each a sum of at most s powers of z with signs
--   IsSmallRow order value n h row   the same with at most 48 powers
--   AreCharacters order value T a b  the rows are the traces of two small representations over one order, the first of at most 48
--                                    rows, the second of at most 2304, as the part of a direct product at a wave vector
--   average_term T n f g i           the term at a place of the scalar product of two characters: g(i) times the trace of the
--                                    other's inverse, which is z^-x(i,i') f(i') for the inverse i' of i
use Rattle.std.specs.Prelude.{ℕ, ◌≡◌, ◌≤◌, ◌*◌, ◌-◌, ◌/◌, ◌%◌, List, length, map, All}
use Rattle.std.specs.Int.{◌∣◌}
use Rattle.irr_algebra.specs.Fin.{Fin}
use Rattle.irr_algebra.specs.Matrix.{trace}
use Rattle.irr_number.specs.Number.{Number, numbers, root_power}
use Rattle.irr_theory.specs.FactorSystem.{Representation}
use Rattle.irr_canonical.specs.RootSum.{IsRootSum}
use Rattle.irr_space.specs.PhaseTable.{PhaseTable, phases_over}
use Rattle.irr_char.specs.Rows.{row_of}

-- the numbers f, by place
pub record IsRowOf {S : Type 0} {h : ℕ} (order : S → ℕ) (value : (n : ℕ) → S → Number n) (n : ℕ) (f : Fin h → Number n) (row : List S) : Type 0 where
  pub count : length row ≡ h
  pub orders : All (λ x. order x ≡ n) row
  pub numbers_at : (i : Fin h) → row_of n (map (value n) row) i ≡ f i

-- sums of at most s powers of z
pub record IsRowWithin {S : Type 0} (order : S → ℕ) (value : (n : ℕ) → S → Number n) (n h s : ℕ) (row : List S) : Type 0 where
  pub count : length row ≡ h
  pub orders : All (λ x. order x ≡ n) row
  pub small : (i : Fin h) → IsRootSum n s 1 (row_of n (map (value n) row) i)

-- sums of few powers of z
abbrev pub IsSmallRow : {S : Type 0} (order : S → ℕ) (value : (n : ℕ) → S → Number n) (n h : ℕ) → List S → Type 0
IsSmallRow order value n h row = IsRowWithin order value n h 48 row

-- the characters of two small representations over one order; the second may have no rows
pub record AreCharacters {S : Type 0} {h : ℕ} (order : S → ℕ) (value : (n : ℕ) → S → Number n) (T : PhaseTable h) (a b : List S) : Type 0 where
  pub n : ℕ
  pub divides : T.order ∣ n
  pub left_size : ℕ
  pub right_size : ℕ
  pub left : Representation (phases_over T n divides) left_size
  pub right : Representation (phases_over T n divides) right_size
  pub left_few : left_size ≤ 48
  pub right_few : right_size ≤ 2304
  pub left_row : IsRowOf order value n (λ (i : Fin h). trace (left.at i)) a
  pub right_row : IsRowOf order value n (λ (i : Fin h). trace (right.at i)) b

-- g(i) z^-x(i,i') f(i')
unfoldable pub average_term : {h : ℕ} (T : PhaseTable h) (n : ℕ) (f g : Fin h → Number n) → Fin h → Number n
average_term T n f g i = (numbers n).mul (g i)
    ((numbers n).mul (root_power n ((T.order - 1) * T.exponent i (T.opposite i) % T.order * (n / T.order))) (f (T.opposite i)))
