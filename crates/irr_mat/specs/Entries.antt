-- The matrix that a list of a program's numbers stands for.
--   first_order order xs              the order of the first of the numbers
--   HaveOneOrder order xs             all of the numbers have the order of the first
--   matrix_of value n r c xs          the numbers, read at the order n, row by row in r rows and c columns
--   IsEntry a i j x                   x is the entry of a in row i and column j
use Rattle.std.specs.Prelude.{ℕ, ◌≡◌, List, [], ◌∷◌, All, map}
use Rattle.irr_algebra.specs.Ring.{Ring}
use Rattle.irr_algebra.specs.Fin.{Fin, to_nat}
use Rattle.irr_algebra.specs.Listed.{of_list}
use Rattle.irr_algebra.specs.Matrix.{Matrix}
use Rattle.irr_number.specs.Number.{Number, numbers}

-- the order of the first number, and 0 of none
unfoldable pub first_order : {S : Type 0} → (S → ℕ) → List S → ℕ
first_order order [] = 0
first_order order (x ∷ xs) = order x

-- each number has the order of the first
abbrev pub HaveOneOrder : {S : Type 0} → (S → ℕ) → List S → Type 0
HaveOneOrder order xs = All (λ x. order x ≡ first_order order xs) xs

-- the number at i * c + j stands in row i and column j
unfoldable pub matrix_of : {S : Type 0} → ((n : ℕ) → S → Number n) → (n r c : ℕ) → List S → Matrix (numbers n) r c
matrix_of value n r c xs = of_list (numbers n) r c (map (value n) xs)

-- x stands in row i and column j
pub record IsEntry {R : Ring} {r c : ℕ} (a : Matrix R r c) (i j : ℕ) (x : R.Carrier) : Type 0 where
  pub is_entry : (k : Fin r) (l : Fin c) → to_nat k ≡ i → to_nat l ≡ j → x ≡ a.at k l
