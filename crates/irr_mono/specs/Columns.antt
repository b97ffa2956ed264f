-- Columns of a matrix, and their entries that are not 0.
--   AreZeros a j lo hi      column j is 0 in the rows from lo up to hi, hi left out
--   IsNonzero a j i         column j is not 0 in row i, if there is such a row
--   IsOnly a j i            column j is not 0 in row i, and 0 in each other row
use Rattle.std.specs.Prelude.{ℕ, ◌≡◌, ◌<◌, ◌≤◌}
use Rattle.irr_algebra.specs.Ring.{Ring}
use Rattle.irr_algebra.specs.Fin.{Fin, to_nat}
use Rattle.irr_algebra.specs.Matrix.{Matrix}

module _ {R : Ring} {r c : ℕ} (a : Matrix R r c) (j : ℕ) where
  pub record AreZeros (lo hi : ℕ) : Type 0 where
    pub zero : (k : Fin r) (l : Fin c) → to_nat l ≡ j → lo ≤ to_nat k → to_nat k < hi → a.at k l ≡ R.zero

  pub record IsNonzero (i : ℕ) : Type 0 where
    pub nonzero : (k : Fin r) (l : Fin c) → to_nat l ≡ j → to_nat k ≡ i → a.at k l ≡ R.zero → ⊥

  pub record IsOnly (i : ℕ) : Type 0 where
    pub inside : i < r
    pub only : (k : Fin r) (l : Fin c) → to_nat l ≡ j → to_nat k ≡ i → a.at k l ≡ R.zero → ⊥
    pub others : (k : Fin r) (l : Fin c) → to_nat l ≡ j → (to_nat k ≡ i → ⊥) → a.at k l ≡ R.zero
