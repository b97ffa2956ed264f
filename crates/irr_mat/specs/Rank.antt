-- Ranks of square matrices.
--   HasRank a k        k independent vectors span the image of a
use Rattle.std.specs.Prelude.{ℕ}
use Rattle.irr_algebra.specs.Ring.{Ring}
use Rattle.irr_algebra.specs.Fin.{Fin}
use Rattle.irr_algebra.specs.Matrix.{Matrix, ◌·◌, column}
use Rattle.irr_algebra.specs.Span.{IsIndependent, InSpan}

-- a list of k independent vectors with the span of the columns of a
pub record HasRank {R : Ring} {n : ℕ} (a : Matrix R n n) (k : ℕ) : Type 0 where
  pub basis : Matrix R n k
  pub independent : IsIndependent basis
  pub inside : (j : Fin k) → InSpan a (column basis j)
  pub spanning : (c : Matrix R n 1) → InSpan basis (a · c)
