-- Eigenvalues that are powers of z, by their exponents.
--   AreEigenExponents N z u es   the eigenvalues of u are the powers z^e of z of the order N, for the exponents e of the list, which
--                                stand in increasing order, each as often as its eigenvalue occurs
use Rattle.std.specs.Prelude.{ℕ, ◌≡◌, ◌<◌, List, length, All}
use Rattle.std.specs.List.Sorted.{IsNonDecreasing}
use Rattle.irr_algebra.specs.Ring.{Ring}
use Rattle.irr_algebra.specs.Matrix.{Matrix}
use Rattle.irr_eigen.specs.Power.{power}
use Rattle.irr_eigen.specs.Eigenspace.{Occurs}
use Rattle.irr_extension.specs.Exponents.{times_in}

-- for each e below N the vectors that u multiplies by z^e have the dimension in which e occurs in the list
pub record AreEigenExponents {R : Ring} {d : ℕ} (N : ℕ) (z : R.Carrier) (u : Matrix R d d) (es : List ℕ) : Type 0 where
  pub below : All (λ e. e < N) es
  pub increasing : IsNonDecreasing es
  pub occurs : (e : ℕ) → e < N → Occurs u (power R z e) (times_in e es)
  pub count : length es ≡ d
