-- Spaces that are the sum of eigenspaces, and sums of roots of eigenvalues.
use Rattle.std.specs.Prelude.{ℕ, ◌≡◌}
use Rattle.irr_algebra.specs.Ring.{Ring}
use Rattle.irr_algebra.specs.Fin.{Fin, to_nat}
use Rattle.irr_algebra.specs.Sum.{sum}
use Rattle.irr_algebra.specs.Matrix.{Matrix, ◌·◌, scale, total, unit}
use Rattle.irr_algebra.specs.Span.{IsIndependent, InSpan}
use Rattle.irr_theory.specs.Extension.{matrix_power}
use Rattle.irr_eigen.specs.Power.{power}

-- the space is the sum of the eigenspaces of v with these values: the projections on them add up to 1
pub record Eigenspaces {R : Ring} {d k : ℕ} (v : Matrix R d d) (values : Fin k → R.Carrier) : Type 0 where
  pub projection : Fin k → Matrix R d d
  pub projects : (a : Fin k) → projection a · projection a ≡ projection a
  pub eigen : (a : Fin k) → v · projection a ≡ scale R (values a) (projection a)
  pub commutes : (a : Fin k) (x : Matrix R d d) → v · x ≡ x · v → projection a · x ≡ x · projection a
  pub adds_up : total k projection ≡ unit R d

-- the vectors that v multiplies by x have dimension n: so often the eigenvalue x occurs
pub record Occurs {R : Ring} {d : ℕ} (v : Matrix R d d) (x : R.Carrier) (n : ℕ) : Type 0 where
  pub basis : Matrix R d n
  pub independent : IsIndependent basis
  pub eigen : v · basis ≡ scale R x basis
  pub spanning : (y : Matrix R d 1) → v · y ≡ scale R x y → InSpan basis y

-- u commutes with v, and its p-th power is c times v; the eigenvalues of v are the p-th powers of the numbers w, none of them 0
pub record IsMatrixRoot {R : Ring} {d k : ℕ} (p : ℕ) (c : R.Carrier) (v u : Matrix R d d) (w : Fin k → R.Carrier) : Type 0 where
  pub commute : v · u ≡ u · v
  pub power-multiple : matrix_power u p ≡ scale R c v
  pub not-zero : (a : Fin k) → w a ≡ R.zero → ⊥
  pub eigenspaces : Eigenspaces v (λ a. power R (w a) p)

-- s adds up, for each a, `times a` numbers, each of them w a times a power of z below the p-th
pub record IsSumOfRoots (R : Ring) {k : ℕ} (p : ℕ) (z : R.Carrier) (w : Fin k → R.Carrier) (times : Fin k → ℕ) (s : R.Carrier) : Type 0 where
  pub choice : (a : Fin k) → Fin (times a) → Fin p
  pub is_sum : s ≡ sum R k (λ a. sum R (times a) (λ i. R.mul (w a) (power R z (to_nat (choice a i)))))
