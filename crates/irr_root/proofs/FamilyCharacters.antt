-- The character of a family of matrices that is a small representation.
--   family-character         its traces are a character
--   family-exponents         the matrices of that representation are those of the family
use Rattle.std.proofs.Common.{ℕ, ◌≤◌, List}
use Rattle.std.specs.Int.{◌∣◌}
use Rattle.irr_algebra.specs.Fin.{Fin}
use Rattle.irr_algebra.specs.Matrix.{trace}
use Rattle.irr_number.specs.Number.{Number, numbers}
use Rattle.irr_space.specs.PhaseTable.{PhaseTable}
use Rattle.irr_cyc.specs.declared.scalars.Scalar.{Ghosts}
use Rattle.irr_mat.specs.declared.matrices.Mat.{Mat}
use Rattle.irr_rep.specs.Family.{IsRepresentationOf, matrix_at, representation}
use Rattle.irr_char.specs.Characters.{IsRowOf}
use Rattle.irr_root.specs.Characters.{IsCharacter}
use Rattle.irr_root.specs.Eigenvalues.{AreEigenExponents}

module _ {S : Type 0} {G : Ghosts S} {h : ℕ} (T : PhaseTable h) (n : ℕ) (v : T.order ∣ n) (d : ℕ) (mats : List (Mat S G)) (few : d ≤ 48)
    (p : IsRepresentationOf T n v d mats) (row : List S) (r : IsRowOf {h = h} G.order_of G.value n (λ i. trace (matrix_at n d mats i)) row) where
  pub family-row : IsRowOf {h = h} G.order_of G.value n (λ i. trace ((representation T n v d mats p).at i)) row
  unfolding representation
  family-row = r

  abbrev pub family-character : IsCharacter G.order_of G.value T row
  family-character = record { n = n; divides = v; size = d; few = few; representation = representation T n v d mats p; is_row = family-row }

pub family-exponents : {S : Type 0} {G : Ghosts S} {h : ℕ} (T : PhaseTable h) (n : ℕ) (v : T.order ∣ n) (d : ℕ) (mats : List (Mat S G)) (p : IsRepresentationOf T n v d mats)
    (N : ℕ) (z : Number n) (i : Fin h) (es : List ℕ) → AreEigenExponents {R = numbers n} {d = d} N z ((representation T n v d mats p).at i) es
    → AreEigenExponents {R = numbers n} {d = d} N z (matrix_at n d mats i) es
unfolding representation
family-exponents T n v d mats p N z i es e = e
