-- Families of matrices in the program (`Family`), as the theory has them.
--   HasShape n h d mats              h square matrices of d rows, whose entries are numbers of order n
--   matrix_at n d mats i             the matrix at a place, over the numbers of order n
--   IsRepresentationOf T n v d mats  small representation over an order n that the table's order divides: D(start) = 1 and
--                                    D(i)D(j) = z^x(i,j) D(l(i,j)) (Bradley and Cracknell, section 3.7)
--   representation T n v d mats p    that representation, with these matrices
--   at_own_order T v A               a representation over the table's own order, lifted to itself, as one of the table
use Rattle.std.specs.Prelude.{ℕ, ◌≡◌, ◌<◌, List, [], length, map, slice_index_or, All}
use Rattle.std.proofs.Common.{◌∙◌, ap}
use Rattle.std.specs.Int.{◌∣◌}
use Rattle.irr_algebra.specs.Fin.{Fin, to_nat}
use Rattle.irr_algebra.specs.Matrix.{Matrix, ◌·◌, unit, scale}
use Rattle.irr_number.specs.Number.{numbers, root_power}
use Rattle.irr_number.proofs.Lifts.{lift_self}
use Rattle.irr_theory.specs.FactorSystem.{Representation}
use Rattle.irr_space.specs.PhaseTable.{PhaseTable, phases_at, phases_over}
use Rattle.irr_cyc.specs.declared.scalars.Scalar.{Ghosts}
use Rattle.irr_mat.specs.declared.matrices.Mat.{Mat}
use Rattle.irr_mat.specs.Entries.{first_order, matrix_of}

-- h square matrices of d rows, with entries of order n
pub record HasShape {S : Type 0} {G : Ghosts S} (n h d : ℕ) (mats : List (Mat S G)) : Type 0 where
  pub count : length mats ≡ h
  pub positive : 0 < d
  pub rows : All (λ m. m.rows ≡ d) mats
  pub cols : All (λ m. m.cols ≡ d) mats
  pub orders : All (λ m. first_order G.order_of m.entries.items ≡ n) mats

-- the matrix at a place, 0 past the end
unfoldable pub matrix_at : {S : Type 0} {G : Ghosts S} {h : ℕ} (n d : ℕ) → List (Mat S G) → Fin h → Matrix (numbers n) d d
matrix_at {G = G} n d mats i = matrix_of G.value n d d (slice_index_or (map (λ m. m.entries.items) mats) (to_nat i) [])

-- D(start) = 1 and D(i)D(j) = z^x(i,j) D(l(i,j))
pub record IsRepresentationOf {S : Type 0} {G : Ghosts S} {h : ℕ} (T : PhaseTable h) (n : ℕ) (v : T.order ∣ n) (d : ℕ)
    (mats : List (Mat S G)) : Type 0 where
  pub at-start : matrix_at n d mats T.start ≡ unit (numbers n) d
  pub at-product : (i j : Fin h) → matrix_at n d mats i · matrix_at n d mats j
      ≡ scale (numbers n) ((phases_over T n v).phase i j) (matrix_at n d mats (T.product i j))

-- the representation with these matrices
unfoldable pub representation : {S : Type 0} {G : Ghosts S} {h : ℕ} (T : PhaseTable h) (n : ℕ) (v : T.order ∣ n) (d : ℕ) (mats : List (Mat S G))
    → IsRepresentationOf T n v d mats → Representation (phases_over T n v) d
representation T n v d mats p = record { at = λ i. matrix_at n d mats i; at-start = p.at-start; at-product = p.at-product }

-- the same matrices over the table's own phases
unfoldable pub at_own_order : {h : ℕ} (T : PhaseTable h) (v : T.order ∣ T.order) {d : ℕ} → Representation (phases_over T T.order v) d
    → Representation (phases_at T) d
at_own_order T v A = record {
  at = A.at;
  at-start = A.at-start;
  at-product = λ i j. A.at-product i j
      ∙ ap (λ c. scale (numbers T.order) c (A.at (T.product i j))) (lift_self T.order T.order_positive v (root_power T.order (T.exponent i j)));
}
