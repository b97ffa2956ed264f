-- Families of the program, read as representations over the numbers of an order M.
--   IsRead M P D f           the family f has the matrices of D
--   AreRead M P L fs         the families fs are the members of the list L, in its order
--   AreRows order value M P L rows   the rows are the characters of the members of L, in its order
use Rattle.std.specs.Prelude.{ℕ, ◌≡◌, List, length, slice_index_or}
use Rattle.irr_algebra.specs.Fin.{Fin, to_nat}
use Rattle.irr_algebra.specs.Matrix.{trace}
use Rattle.irr_number.specs.Number.{Number, numbers}
use Rattle.irr_theory.specs.FactorSystem.{FactorSystem, Representation}
use Rattle.irr_theory.specs.Representations.{Representations}
use Rattle.irr_cyc.specs.declared.scalars.Scalar.{Ghosts}
use Rattle.irr_rep.specs.declared.family.Family.{Family}
use Rattle.irr_rep.specs.Family.{HasShape, matrix_at}
use Rattle.irr_char.specs.Characters.{IsRowOf}

-- the matrices of f, over the numbers of order M, are those of D
pub record IsRead {S : Type 0} {G : Ghosts S} (M : ℕ) (P : FactorSystem (numbers M)) {d : ℕ} (D : Representation P d) (f : Family S G) : Type 0 where
  pub size : f.dim ≡ d
  pub shape : HasShape M P.places d f.mats.items
  pub matrices : (i : Fin P.places) → matrix_at M d f.mats.items i ≡ D.at i

-- as many families as members, each with the matrices of the member at its place
pub record AreRead {S : Type 0} {G : Ghosts S} (M : ℕ) (P : FactorSystem (numbers M)) (L : Representations P) (fs : List (Family S G)) : Type 0 where
  pub count : length fs ≡ L.count
  pub read : (m : Fin L.count) (e : Family S G) → IsRead M P (L.member m) (slice_index_or fs (to_nat m) e)

-- as many rows as members, each with the traces of the member at its place
pub record AreRows {S : Type 0} (order : S → ℕ) (value : (n : ℕ) → S → Number n) (M : ℕ) (P : FactorSystem (numbers M)) (L : Representations P)
    (rows : List (List S)) : Type 0 where
  pub count : length rows ≡ L.count
  pub row : (m : Fin L.count) (e : List S) → IsRowOf order value M (λ i. trace ((L.member m).at i)) (slice_index_or rows (to_nat m) e)
