-- Small representations as the program holds them.
--   IsFamilyOf M D f         the family f has the matrices D, over the numbers of order M: at most 48 rows, and entries
--                            of a size that lets traces be worked out
--   IsSmallFamily T M f      f is so for a small representation of the table T, over the order M that the order of T
--                            divides
use Rattle.std.specs.Prelude.{ℕ, ◌≡◌, ◌≤◌}
use Rattle.std.specs.Int.{◌∣◌}
use Rattle.irr_algebra.specs.Fin.{Fin}
use Rattle.irr_algebra.specs.Matrix.{Matrix}
use Rattle.irr_number.specs.Number.{numbers}
use Rattle.irr_theory.specs.FactorSystem.{Representation}
use Rattle.irr_space.specs.PhaseTable.{PhaseTable, phases_over}
use Rattle.irr_cyc.specs.declared.scalars.Scalar.{Ghosts}
use Rattle.irr_mat.specs.Size.{TraceFits}
use Rattle.irr_rep.specs.declared.family.Family.{Family}
use Rattle.irr_rep.specs.Family.{HasShape, matrix_at}

pub record IsFamilyOf {X : Type 0} {V : Ghosts X} (M : ℕ) {h d : ℕ} (D : Fin h → Matrix (numbers M) d d)
    (f : Family X V) : Type 0 where
  pub size : f.dim ≡ d
  pub shape : HasShape M h d f.mats.items
  pub matrices : (i : Fin h) → matrix_at M d f.mats.items i ≡ D i
  pub few : d ≤ 48
  pub fits : (i : Fin h) → TraceFits M (D i)

pub record IsSmallFamily {X : Type 0} {V : Ghosts X} {h : ℕ} (T : PhaseTable h) (M : ℕ) (f : Family X V) : Type 0 where
  pub divides : T.order ∣ M
  pub small : Representation (phases_over T M divides) f.dim
  pub family : IsFamilyOf M small.at f
