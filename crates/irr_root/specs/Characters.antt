-- Characters of small representations.
--   IsCharacter order value T row   the row has the traces of a small representation of at most 48 rows
use Rattle.std.specs.Prelude.{ℕ, ◌≤◌, List}
use Rattle.std.specs.Int.{◌∣◌}
use Rattle.irr_algebra.specs.Fin.{Fin}
use Rattle.irr_algebra.specs.Matrix.{trace}
use Rattle.irr_number.specs.Number.{Number}
use Rattle.irr_theory.specs.FactorSystem.{Representation}
use Rattle.irr_space.specs.PhaseTable.{PhaseTable, phases_over}
use Rattle.irr_char.specs.Characters.{IsRowOf}

-- the traces of a small representation, over an order that the table's order divides
pub record IsCharacter {S : Type 0} {h : ℕ} (order : S → ℕ) (value : (n : ℕ) → S → Number n) (T : PhaseTable h) (row : List S) : Type 0 where
  pub n : ℕ
  pub divides : T.order ∣ n
  pub size : ℕ
  pub few : size ≤ 48
  pub representation : Representation (phases_over T n divides) size
  pub is_row : IsRowOf order value n (λ (i : Fin h). trace (representation.at i)) row
