-- Compatibility relations: how the small representations at the points of a line or a plane restrict to its group
-- (Aroyo et al., Acta Cryst. A62, 2006).
--   PointRelations s G point operation T list i    the table of the little group of the point i and a complete list on it in
--                             canonical order, and for each of its members, restricted to the line group with the table T and
--                             read at the first point, how often each member of the list on T stands in it
--   LineRelations s G point T     a complete list on the table T of the line group in canonical order, and these at each point
use Rattle.std.specs.Prelude.{ℕ, suc, ◌≡◌, ◌*◌}
use Rattle.std.specs.Int.{◌∣◌}
use Rattle.irr_algebra.specs.Fin.{Fin}
use Rattle.irr_algebra.specs.Fin.Fin.{first}
use Rattle.irr_algebra.specs.Matrix.{◌⊖◌}
use Rattle.irr_algebra.specs.Action.{HasDimension}
use Rattle.irr_theory.specs.FactorSystem.{Representation}
use Rattle.irr_theory.specs.Representations.{Representations, count_total}
use Rattle.irr_space.specs.Operation.{Operation, WaveVector}
use Rattle.irr_space.specs.Reciprocal.{Sign}
use Rattle.irr_space.specs.CanonicalOperation.{IsNumbering}
use Rattle.irr_space.specs.Star.{IsInLittleGroup}
use Rattle.irr_space.specs.PhaseTable.{PhaseTable, phases_at, IsTableOf}
use Rattle.irr_space.specs.CompleteList.{IsCompleteList, IsInOrder}
use Rattle.irr_line.specs.LineGroup.{IsInLineGroup, IsLineTable}
use Rattle.irr_line.specs.Reading.{IsReading}

pub record PointRelations (s : Sign) (G : Operation → Type 0) {n : ℕ} (point : Fin (suc n) → WaveVector) {h : ℕ}
    (operation : Fin h → Operation) (T : PhaseTable h) (list : Representations (phases_at T)) (i : Fin (suc n)) : Type 0 where
  -- the little group of the point
  pub places : ℕ
  pub little : Fin places → Operation
  pub numbering : IsNumbering G (IsInLittleGroup G (point i)) little
  pub table : PhaseTable places
  pub is_table : IsTableOf s G (point i) little table
  pub members : Representations (phases_at table)
  pub complete : IsCompleteList table members
  pub in_order : IsInOrder table members
  -- restricted and read at the first point
  pub divides : table.order ∣ T.order
  pub reading : (m : Fin members.count) → Representation (phases_at T) (members.size m)
  pub is_reading : (m : Fin members.count) → IsReading s (point first ⊖ point i) operation T little table divides
      (members.member m) (reading m)
  -- how often the members of the list stand in it
  pub mult : Fin members.count → Fin list.count → ℕ
  pub is_mult : (m : Fin members.count) (j : Fin list.count) → HasDimension (list.member j).at (reading m).at (mult m j)
  pub adds_up : (m : Fin members.count) → count_total list.count (λ j. mult m j * list.size j) ≡ members.size m

pub record LineRelations (s : Sign) (G : Operation → Type 0) {n : ℕ} (point : Fin (suc n) → WaveVector) {h : ℕ}
    (T : PhaseTable h) : Type 0 where
  pub operation : Fin h → Operation
  pub numbering : IsNumbering G (IsInLineGroup G point) operation
  pub is_table : IsLineTable s G point operation T
  pub list : Representations (phases_at T)
  pub complete : IsCompleteList T list
  pub in_order : IsInOrder T list
  pub at_point : (i : Fin (suc n)) → PointRelations s G point operation T list i
