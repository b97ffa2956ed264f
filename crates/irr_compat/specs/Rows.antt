-- The rows of compatibility relations in the program.
--   RowView, row_view        a row with the list of its parts
--   member_row i m d parts   the row of the member m, of d rows, at the point i
--   AreReadings .. L ts cs   cs are the characters, over the order of L, of the members of a list on some table, and ts turn them to
--                            those of representations on L, their readings
--   point_rows R             the rows of the relations at a point, by label
use Rattle.std.specs.Prelude.{ℕ, suc, ◌≡◌, ◌<◌, ◌≤◌, List, [], ◌∷◌, length, slice_index_or}
use Rattle.std.specs.Int.{◌∣◌}
use Rattle.std.specs.List.{All}
use Rattle.irr_algebra.specs.Fin.{Fin, to_nat}
use Rattle.irr_algebra.specs.Matrix.{trace}
use Rattle.irr_number.specs.Number.{Number}
use Rattle.irr_theory.specs.FactorSystem.{Representation}
use Rattle.irr_theory.specs.Representations.{Representations}
use Rattle.irr_space.specs.Operation.{Operation, WaveVector}
use Rattle.irr_space.specs.Reciprocal.{Sign}
use Rattle.irr_space.specs.PhaseTable.{PhaseTable, phases_at}
use Rattle.irr_space.specs.CompleteList.{over}
use Rattle.irr_mult.specs.StarParts.{IsCharacterOf}
use Rattle.irr_mult.specs.declared.star.SmallCharacter.{SmallCharacter}
use Rattle.irr_compat.specs.Relations.{PointRelations}
use Rattle.irr_compat.specs.Parts.{gathered, parts_of}
use Rattle.irr_compat.specs.Readings.{AreTurnedBy}
use Rattle.irr_compat.specs.declared.table.LinePart.{LinePart}
use Rattle.irr_compat.specs.declared.table.PointRow.{PointRow}
use Rattle.irr_compat.specs.declared.turns.Turn.{Turn}

pub record RowView : Type 0 where
  pub point : ℕ
  pub label : ℕ
  pub dim : ℕ
  pub parts : List LinePart

abbrev pub row_view : PointRow → RowView
row_view row = record { point = row.point; label = row.label; dim = row.dim; parts = row.parts.items }

abbrev pub member_row : ℕ → ℕ → ℕ → List LinePart → RowView
member_row i m d parts = record { point = i; label = suc m; dim = d; parts = parts }

pub record AreReadings {S : Type 0} (order : S → ℕ) (value : (n : ℕ) → S → Number n) {h : ℕ} (L : PhaseTable h)
    (ts : List Turn) (cs : List (SmallCharacter S)) : Type 0 where
  pub places : ℕ
  pub table : PhaseTable places
  pub divides : table.order ∣ L.order
  pub members : Representations (phases_at table)
  pub few : members.count ≤ 48
  pub small : (m : Fin members.count) → members.size m ≤ 48
  pub count : length cs ≡ members.count
  pub character : (m : Fin members.count) (e : SmallCharacter S)
      → IsCharacterOf order value table L.order divides (members.member m) (slice_index_or cs (to_nat m) e)
  pub below : All (λ t. t.place < places) ts
  pub within : All (λ t. t.exponent < L.order) ts
  pub reading : (m : Fin members.count) → Representation (phases_at L) (members.size m)
  pub turned : (m : Fin members.count) → AreTurnedBy L.order ts
      (λ b. trace ((over table L.order divides (members.member m)).at b)) (λ a. trace ((reading m).at a))

abbrev pub point_rows : {s : Sign} {G : Operation → Type 0} {n : ℕ} {point : Fin (suc n) → WaveVector} {h : ℕ}
    {operation : Fin h → Operation} {T : PhaseTable h} {list : Representations (phases_at T)} {i : Fin (suc n)}
    → PointRelations s G point operation T list i → List RowView
point_rows {list = list} {i = i} R = gathered R.members.count (λ m.
    member_row (to_nat i) (to_nat m) (R.members.size m) (parts_of (R.mult m) list.size) ∷ [])
