-- Tables of compatibility relations in the program.
--   IsLineList .. T members        the sizes and characters of a complete list on T in canonical order
--   IsLineHere .. group points line members    `line` is the table of the line group of the points, and `members` such on it
--   here_point e, here_operation e     the points and the operations of the line
--   Shows .. r c                   the table has the operations, the sizes, the characters and the rows of the relations r
--   IsCompatTable .. group point c     the table is that of relations of these points in the group
--   IsCompatRefusal group points e     the order of some of the points in front is the first above the limit; want of memory says
--                                  nothing
use Rattle.std.specs.Prelude.{ℕ, suc, ◌≡◌, ◌<◌, List, length, map, slice_index, Vec}
use Rattle.std.specs.List.{All}
use Rattle.std.specs.Global.{Global}
use Rattle.irr_algebra.specs.Fin.{Fin, to_nat}
use Rattle.irr_number.specs.Number.{Number}
use Rattle.irr_theory.specs.Representations.{Representations, IsFull}
use Rattle.irr_space.specs.Operation.{Operation, WaveVector}
use Rattle.irr_space.specs.PhaseTable.{PhaseTable, phases_at}
use Rattle.irr_space.specs.CompleteList.{IsCompleteList, IsInOrder}
use Rattle.irr_seitz.specs.PhaseMeaning.{sign_of}
use Rattle.irr_seitz.specs.declared.op.Op.{Op}
use Rattle.irr_rep.specs.Twisted.{operation_places, phase_table, place_count}
use Rattle.irr_rep.specs.declared.table.Twisted.{Twisted}
use Rattle.irr_kvec.specs.declared.wave.Wave.{Wave}
use Rattle.irr_close.specs.StandsFor.{stands_for}
use Rattle.irr_close.specs.declared.group.Group.{Group}
use Rattle.irr_little.specs.Line.{line_points, IsLineGroupTable, IsFirstAbove}
use Rattle.irr_little.specs.Table.{listed_operations}
use Rattle.irr_climb.specs.Families.{AreRows}
use Rattle.irr_mult.specs.declared.star.SmallCharacter.{SmallCharacter}
use Rattle.irr_mult.specs.declared.error.WorkError.{WorkError}
use Rattle.irr_mult.specs.declared.error.WorkError.TheVariants.{OrderTooLarge, Memory}
use Rattle.irr_compat.specs.Relations.{LineRelations}
use Rattle.irr_compat.specs.Parts.{gathered, AreCharactersOn}
use Rattle.irr_compat.specs.Rows.{row_view, point_rows}
use Rattle.irr_compat.specs.declared.table.LineTable.{LineTable}

pub record IsLineList {S : Type 0} (order : S → ℕ) (value : (n : ℕ) → S → Number n) {h : ℕ} (T : PhaseTable h)
    (members : List (SmallCharacter S)) : Type 0 where
  pub list : Representations (phases_at T)
  pub full : IsFull list
  pub complete : IsCompleteList T list
  pub in_order : IsInOrder T list
  pub characters : AreCharactersOn order value T list members

pub record IsLineHere {S : Type 0} (order : S → ℕ) (value : (n : ℕ) → S → Number n) (group : Group) (points : List Wave)
    (line : Twisted) (members : List (SmallCharacter S)) : Type 0 where
  pub others : ℕ
  pub count : length points ≡ suc others
  pub past_end : Wave
  pub is_line : IsLineGroupTable group (line_points others points past_end) (operation_places line) (phase_table line)
  pub some : Op
  pub known : IsLineList order value (phase_table line) members

abbrev pub here_point : {S : Type 0} {order : S → ℕ} {value : (n : ℕ) → S → Number n} {group : Group} {points : List Wave}
    {line : Twisted} {members : List (SmallCharacter S)} (e : IsLineHere order value group points line members)
    → Fin (suc e.others) → WaveVector
here_point {points = points} e = line_points e.others points e.past_end

abbrev pub here_operation : {S : Type 0} {order : S → ℕ} {value : (n : ℕ) → S → Number n} {group : Group} {points : List Wave}
    {line : Twisted} {members : List (SmallCharacter S)} (e : IsLineHere order value group points line members)
    → Fin (place_count line) → Operation
here_operation {group = group} {line = line} e = listed_operations group (place_count line) (operation_places line) e.some

pub record Shows {S : Type 0} (order : S → ℕ) (value : (n : ℕ) → S → Number n) (group : Group) {n : ℕ}
    {point : Fin (suc n) → WaveVector} (c : LineTable S)
    (r : LineRelations (sign_of group.phase) (stands_for group) point (phase_table c.line)) : Type 0 where
  pub places : All (λ p. p < length group.ops.items) (operation_places c.line)
  pub operations : (d : Op) → listed_operations group (place_count c.line) (operation_places c.line) d ≡ r.operation
  pub count : length c.dims.items ≡ r.list.count
  pub dims : (m : Fin r.list.count) → slice_index c.dims.items (to_nat m) ≡ r.list.size m
  pub characters : AreRows order value (phase_table c.line).order (phases_at (phase_table c.line)) r.list
      (map (λ (v : Vec S Global). v.items) c.chars.items)
  pub rows : map row_view c.rows.items ≡ gathered (suc n) (λ i. point_rows (r.at_point i))

pub record IsCompatTable {S : Type 0} (order : S → ℕ) (value : (n : ℕ) → S → Number n) (group : Group) {n : ℕ}
    (point : Fin (suc n) → WaveVector) (c : LineTable S) : Type 0 where
  pub relations : LineRelations (sign_of group.phase) (stands_for group) point (phase_table c.line)
  pub shown : Shows order value group c relations

abbrev pub IsCompatRefusal : Group → List Wave → WorkError → Type 0
IsCompatRefusal group points (OrderTooLarge n) = IsFirstAbove group points n
IsCompatRefusal group points Memory = Unit {0}
