-- The lines of the text, from the lists of the program.
--   point_text n k           the line of a point with its number
--   place_line ops d n p     the line of the operation with the number p, with its own number n; d stands past the end
--   member_text dims chars   the lines of a representation on the line with its number
--   part_text p              the line of a part
--   row_text v               the lines of a row
--   rows_text, members_text  those of all rows, and of all representations on the line
use Rattle.std.specs.Prelude.{ℕ, suc, List, [], ◌∷◌, ◌++◌, codes, slice_index_or}
use Rattle.std.specs.List.{flat_map}
use Rattle.std.specs.Fmt.{decimal}
use Rattle.irr_number.specs.Number.{Number}
use Rattle.irr_text.specs.WaveText.{wave_text}
use Rattle.irr_text.specs.ReportText.{line, next_word}
use Rattle.irr_seitz.specs.declared.op.Op.{Op}
use Rattle.irr_kvec.specs.WaveMeaning.{wave_vector}
use Rattle.irr_kvec.specs.declared.wave.Wave.{Wave}
use Rattle.irr_report.specs.Printed.{numbered, operation_text, character_text}
use Rattle.irr_compat.specs.Rows.{RowView, row_view}
use Rattle.irr_compat.specs.declared.table.LinePart.{LinePart}
use Rattle.irr_compat.specs.declared.table.PointRow.{PointRow}

abbrev pub point_text : ℕ → Wave → List ℕ
point_text n k = line (codes "point" ++ next_word (decimal n) ++ next_word (wave_text (wave_vector k)))

abbrev pub place_line : List Op → Op → ℕ → ℕ → List ℕ
place_line ops d n p = operation_text n (slice_index_or ops p d)

abbrev pub member_text : {S : Type 0} (order : S → ℕ) (value : (n : ℕ) → S → Number n) → ℕ → ℕ → List S → List ℕ
member_text order value n d row = line (codes "rep" ++ next_word (76 ∷ decimal n) ++ next_word (codes "dim") ++ next_word (decimal d))
    ++ character_text order value row

abbrev pub part_text : LinePart → List ℕ
part_text p = line (codes "part" ++ next_word (76 ∷ decimal p.label) ++ next_word (decimal p.mult) ++ next_word (decimal p.dim))

abbrev pub row_text : RowView → List ℕ
row_text v = line (codes "from" ++ next_word (decimal v.point) ++ next_word (83 ∷ decimal v.label) ++ next_word (codes "dim")
    ++ next_word (decimal v.dim)) ++ flat_map part_text v.parts

-- in the order of the list
abbrev pub rows_text : List PointRow → List ℕ
rows_text rows = flat_map (λ row. row_text (row_view row)) rows

-- numbers from k on
unfoldable pub members_text : {S : Type 0} (order : S → ℕ) (value : (n : ℕ) → S → Number n) → ℕ → List ℕ → List (List S) → List ℕ
members_text order value k [] rows = []
members_text order value k (d ∷ ds) [] = []
members_text order value k (d ∷ ds) (row ∷ rows) = member_text order value k d row ++ members_text order value (suc k) ds rows
