-- The lines of a report of the program, from its lists. Each number is read at its own order.
--   values_text xs             the numbers, with a blank before each
--   numbered f k xs            the texts f k x, f (k + 1) y, .. of the items x, y, .., one after another
--   row_entries m i            the entries of row i of a matrix
--   operation_text k g         the line of the operation g with the number k; likewise character_text, matrix_text, representation_text
--   head_text r                the lines before those of the operations
use Rattle.std.specs.Prelude.{ℕ, suc, List, [], ◌∷◌, ◌++◌, ◌*◌, length, take, drop, codes}
use Rattle.std.specs.List.{flat_map}
use Rattle.std.specs.Fmt.{decimal}
use Rattle.irr_number.specs.Number.{Number}
use Rattle.irr_text.specs.NumberText.{number_text}
use Rattle.irr_text.specs.WaveText.{wave_text}
use Rattle.irr_text.specs.TripletText.{triplet_text}
use Rattle.irr_text.specs.ReportText.{line, next_word}
use Rattle.irr_seitz.specs.declared.op.Op.{Op}
use Rattle.irr_seitz.specs.OperationMeaning.{operation}
use Rattle.irr_kvec.specs.declared.wave.Wave.{Wave}
use Rattle.irr_kvec.specs.WaveMeaning.{wave_vector}
use Rattle.irr_cyc.specs.declared.scalars.Scalar.{Ghosts}
use Rattle.irr_mat.specs.declared.matrices.Mat.{Mat}
use Rattle.irr_report.specs.declared.report.RepText.{RepText}
use Rattle.irr_report.specs.declared.report.Report.{Report}

-- a blank and a number, read at its own order
abbrev pub value_word : {S : Type 0} (order : S → ℕ) (value : (n : ℕ) → S → Number n) → S → List ℕ
value_word order value x = next_word (number_text (order x) (value (order x) x))

unfoldable pub values_text : {S : Type 0} (order : S → ℕ) (value : (n : ℕ) → S → Number n) → List S → List ℕ
values_text order value xs = flat_map (value_word order value) xs

unfoldable pub numbered : {A : Type 0} → (ℕ → A → List ℕ) → ℕ → List A → List ℕ
numbered f k [] = []
numbered f k (x ∷ xs) = f k x ++ numbered f (suc k) xs

abbrev pub operation_text : ℕ → Op → List ℕ
operation_text k g = line (codes "op" ++ next_word (decimal k) ++ next_word (triplet_text (operation g)))

abbrev pub character_text : {S : Type 0} (order : S → ℕ) (value : (n : ℕ) → S → Number n) → List S → List ℕ
character_text order value xs = line (codes "char" ++ values_text order value xs)

-- the entries of row i of a matrix
abbrev pub row_entries : {S : Type 0} {G : Ghosts S} → Mat S G → ℕ → List S
row_entries m i = take m.cols (drop (i * m.cols) m.entries.items)

abbrev pub matrix_text : {S : Type 0} {G : Ghosts S} → ℕ → Mat S G → List ℕ
matrix_text {G = G} k m = line (codes "mat" ++ next_word (decimal k) ++ values_text G.order_of G.value m.entries.items)

abbrev pub representation_text : {S : Type 0} {G : Ghosts S} → ℕ → RepText S G → List ℕ
representation_text {G = G} k t =
    line (codes "rep" ++ next_word (83 ∷ decimal k) ++ next_word (codes "dim") ++ next_word (decimal t.family.dim))
    ++ character_text G.order_of G.value t.chars.items ++ numbered (matrix_text {G = G}) 1 t.family.mats.items

abbrev pub head_text : Wave → ℕ → ℕ → List ℕ
head_text wave order places = line (codes "report 1") ++ line (codes "wave" ++ next_word (wave_text (wave_vector wave)))
    ++ line (codes "order" ++ next_word (decimal order)) ++ line (codes "ops" ++ next_word (decimal places))

unfoldable pub printed_report : {S : Type 0} {G : Ghosts S} → Report S G → List ℕ
printed_report {G = G} r = head_text r.wave r.order (length r.ops.items) ++ numbered operation_text 1 r.ops.items
    ++ line (codes "reps" ++ next_word (decimal (length r.reps.items))) ++ numbered (representation_text {G = G}) 1 r.reps.items ++ line (codes "end")
