-- The parts of the text.
--   AreInList ops arms       the numbers of the arms' operations are those of operations of the list
--   head_text                the lines before those of the arms
--   arm_words, arm_text      the line of an arm with its number
--   star_text                the lines of arms and of operations
--   generator_text           the line of a generator with its number
--   number_word n x          a blank and the number x of order n
--   row_text M B r           row r of matrices B beside one another
--   matrix_text A k g        the line of the matrix at the operation g with its number
--   representation_text      the lines of a representation with its number: its dimension, traces and matrices
use Rattle.std.specs.Prelude.{ℕ, ◌<◌, List, ◌∷◌, ◌++◌, codes, length, slice_index_or}
use Rattle.std.specs.List.{All, flat_map}
use Rattle.std.specs.Fmt.{decimal}
use Rattle.irr_algebra.specs.Fin.{Fin}
use Rattle.irr_algebra.specs.Matrix.{Matrix, trace}
use Rattle.irr_number.specs.Number.{Number, numbers}
use Rattle.irr_space.specs.Operation.{Operation, WaveVector}
use Rattle.irr_text.specs.NumberText.{number_text}
use Rattle.irr_text.specs.WaveText.{wave_text}
use Rattle.irr_text.specs.TripletText.{triplet_text}
use Rattle.irr_text.specs.ReportText.{pieces, line, next_word}
use Rattle.irr_seitz.specs.OperationMeaning.{operation}
use Rattle.irr_seitz.specs.declared.op.Op.{Op}
use Rattle.irr_kvec.specs.WaveMeaning.{wave_vector}
use Rattle.irr_little.specs.declared.arms.Arm.{Arm}
use Rattle.irr_report.specs.Printed.{numbered, operation_text}

abbrev pub AreInList : List Op → List Arm → Type 0
AreInList ops arms = All (λ arm. arm.op < length ops) arms

abbrev pub head_text : WaveVector → ℕ → ℕ → List ℕ
head_text wave order count = line (codes "full 1") ++ line (codes "wave" ++ next_word (wave_text wave))
    ++ line (codes "order" ++ next_word (decimal order)) ++ line (codes "arms" ++ next_word (decimal count))

abbrev pub arm_words : ℕ → WaveVector → Operation → List ℕ
arm_words n wave g = line (codes "arm" ++ next_word (decimal n) ++ next_word (wave_text wave)
    ++ next_word (triplet_text g))

-- past the end of the list, d stands for an operation
abbrev pub arm_text : List Op → Op → ℕ → Arm → List ℕ
arm_text ops d n arm = arm_words n (wave_vector arm.wave) (operation (slice_index_or ops arm.op d))

-- the lines before those of the generators; a stands past the end of the arms
abbrev pub star_text : List Op → List Arm → ℕ → Op → Arm → List ℕ
star_text ops arms order d a = head_text (wave_vector (slice_index_or arms 0 a).wave) order (length arms)
    ++ numbered (arm_text ops d) 1 arms
    ++ line (codes "ops" ++ next_word (decimal (length ops))) ++ numbered operation_text 1 ops

abbrev pub generator_text : ℕ → Op → List ℕ
generator_text k g = line (codes "gen" ++ next_word (decimal k) ++ next_word (triplet_text (operation g)))

abbrev pub number_word : (n : ℕ) → Number n → List ℕ
number_word n x = next_word (number_text n x)

abbrev pub row_text : (M : ℕ) {a d : ℕ} → (Fin a → Matrix (numbers M) d d) → Fin d → List ℕ
row_text M {a} {d} B r = pieces a (λ j. pieces d (λ c. number_word M ((B j).at r c)))

-- all rows, one after another
abbrev pub entries_text : (M : ℕ) {n : ℕ} → Matrix (numbers M) n n → List ℕ
entries_text M {n} m = pieces n (λ a. pieces n (λ b. number_word M (m.at a b)))

abbrev pub matrix_text : (M : ℕ) {n : ℕ} → (Operation → Matrix (numbers M) n n) → ℕ → Op → List ℕ
matrix_text M A k g = line (codes "mat" ++ next_word (decimal k) ++ entries_text M (A (operation g)))

abbrev pub trace_word : (M : ℕ) {n : ℕ} → (Operation → Matrix (numbers M) n n) → Op → List ℕ
trace_word M A g = number_word M (trace (A (operation g)))

-- the traces at the operations ops, and the matrices at gens
abbrev pub representation_text : (M : ℕ) {n : ℕ} → (Operation → Matrix (numbers M) n n) → List Op → List Op → ℕ → List ℕ
representation_text M {n} A ops gens k = line (codes "rep" ++ next_word (83 ∷ decimal k) ++ next_word (codes "dim")
    ++ next_word (decimal n))
    ++ line (codes "char" ++ flat_map (trace_word M A) ops) ++ numbered (matrix_text M A) 1 gens
