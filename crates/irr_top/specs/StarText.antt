-- The lines of the text of a star, as they are made from arms and a table.
--   AreInList ops arms            the numbers of the arms' operations are those of operations of the list
--   head_text                     the lines before those of the arms
--   arm_words, arm_text           the line of an arm with its number
--   factor T i j, factors T i     an entry of the factor system of a table, and the row of an operation
--   listed_content                what a text says of arms, of operations of a group, and of a table on them
use Rattle.std.specs.Prelude.{ℕ, ◌<◌, List, ◌++◌, codes, length, slice_index_or}
use Rattle.std.specs.List.{All}
use Rattle.std.specs.Fmt.{decimal}
use Rattle.irr_algebra.specs.Fin.{Fin, to_nat}
use Rattle.irr_space.specs.Operation.{Operation, WaveVector}
use Rattle.irr_space.specs.PhaseTable.{PhaseTable}
use Rattle.irr_text.specs.WaveText.{wave_text}
use Rattle.irr_text.specs.TripletText.{triplet_text}
use Rattle.irr_text.specs.ReportText.{line, next_word}
use Rattle.irr_text.specs.StarText.{StarContent, star_content, factor_word, factor_line}
use Rattle.irr_seitz.specs.OperationMeaning.{operation}
use Rattle.irr_seitz.specs.declared.op.Op.{Op}
use Rattle.irr_kvec.specs.WaveMeaning.{wave_vector}
use Rattle.irr_close.specs.declared.group.Group.{Group}
use Rattle.irr_little.specs.Table.{listed_operations}
use Rattle.irr_little.specs.declared.arms.Arm.{Arm}

abbrev pub AreInList : List Op → List Arm → Type 0
AreInList ops arms = All (λ arm. arm.op < length ops) arms

abbrev pub head_text : WaveVector → ℕ → ℕ → List ℕ
head_text wave order count = line (codes "star 1") ++ line (codes "wave" ++ next_word (wave_text wave))
    ++ line (codes "order" ++ next_word (decimal order)) ++ line (codes "arms" ++ next_word (decimal count))

abbrev pub arm_words : ℕ → WaveVector → Operation → List ℕ
arm_words n wave g = line (codes "arm" ++ next_word (decimal n) ++ next_word (wave_text wave)
    ++ next_word (triplet_text g))

abbrev pub arm_text : List Op → Op → ℕ → Arm → List ℕ
arm_text ops d n arm = arm_words n (wave_vector arm.wave) (operation (slice_index_or ops arm.op d))

abbrev pub factor : {h : ℕ} → PhaseTable h → Fin h → Fin h → List ℕ
factor T i j = factor_word (T.product i j) (T.exponent i j)

abbrev pub factors : {h : ℕ} → PhaseTable h → Fin h → List ℕ
factors T i = factor_line T.product T.exponent i

-- past the end of the lists, d and a stand for an operation and for an arm
abbrev pub listed_content : (group : Group) (arms : List Arm) {h : ℕ} (xs : List ℕ) (T : PhaseTable h) → Op → Arm
    → StarContent
listed_content group arms {h} xs T d a = star_content (wave_vector (slice_index_or arms 0 a).wave)
    {a = length arms} (λ i. wave_vector (slice_index_or arms (to_nat i) a).wave)
    (λ i. operation (slice_index_or group.ops.items (slice_index_or arms (to_nat i) a).op d))
    (listed_operations group h xs d) T
