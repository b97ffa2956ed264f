-- Reports, version 1: what stands in one, its printed form, and the report of a group and a wave vector.
--   ReportContent           a wave vector, an order, operations, and representations with characters and matrices
--   report_text r           its text
--   IsReportOf s G k r      the report of the small representations of the group G at k: the reduced wave vector, the order, the
--                           canonical operations of the little group, and a complete list in canonical order with its traces
use Rattle.std.specs.Prelude.{ℕ, zero, suc, ◌≡◌, List, [], ◌∷◌, ◌++◌, codes}
use Rattle.std.specs.Fmt.{decimal}
use Rattle.irr_algebra.specs.Fin.{Fin, to_nat}
use Rattle.irr_algebra.specs.Fin.Fin.{first, next}
use Rattle.irr_algebra.specs.Matrix.{Matrix}
use Rattle.irr_number.specs.Number.{Number, numbers}
use Rattle.irr_theory.specs.Representations.{Representations}
use Rattle.irr_space.specs.Operation.{Operation, WaveVector}
use Rattle.irr_space.specs.Reciprocal.{Sign, IsReduced}
use Rattle.irr_space.specs.CanonicalOperation.{IsNumbering}
use Rattle.irr_space.specs.Star.{IsInLittleGroup}
use Rattle.irr_space.specs.PhaseTable.{PhaseTable, IsTableOf, phases_at}
use Rattle.irr_space.specs.CompleteList.{IsCompleteList, IsInOrder, row}
use Rattle.irr_text.specs.NumberText.{number_text}
use Rattle.irr_text.specs.WaveText.{wave_text}
use Rattle.irr_text.specs.TripletText.{triplet_text}

pub record ReportContent : Type 0 where
  pub wave : WaveVector
  pub order : ℕ
  pub places : ℕ
  pub operation : Fin places → Operation
  pub count : ℕ
  pub size : Fin count → ℕ
  pub character : (m : Fin count) → Fin places → Number order
  pub matrix : (m : Fin count) → Fin places → Matrix (numbers order) (size m) (size m)

-- the texts at the places, one after another
unfoldable pub pieces : (n : ℕ) → (Fin n → List ℕ) → List ℕ
pieces zero f = []
pieces (suc n) f = f first ++ pieces n (λ i. f (next i))

-- a text and a line feed
abbrev pub line : List ℕ → List ℕ
line text = text ++ 10 ∷ []

-- the number of a place: places count from 1 in print
abbrev pub place_text : {n : ℕ} → Fin n → List ℕ
place_text i = decimal (suc (to_nat i))

-- a blank and a text
abbrev pub next_word : List ℕ → List ℕ
next_word text = 32 ∷ text

unfoldable pub operation_line : (r : ReportContent) → Fin r.places → List ℕ
operation_line r i = line (codes "op" ++ next_word (place_text i) ++ next_word (triplet_text (r.operation i)))

unfoldable pub character_line : (r : ReportContent) → Fin r.count → List ℕ
character_line r m = line (codes "char" ++ pieces r.places (λ i. next_word (number_text r.order (r.character m i))))

unfoldable pub matrix_line : (r : ReportContent) (m : Fin r.count) → Fin r.places → List ℕ
matrix_line r m i = line (codes "mat" ++ next_word (place_text i)
    ++ pieces (r.size m) (λ a. pieces (r.size m) (λ b. next_word (number_text r.order ((r.matrix m i).at a b)))))

unfoldable pub representation_lines : (r : ReportContent) → Fin r.count → List ℕ
representation_lines r m = line (codes "rep" ++ next_word (83 ∷ place_text m) ++ next_word (codes "dim") ++ next_word (decimal (r.size m)))
    ++ character_line r m ++ pieces r.places (λ i. matrix_line r m i)

unfoldable pub report_text : ReportContent → List ℕ
report_text r = line (codes "report 1")
    ++ line (codes "wave" ++ next_word (wave_text r.wave))
    ++ line (codes "order" ++ next_word (decimal r.order))
    ++ line (codes "ops" ++ next_word (decimal r.places))
    ++ pieces r.places (λ i. operation_line r i)
    ++ line (codes "reps" ++ next_word (decimal r.count))
    ++ pieces r.count (λ m. representation_lines r m)
    ++ line (codes "end")

-- a report whose representations are those of a list on a table of phases, and whose characters are their traces
abbrev pub list_report : WaveVector → {h : ℕ} (ops : Fin h → Operation) (T : PhaseTable h) (L : Representations (phases_at T)) → ReportContent
list_report wave {h} ops T L = record {
  wave = wave;
  order = T.order;
  places = h;
  operation = ops;
  count = L.count;
  size = L.size;
  character = λ m. row T (L.member m);
  matrix = λ m. (L.member m).at;
}

pub record IsReportOf (s : Sign) (G : Operation → Type 0) (k : WaveVector) (r : ReportContent) : Type 0 where
  pub wave : WaveVector
  pub reduced : IsReduced G k wave
  pub places : ℕ
  pub operation : Fin places → Operation
  pub numbering : IsNumbering G (IsInLittleGroup G wave) operation
  pub table : PhaseTable places
  pub is_table : IsTableOf s G wave operation table
  pub representations : Representations (phases_at table)
  pub complete : IsCompleteList table representations
  pub in_order : IsInOrder table representations
  pub content : r ≡ list_report wave operation table representations
