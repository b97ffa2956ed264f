-- What a report of the program says (`Report`).
--   HasPlaces n h t        the representation t has h characters and h matrices, which are square with `dim` rows, all of the order n
--   FitsTogether r         each representation has the report's order, and a character and a matrix for each operation
--   number_at value n xs k     the number at a place of a list, read at the order n; 0 past the end
--   operations_of r        the operations, as operations (R|v)
--   sizes, characters, matrices     the dimensions, characters and matrices of the representations
--   content_of r           the report as a `ReportContent`
use Rattle.std.specs.Prelude.{ℕ, ◌≡◌, List, [], length, map, slice_index_or, All}
use Rattle.irr_algebra.specs.Fin.{to_nat}
use Rattle.irr_number.specs.Number.{Number, numbers}
use Rattle.irr_space.specs.Operation.{Operation, identity}
use Rattle.irr_text.specs.ReportText.{ReportContent}
use Rattle.irr_seitz.specs.OperationMeaning.{operation}
use Rattle.irr_kvec.specs.WaveMeaning.{wave_vector}
use Rattle.irr_cyc.specs.declared.scalars.Scalar.{Ghosts}
use Rattle.irr_mat.specs.declared.matrices.Mat.{Mat}
use Rattle.irr_rep.specs.Family.{HasShape, matrix_at}
use Rattle.irr_report.specs.declared.report.RepText.{RepText}
use Rattle.irr_report.specs.declared.report.Report.{Report}

pub record HasPlaces {S : Type 0} {G : Ghosts S} (n h : ℕ) (t : RepText S G) : Type 0 where
  pub count : length t.chars.items ≡ h
  pub orders : All (λ x. G.order_of x ≡ n) t.chars.items
  pub shape : HasShape n h t.family.dim t.family.mats.items

abbrev pub FitsTogether : {S : Type 0} {G : Ghosts S} → Report S G → Type 0
FitsTogether r = All (HasPlaces r.order (length r.ops.items)) r.reps.items

unfoldable pub number_at : {S : Type 0} (value : (n : ℕ) → S → Number n) (n : ℕ) → List S → ℕ → Number n
number_at value n xs k = slice_index_or (map (value n) xs) k (numbers n).zero

abbrev pub operations_of : {S : Type 0} {G : Ghosts S} → Report S G → List Operation
operations_of r = map operation r.ops.items

abbrev pub sizes : {S : Type 0} {G : Ghosts S} → Report S G → List ℕ
sizes r = map (λ t. t.family.dim) r.reps.items

abbrev pub characters : {S : Type 0} {G : Ghosts S} → Report S G → List (List S)
characters r = map (λ t. t.chars.items) r.reps.items

abbrev pub matrices : {S : Type 0} {G : Ghosts S} → Report S G → List (List (Mat S G))
matrices r = map (λ t. t.family.mats.items) r.reps.items

abbrev pub content_of : {S : Type 0} {G : Ghosts S} → Report S G → ReportContent
content_of {G = G} r = record {
  wave = wave_vector r.wave;
  order = r.order;
  places = length r.ops.items;
  operation = λ i. slice_index_or (operations_of r) (to_nat i) identity;
  count = length r.reps.items;
  size = λ m. slice_index_or (sizes r) (to_nat m) 0;
  character = λ m i. number_at G.value r.order (slice_index_or (characters r) (to_nat m) []) (to_nat i);
  matrix = λ m i. matrix_at r.order (slice_index_or (sizes r) (to_nat m) 0) (slice_index_or (matrices r) (to_nat m) []) i;
}
