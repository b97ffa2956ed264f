-- A report whose representations are those of a list says what the list's report says.
--   content-list     its content is the report of the list
use Rattle.std.proofs.Common.{◌≡◌, ◌∙◌, ap, ℕ, [], length, get_or}
use mathlib.Core.Path.{fun_ext}
use Rattle.irr_algebra.specs.Fin.{Fin, to_nat}
use Rattle.irr_algebra.specs.Matrix.{Matrix}
use Rattle.irr_number.specs.Number.{Number, numbers}
use Rattle.irr_theory.specs.Representations.{Representations}
use Rattle.irr_space.specs.Operation.{Operation, identity}
use Rattle.irr_space.specs.PhaseTable.{PhaseTable, phases_at}
use Rattle.irr_space.specs.CompleteList.{row}
use Rattle.irr_text.specs.ReportText.{ReportContent, list_report}
use Rattle.irr_kvec.specs.WaveMeaning.{wave_vector}
use Rattle.irr_cyc.specs.declared.scalars.Scalar.{Ghosts}
use Rattle.irr_rep.specs.Family.{matrix_at}
use Rattle.irr_report.specs.declared.report.Report.{Report}
use Rattle.irr_report.specs.Content.{number_at, operations_of, sizes, characters, matrices, content_of}
use Rattle.irr_report.specs.OfList.{IsReportOfList}

module _ {S : Type 0} {G : Ghosts S} (r : Report S G) where
  -- the content at an order and counts
  abbrev at_counts : ℕ → ℕ → ℕ → ReportContent
  at_counts n h c = record {
    wave = wave_vector r.wave;
    order = n;
    places = h;
    operation = λ i. get_or (operations_of r) (to_nat i) identity;
    count = c;
    size = λ m. get_or (sizes r) (to_nat m) 0;
    character = λ m i. number_at G.value n (get_or (characters r) (to_nat m) []) (to_nat i);
    matrix = λ m i. matrix_at n (get_or (sizes r) (to_nat m) 0) (get_or (matrices r) (to_nat m) []) i;
  }

  -- the content with these operations, sizes and characters
  abbrev with_sizes : (n h c : ℕ) → (Fin h → Operation) → (Fin c → ℕ) → (Fin c → Fin h → Number n) → ReportContent
  with_sizes n h c ops size rows = record {
    wave = wave_vector r.wave;
    order = n;
    places = h;
    operation = ops;
    count = c;
    size = size;
    character = rows;
    matrix = λ m i. matrix_at n (size m) (get_or (matrices r) (to_nat m) []) i;
  }

  pub content-list : {h : ℕ} (ops : Fin h → Operation) (T : PhaseTable h) (L : Representations (phases_at T)) → IsReportOfList r ops T L
      → content_of r ≡ list_report (wave_vector r.wave) ops T L
  content-list {h} ops T L is =
      ap (λ n. at_counts n (length r.ops.items) (length r.reps.items)) is.order
      ∙ ap (λ k. at_counts T.order k (length r.reps.items)) is.places
      ∙ ap (λ c. at_counts T.order h c) is.count
      ∙ ap (λ o. with_sizes T.order h L.count o (λ m. get_or (sizes r) (to_nat m) 0) rows) (fun_ext is.operation)
      ∙ ap (λ s. with_sizes T.order h L.count ops s rows) (fun_ext is.size)
      ∙ ap (λ c. with_sizes T.order h L.count ops L.size c) (fun_ext (λ m. fun_ext (is.character m)))
      ∙ ap (λ (a : (m : Fin L.count) → Fin h → Matrix (numbers T.order) (L.size m) (L.size m)). whole a) (fun_ext (λ m. fun_ext (is.matrix m)))
    where
      rows : Fin L.count → Fin h → Number T.order
      rows m i = number_at G.value T.order (get_or (characters r) (to_nat m) []) (to_nat i)

      whole : ((m : Fin L.count) → Fin h → Matrix (numbers T.order) (L.size m) (L.size m)) → ReportContent
      whole a = record {
        wave = wave_vector r.wave;
        order = T.order;
        places = h;
        operation = ops;
        count = L.count;
        size = L.size;
        character = λ m. row T (L.member m);
        matrix = a;
      }
