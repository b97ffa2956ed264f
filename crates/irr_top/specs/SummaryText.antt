-- The text of a summary, as it is made from a list of dimensions.
--   dim_word                      a dimension, with a blank before it
--   dims_text dims                the dimensions, one after another
--   head_lines number lines wave order places    the lines before those of the representations
--   summary_lines number lines wave order places dims    the text
--   IsSummaryOn number lines wave T text    the text is the summary of a report of a complete list on T in canonical
--                                 order, whatever the operations of T are
use Rattle.std.specs.Prelude.{ℕ, ◌≡◌, List, ◌++◌, codes, length}
use Rattle.std.specs.Fmt.{decimal}
use Rattle.irr_algebra.specs.Fin.{Fin}
use Rattle.irr_theory.specs.Representations.{Representations}
use Rattle.irr_space.specs.Operation.{Operation, WaveVector}
use Rattle.irr_space.specs.PhaseTable.{PhaseTable, phases_at}
use Rattle.irr_space.specs.CompleteList.{IsCompleteList, IsInOrder}
use Rattle.irr_text.specs.ReportText.{line, next_word, list_report}
use Rattle.irr_text.specs.WaveText.{wave_text}
use Rattle.irr_report.specs.Printed.{numbered}
use Rattle.irr_top.specs.GenCommand.{summary_text}

abbrev pub dim_word : ℕ → ℕ → List ℕ
dim_word place dim = next_word (decimal dim)

abbrev pub dims_text : List ℕ → List ℕ
dims_text dims = numbered dim_word 1 dims

abbrev pub head_lines : ℕ → ℕ → WaveVector → ℕ → ℕ → List ℕ
head_lines number lines wave order places = line (codes "gen 1")
    ++ line (codes "number" ++ next_word (decimal number))
    ++ line (codes "lines" ++ next_word (decimal lines))
    ++ line (codes "wave" ++ next_word (wave_text wave))
    ++ line (codes "order" ++ next_word (decimal order))
    ++ line (codes "ops" ++ next_word (decimal places))

abbrev pub summary_lines : ℕ → ℕ → WaveVector → ℕ → ℕ → List ℕ → List ℕ
summary_lines number lines wave order places dims = head_lines number lines wave order places
    ++ line (codes "reps" ++ next_word (decimal (length dims)))
    ++ line (codes "dims" ++ dims_text dims)
    ++ line (codes "end")

pub record IsSummaryOn (number lines : ℕ) (wave : WaveVector) {h : ℕ} (T : PhaseTable h) (text : List ℕ) : Type 0 where
  pub representations : Representations (phases_at T)
  pub complete : IsCompleteList T representations
  pub in_order : IsInOrder T representations
  pub is_text : (ops : Fin h → Operation) → text ≡ summary_text number lines (list_report wave ops T representations)
