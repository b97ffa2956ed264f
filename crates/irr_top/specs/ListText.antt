-- Texts of reports of small representations, as they are made from lists.
--   IsListText wave ops T text   the text is that of a report of a complete list on T in canonical order, far within the
--                                limits of reports
--   IsModestText gens k text     the order of k is within the limit, and the text is that of the report at k of the
--                                group of the generators, which is far within the limits of reports
use Rattle.std.specs.Prelude.{ℕ, ◌≡◌, ◌≤◌, List}
use Rattle.irr_algebra.specs.Fin.{Fin}
use Rattle.irr_theory.specs.Representations.{Representations}
use Rattle.irr_space.specs.Operation.{Operation, WaveVector}
use Rattle.irr_space.specs.Reciprocal.{IsOrder}
use Rattle.irr_space.specs.Reciprocal.Sign.{minus}
use Rattle.irr_space.specs.PhaseTable.{PhaseTable, phases_at}
use Rattle.irr_space.specs.CompleteList.{IsCompleteList, IsInOrder}
use Rattle.irr_text.specs.ReportText.{ReportContent, report_text, list_report, IsReportOf}
use Rattle.irr_seitz.specs.declared.op.Op.{Op}
use Rattle.irr_report.specs.ModestReport.{IsModest}
use Rattle.irr_top.specs.Answer.{order_limit}
use Rattle.irr_top.specs.GroupOf.{group_of}

pub record IsListText (wave : WaveVector) {h : ℕ} (ops : Fin h → Operation) (T : PhaseTable h) (text : List ℕ)
    : Type 0 where
  pub representations : Representations (phases_at T)
  pub complete : IsCompleteList T representations
  pub in_order : IsInOrder T representations
  pub modest : IsModest (list_report wave ops T representations)
  pub is_text : text ≡ report_text (list_report wave ops T representations)

pub record IsModestText (gens : List Op) (k : WaveVector) (text : List ℕ) : Type 0 where
  pub order : ℕ
  pub is_order : IsOrder (group_of gens) k order
  pub within : order ≤ order_limit
  pub content : ReportContent
  pub is_report : IsReportOf minus (group_of gens) k content
  pub modest : IsModest content
  pub is_text : text ≡ report_text content
