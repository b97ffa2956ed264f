-- `small`: the small representations at a wave vector.
--   IsSmallText s G k text    the text is that of a report of the small representations of the group G at k, for the
--                             sign s of the phase
--   IsSmallReply G k s text   s is Done, and the text is that of a report, for the sign minus
use Rattle.std.specs.Prelude.{ℕ, ◌≡◌, List}
use Rattle.irr_space.specs.Operation.{Operation, WaveVector}
use Rattle.irr_space.specs.Reciprocal.{Sign}
use Rattle.irr_space.specs.Reciprocal.Sign.{minus}
use Rattle.irr_text.specs.ReportText.{ReportContent, report_text, IsReportOf}
use Rattle.irr_top.specs.declared.status.Status.{Status}
use Rattle.irr_top.specs.declared.status.Status.TheVariants.{Done}

pub record IsSmallText (s : Sign) (G : Operation → Type 0) (k : WaveVector) (text : List ℕ) : Type 0 where
  pub content : ReportContent
  pub is_report : IsReportOf s G k content
  pub is_text : text ≡ report_text content

abbrev pub IsSmallReply : (Operation → Type 0) → WaveVector → Status → List ℕ → Type 0
IsSmallReply G k s text = (s ≡ Done) × IsSmallText minus G k text
