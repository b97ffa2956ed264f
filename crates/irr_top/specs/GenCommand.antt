-- `gen`: a summary of the small representations at the wave vector of a made input.
--   summary_text number lines r      the summary of a report, for an input of so many lines that was made from a number
--   IsGenText s G number lines k text    the text is the summary of a report of the small representations of the group
--                                    G at k, for the sign s of the phase
--   IsGenReply G number lines k s text   s is Done, and the text is such a summary, for the sign minus
use Rattle.std.specs.Prelude.{ℕ, ◌≡◌, List, ◌++◌, codes}
use Rattle.std.specs.Fmt.{decimal}
use Rattle.irr_space.specs.Operation.{Operation, WaveVector}
use Rattle.irr_space.specs.Reciprocal.{Sign}
use Rattle.irr_space.specs.Reciprocal.Sign.{minus}
use Rattle.irr_text.specs.ReportText.{ReportContent, IsReportOf, line, next_word, pieces}
use Rattle.irr_text.specs.WaveText.{wave_text}
use Rattle.irr_top.specs.declared.status.Status.{Status}
use Rattle.irr_top.specs.declared.status.Status.TheVariants.{Done}

abbrev pub summary_text : ℕ → ℕ → ReportContent → List ℕ
summary_text number lines r = line (codes "gen 1")
    ++ line (codes "number" ++ next_word (decimal number))
    ++ line (codes "lines" ++ next_word (decimal lines))
    ++ line (codes "wave" ++ next_word (wave_text r.wave))
    ++ line (codes "order" ++ next_word (decimal r.order))
    ++ line (codes "ops" ++ next_word (decimal r.places))
    ++ line (codes "reps" ++ next_word (decimal r.count))
    ++ line (codes "dims" ++ pieces r.count (λ m. next_word (decimal (r.size m))))
    ++ line (codes "end")

pub record IsGenText (s : Sign) (G : Operation → Type 0) (number lines : ℕ) (k : WaveVector) (text : List ℕ)
    : Type 0 where
  pub content : ReportContent
  pub is_report : IsReportOf s G k content
  pub is_text : text ≡ summary_text number lines content

abbrev pub IsGenReply : (Operation → Type 0) → ℕ → ℕ → WaveVector → Status → List ℕ → Type 0
IsGenReply G number lines k s text = (s ≡ Done) × IsGenText minus G number lines k text
