-- Yes is for complete reports.
use Rattle.irr_top.proofs.Judgements.{input_complete}
use Rattle.irr_top.proofs.laws.yes_is_for_complete_reports.Goals as goal

pub returns : goal.returns
returns c = λ bytes lines sub gens r i v. input_complete bytes lines sub gens r i v
