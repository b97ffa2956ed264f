-- The reply where there is no subgroup.
use Rattle.irr_close.specs.StandsFor.{stands_for}
use Rattle.irr_input.specs.InputLines.{content_of_sub}
use Rattle.irr_top.proofs.OneSubgroup.{has_line}
use Rattle.irr_top.proofs.subduce.refused.Goals as goal

pub text_refusal-requires : goal.text_refusal-requires
text_refusal-requires c = has_line (stands_for c.requires.refused.0) (content_of_sub c.args.section.now)
    (c.in-Some.ensures c.requires.refused.0 c.requires.refused.1)
