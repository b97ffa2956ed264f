-- The parts of the text, one after another.
use Rattle.std.proofs.Common.{◌∙◌, ap, ℕ, List, ◌++◌}
use Rattle.std.specs.Prelude.{codes}
use Rattle.irr_report.specs.Printed.{numbered}
use Rattle.irr_top.specs.RealFamilies.{row_text}
use Rattle.irr_top.proofs.real.lines.Goals as goal

pub returns : goal.returns
returns c = c.in_ok-extend_from_slice.ensures.items ∙ ap (λ (t : List ℕ). t ++ codes "end\n") (c.in_ok-push_rows.ensures
    ∙ ap (λ (t : List ℕ). t ++ numbered row_text 1 c.args.rows.now) c.in_ok-text.ensures)
