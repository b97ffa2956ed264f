use Rattle.std.proofs.Common.{◌∙◌, ap, ℕ, List, ◌++◌}
use Rattle.std.specs.Prelude.{codes}
use Rattle.std.specs.Fmt.{decimal}
use Rattle.irr_space.specs.Operation.{WaveVector}
use Rattle.irr_text.specs.WaveText.{wave_text}
use Rattle.irr_rat.specs.VectorMeaning.{vector}
use Rattle.irr_site_text.specs.SiteText.{point_text}
use Rattle.irr_site_text.proofs.Texts.{site_parts}
use Rattle.irr_site_text.proofs.push_point.Goals as goal

pub returns : goal.returns
returns c = c.in_ok-extend_from_slice.ensures.items
    ∙ ap (λ (t : List ℕ). c.args.text.now.items ++ t) (c.as_bytes.ensures.value ∙ c.in_ok-format.ensures.ok
    ∙ ap (λ (k : WaveVector). codes "site " ++ (decimal c.args.number ++ (codes " " ++ (wave_text k ++ codes "\n")))) c.row_of-row.ensures)
    ∙ site_parts c.args.text.now.items (decimal c.args.number) (point_text (vector c.args.point.now))
