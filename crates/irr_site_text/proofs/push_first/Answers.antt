use Rattle.std.proofs.Common.{◌∙◌, ap, ℕ, List, ◌++◌}
use Rattle.std.specs.Prelude.{codes}
use Rattle.std.specs.Fmt.{decimal}
use Rattle.irr_text.specs.WaveText.{wave_text}
use Rattle.irr_rat.specs.VectorMeaning.{vector}
use Rattle.irr_space.specs.Operation.{WaveVector}
use Rattle.irr_kvec.specs.WaveMeaning.{wave_vector}
use Rattle.irr_site_text.specs.SiteText.{point_text}
use Rattle.irr_site_text.proofs.Texts.{first_parts}
use Rattle.irr_site_text.proofs.push_first.Goals as goal

pub returns : goal.returns
returns c = c.in_ok-extend_from_slice.ensures.items
    ∙ ap (λ (t : List ℕ). c.args.text.now.items ++ t) (c.as_bytes.ensures.value ∙ c.in_ok-format.ensures.ok
    ∙ ap (λ (k : WaveVector). codes "order " ++ (decimal c.args.order ++ (codes "\nwave " ++ (wave_text (wave_vector c.args.wave.now)
    ++ (codes "\npoint " ++ (wave_text k ++ codes "\n")))))) c.row_of-row.ensures)
    ∙ first_parts c.args.text.now.items (decimal c.args.order) (wave_text (wave_vector c.args.wave.now)) (point_text (vector c.args.x.now))
