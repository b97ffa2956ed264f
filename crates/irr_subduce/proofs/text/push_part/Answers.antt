-- The parts of the line.
use Rattle.std.proofs.Common.{◌∙◌, ap, ℕ, List, ◌++◌}
use Rattle.std.specs.Fmt.{decimal}
use Rattle.irr_text.specs.WaveText.{wave_text}
use Rattle.irr_kvec.specs.WaveMeaning.{wave_vector}
use Rattle.irr_subduce.proofs.Texts.{part_parts}
use Rattle.irr_subduce.proofs.text.push_part.Goals as goal

pub returns : goal.returns
returns c = c.in_ok-extend_from_slice.ensures.items
    ∙ ap (λ (t : List ℕ). c.args.text.now.items ++ t) (c.as_bytes.ensures.value ∙ c.in_ok-format.ensures.ok)
    ∙ part_parts c.args.text.now.items (wave_text (wave_vector c.args.part.now.wave)) (decimal c.args.part.now.label)
    (decimal c.args.part.now.mult) (decimal c.args.part.now.dim)
