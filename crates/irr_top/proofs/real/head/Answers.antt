-- The parts of the lines.
use Rattle.std.proofs.Common.{◌∙◌, ap, ℕ, Vec, Global}
use Rattle.std.specs.Fmt.{decimal}
use Rattle.irr_text.specs.WaveText.{wave_text}
use Rattle.irr_kvec.specs.WaveMeaning.{wave_vector}
use Rattle.irr_top.proofs.RealTexts.{head-parts}
use Rattle.irr_top.proofs.real.head.Goals as goal

pub returns : goal.returns
returns c = ap (λ (v : Vec ℕ Global). v.items) c.into_bytes.ensures.value ∙ c.in_ok-text.ensures.ok
    ∙ head-parts (wave_text (wave_vector c.args.wave.now)) (decimal c.args.order) (decimal c.args.count)
