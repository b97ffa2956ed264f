-- The parts of the lines.
use Rattle.std.proofs.Common.{◌∙◌, ap, ap₂, ℕ, List, ◌++◌, Vec, Global}
use Rattle.std.specs.Fmt.{decimal}
use Rattle.irr_text.specs.WaveText.{wave_text}
use Rattle.irr_kvec.specs.WaveMeaning.{wave_vector}
use Rattle.irr_top.specs.SummaryText.{head_lines}
use Rattle.irr_top.proofs.SummaryTexts.{head-joined}
use Rattle.irr_top.proofs.made.head.Goals as goal

pub returns : goal.returns
returns c = head-joined (decimal c.args.number) (decimal c.args.lines) (wave_text (wave_vector c.args.wave.now))
    (decimal c.order-order.result) (decimal c.len-count.result) _ _
    (ap (λ (v : Vec ℕ Global). v.items) c.into_bytes-text.ensures.value ∙ c.in_ok-format.ensures.ok)
    (c.in_ok-extend_from_slice.ensures.items ∙ ap (λ (t : List ℕ). c.into_bytes-text.result.items ++ t)
    (c.as_bytes.ensures.value ∙ c.in_ok-format-2.ensures.ok))
    ∙ ap₂ (λ (o p : ℕ). head_lines c.args.number c.args.lines (wave_vector c.args.wave.now) o p) c.order-order.ensures.order
    c.len-count.ensures.count
