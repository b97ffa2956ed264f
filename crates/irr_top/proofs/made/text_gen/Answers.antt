-- The parts of the text, one after another.
use Rattle.std.proofs.Common.{◌∙◌, ap, ℕ, List, ◌++◌, length}
use Rattle.std.specs.Fmt.{decimal}
use Rattle.irr_kvec.specs.WaveMeaning.{wave_vector}
use Rattle.irr_rep.specs.Twisted.{phase_table, place_count}
use Rattle.irr_top.specs.SummaryText.{dims_text, head_lines}
use Rattle.irr_top.proofs.SummaryTexts.{summary-joined}
use Rattle.irr_top.proofs.made.text_gen.Goals as goal

pub returns : goal.returns
returns c = summary-joined (head_lines c.args.number c.args.lines (wave_vector c.args.k.now) (phase_table c.args.t.now).order
    (place_count c.args.t.now)) (decimal (length c.args.dims.now)) (dims_text c.args.dims.now) _ _ _ _ c.in_ok-text.ensures
    (c.in_ok-extend_from_slice.ensures.items ∙ ap (λ (t : List ℕ). c.in_ok-text.text.items ++ t)
    (c.as_bytes.ensures.value ∙ c.in_ok-format.ensures.ok))
    c.in_ok-push_dims.ensures c.in_ok-extend_from_slice-2.ensures.items
