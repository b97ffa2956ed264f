-- One more dimension.
use Rattle.std.proofs.Common.{◌∙◌, slice_index}
use Rattle.std.proofs.lemmas.List.{get_or_default}
use Rattle.irr_report.proofs.Pieces.{numbered_none, numbered_step}
use Rattle.irr_top.specs.SummaryText.{dim_word}
use Rattle.irr_top.proofs.made.push_dims.Goals as goal

pub loop-dim-init : goal.loop-dim-init
loop-dim-init c = numbered_none dim_word c.args.text.now.items

pub loop-dim-preserved : goal.loop-dim-preserved
loop-dim-preserved c =
    let dims = c.args.dims.now in
    let i = c.loop-dim.dim-index in
    c.in_ok-push_dim.ensures ∙ numbered_step dim_word c.args.text.now.items c.loop-dim.text.items dims i
    (slice_index dims i) c.loop-dim-test.true (get_or_default dims i 0 (slice_index dims i) c.loop-dim-test.true) c.loop-dim.invariant
