-- One more entry of the row.
use Rattle.std.proofs.Common.{◌∙◌, ◌*◌, drop}
use Rattle.irr_report.proofs.Pieces.{row_item}
use Rattle.irr_report.proofs.LineTexts.{values_none, values_step}
use Rattle.irr_report.proofs.lines.push_row.Goals as goal

pub loop-j-init : goal.loop-j-init
loop-j-init g c = values_none g.S.Scalar.order_of g.S.Scalar.value c.args.text.now.items

pub loop-j-preserved : goal.loop-j-preserved
loop-j-preserved g c = let m = c.args.m.now in
    let item = row_item m.entries.items c.args.i m.cols c.loop-j.j c.at.result.now c.at.ensures.place in
    c.in_ok-push_value.ensures ∙ values_step g.S.Scalar.order_of g.S.Scalar.value c.args.text.now.items c.loop-j.text.items
    (drop (c.args.i * m.cols) m.entries.items)
    c.loop-j.j c.at.result.now item.0 item.1 c.loop-j.invariant
