-- One more row.
use Rattle.std.proofs.Common.{sym, ◌∙◌, append-nil}
use Rattle.irr_report.proofs.Pieces.{flat_map_step}
use Rattle.irr_compat.specs.Rows.{row_view}
use Rattle.irr_compat_text.specs.Printed.{row_text}
use Rattle.irr_compat_text.proofs.rows.push_rows.Goals as goal

pub loop-row-init : goal.loop-row-init
loop-row-init c = sym (append-nil c.args.text.now.items)

pub loop-row-preserved : goal.loop-row-preserved
loop-row-preserved c = c.in_ok-push_row.ensures ∙ flat_map_step (λ row. row_text (row_view row)) c.args.text.now.items c.loop-row.text.items
    c.args.rows.now c.loop-row.row-index c.row-item.result c.loop-row-test.true c.row-item.is c.loop-row.invariant
