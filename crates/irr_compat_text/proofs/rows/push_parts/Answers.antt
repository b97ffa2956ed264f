-- One more part.
use Rattle.std.proofs.Common.{sym, ◌∙◌, append-nil, get_or}
use Rattle.std.proofs.lemmas.List.{get_or_default}
use Rattle.irr_report.proofs.Pieces.{flat_map_step}
use Rattle.irr_compat.specs.declared.table.LinePart.{LinePart}
use Rattle.irr_compat_text.specs.Printed.{part_text}
use Rattle.irr_compat_text.proofs.rows.push_parts.Goals as goal

-- past the end
none : LinePart
none = record { label = 0; mult = 0; dim = 0 }

pub loop-part-init : goal.loop-part-init
loop-part-init c = sym (append-nil c.args.text.now.items)

pub loop-part-preserved : goal.loop-part-preserved
unfolding none
loop-part-preserved c =
    let parts = c.args.parts.now in
    let i = c.loop-part.part-index in
    c.in_ok-push_part.ensures ∙ flat_map_step part_text c.args.text.now.items c.loop-part.text.items parts i (get_or parts i none)
    c.loop-part-test.true (get_or_default parts i none (get_or parts i none) c.loop-part-test.true) c.loop-part.invariant
