-- One more line.
use Rattle.std.proofs.Common.{◌∙◌, pos, get_or}
use Rattle.std.proofs.lemmas.List.{get_or_default}
use Rattle.irr_report.proofs.Pieces.{numbered_none, numbered_step}
use Rattle.irr_top.specs.RealFamilies.{row_text}
use Rattle.irr_top.specs.declared.real.TypedRep.{TypedRep}
use Rattle.irr_top.proofs.real.push_rows.Goals as goal

none : TypedRep
none = record { dim = 0; kind = pos 0 }

pub loop-i-init : goal.loop-i-init
loop-i-init c = numbered_none row_text c.args.text.now.items

pub loop-i-preserved : goal.loop-i-preserved
unfolding none
loop-i-preserved c =
    let rows = c.args.rows.now in
    let i = c.loop-i.i in
    c.in_ok-push_row.ensures ∙ numbered_step row_text c.args.text.now.items c.loop-i.text.items rows i
    (get_or rows i none) c.loop-i-test.true
    (get_or_default rows i none (get_or rows i none) c.loop-i-test.true) c.loop-i.invariant
