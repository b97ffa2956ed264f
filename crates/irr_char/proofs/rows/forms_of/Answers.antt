-- One more form, and all of them.
use Rattle.std.proofs.Common.{rules, ◌≡◌, ◌<◌, length}
use Rattle.irr_char.proofs.MadeForms.{forms-more, forms-all}
use Rattle.irr_char.proofs.rows.forms_of.Goals as goal

pub loop-x-preserved : goal.loop-x-preserved
loop-x-preserved g c =
    let l : c.loop-x.x-index < length c.args.row.now = search rules in
    forms-more g.S.Scalar.order_of g.S.Scalar.value c.args.row.now c.loop-x.forms.items c.push.new.self.items c.loop-x.x-index c.x-item.result
    c.in_ok-form_of.field-0
    c.loop-x.invariant l c.x-item.is c.in_ok-push.ensures.items c.in_ok-form_of.ensures

pub returns : goal.returns
returns g c n h s o =
    let e : c.loop-x.x-index ≡ length c.args.row.now = search rules in
    forms-all g.S.Scalar.order_of g.S.Scalar.value c.args.row.now c.loop-x.forms.items c.loop-x.x-index c.loop-x.invariant e n h s o
