-- One more operation.
use Rattle.std.proofs.Common.{◌≡◌, sym, ◌∙◌, ap, subst, ℕ, ◌+◌, ◌<◌, ◌≤◌, ◌++◌, List, length, get_or, take, slice_index, arith}
use Rattle.std.proofs.lemmas.List.{get_or_default, take_all}
use Rattle.irr_seitz.specs.OperationMeaning.{operation}
use Rattle.irr_seitz.specs.declared.op.Op.{Op}
use Rattle.irr_rep.specs.Twisted.{operation_places}
use Rattle.irr_report.specs.Printed.{numbered, operation_text}
use Rattle.irr_compat_text.specs.Printed.{place_line}
use Rattle.irr_compat_text.proofs.Numbers.{numbered_first, numbered_next}
use Rattle.irr_compat_text.proofs.lines.push_places.Goals as goal

pub loop-i-init : goal.loop-i-init
loop-i-init c = λ d. numbered_first (place_line c.args.ops.now d) 1 c.args.text.now.items

pub bounds-ops-number : goal.bounds-ops-number
bounds-ops-number c =
    let size = c.args.line.now.places.ok.0 in
    let l : c.loop-i.i < length (operation_places c.args.line.now) = omega (arith, size, c.loop-i-test.true, c.len-i-end.ensures.count) in
    subst (λ p. p < length c.args.ops.now) (sym c.place-number.ensures) (c.requires c.loop-i.i 0 l)

pub loop-i-preserved : goal.loop-i-preserved
loop-i-preserved c = λ d.
    let size = c.args.line.now.places.ok.0 in
    let l : c.loop-i.i < length (operation_places c.args.line.now) = omega (arith, size, c.loop-i-test.true, c.len-i-end.ensures.count) in
    let p = c.place-number.result in
    let below : p < length c.args.ops.now = subst (λ q. q < length c.args.ops.now) (sym c.place-number.ensures) (c.requires c.loop-i.i 0 l) in
    c.in_ok-push_operation.ensures
    ∙ ap (λ (g : Op). c.loop-i.text.items ++ operation_text (c.loop-i.i + 1) g) (c.index-ops-number.is ∙ get_or_default c.args.ops.now p c.index-ops-number.result d below)
    ∙ numbered_next (place_line c.args.ops.now d) 1 c.args.text.now.items c.loop-i.text.items (operation_places c.args.line.now) c.loop-i.i (c.loop-i.i + 1) p (omega arith) l
    (c.place-number.ensures ∙ get_or_default (operation_places c.args.line.now) c.loop-i.i 0 p l) (c.loop-i.invariant d)

pub returns : goal.returns
returns c = λ d.
    let size = c.args.line.now.places.ok.0 in
    c.loop-i.invariant d ∙ ap (λ xs. c.args.text.now.items ++ numbered (place_line c.args.ops.now d) 1 xs)
    (take_all c.loop-i.i (operation_places c.args.line.now) (omega (arith, size, c.loop-i-test.false, c.len-i-end.ensures.count)))
