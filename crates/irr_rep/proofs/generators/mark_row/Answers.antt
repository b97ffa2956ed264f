-- One product more.
use Rattle.std.proofs.Common.{sym, ◌∙◌, subst, ◌<◌, length, slice_index, Contains}
use Rattle.std.proofs.lemmas.List.{get_or_default}
use Rattle.std.proofs.lemmas.List.Elements.{All-get_or}
use Rattle.irr_rep.specs.Generators.{Grows}
use Rattle.irr_rep.specs.Twisted.{phase_table, place_count}
use Rattle.irr_rep.proofs.Markings.{grows-join, grows-product, grows-same}
use Rattle.irr_rep.proofs.generators.mark_row.Goals as goal

pub loop-g-init : goal.loop-g-init
loop-g-init c = grows-same (phase_table c.args.t.now) c.args.generators.now c.args.marks.now

pub loop-g-preserved : goal.loop-g-preserved
loop-g-preserved c =
    let T = phase_table c.args.t.now in
    let places = c.args.generators.now in
    let h = place_count c.args.t.now in
    let k = c.loop-g.g-index in
    let within : k < length places = c.loop-g-test.true in
    let below : slice_index places k < h = All-get_or (λ g. g < h) places k 0 within c.requires.below in
    let inside : Contains places (slice_index places k) = (k, within, get_or_default places k (slice_index places k) 0 within) in
    grows-join T places c.args.marks.now c.loop-g.marks c.mark.new.marks c.loop-g.invariant
    (subst (Grows T places c.loop-g.marks) (sym c.mark.ensures.marked)
    (grows-product T places c.loop-g.marks c.args.i (slice_index places k) c.table.result c.requires.place below
    (c.loop-g.invariant.count ∙ c.requires.count) (c.loop-g.invariant.kept c.args.i c.if-not-marks-i.false) inside c.table.ensures.product))
