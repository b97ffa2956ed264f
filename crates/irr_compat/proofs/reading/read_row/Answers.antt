-- Number by number.
use Rattle.std.proofs.Common.{rules, ◌≡◌, sym, subst, ◌<◌, length, get_or}
use Rattle.std.proofs.lemmas.List.{get_or_default}
use Rattle.irr_char.proofs.AverageTerms.{item-small}
use Rattle.irr_compat.specs.declared.turns.Turn.{Turn}
use Rattle.irr_compat.proofs.Powers.{few_denominator, few_size}
use Rattle.irr_compat.proofs.ReadRows.{RowSoFar, row_none, row_more, row_all}
use Rattle.irr_compat.proofs.reading.read_row.Goals as goal

none : Turn
none = record { place = 0; exponent = 0 }

pub loop-turn-init : goal.loop-turn-init
loop-turn-init g c = subst (RowSoFar g.S.Scalar.order_of g.S.Scalar.value c.args.order.now.n c.args.turns.now c.args.row.now 0) (sym c.new-made.ensures.items)
    (row_none g.S.Scalar.order_of g.S.Scalar.value c.args.order.now.n c.args.turns.now c.args.row.now)

pub turned-requires-clause-denominator : goal.turned-requires-clause-denominator
unfolding none
turned-requires-clause-denominator g c =
    let r = c.requires in
    let below : (get_or c.args.turns.now c.loop-turn.turn-index none).place < r.0 = r.2 c.loop-turn.turn-index none c.loop-turn-test.true in
    few_denominator c.args.order.now.n 48 (g.S.Scalar.value c.args.order.now.n c.index-row-turn.result) c.args.order.now.positive
    (item-small g.S.Scalar.order_of g.S.Scalar.value c.args.order.now.n r.0 c.args.row.now r.1 (get_or c.args.turns.now c.loop-turn.turn-index none).place below c.index-row-turn.result c.index-row-turn.is)

pub turned-requires-clause-size : goal.turned-requires-clause-size
unfolding none
turned-requires-clause-size g c =
    let r = c.requires in
    let below : (get_or c.args.turns.now c.loop-turn.turn-index none).place < r.0 = r.2 c.loop-turn.turn-index none c.loop-turn-test.true in
    few_size c.args.order.now.n (g.S.Scalar.value c.args.order.now.n c.index-row-turn.result) c.args.order.now.positive c.args.order.now.limited
    (item-small g.S.Scalar.order_of g.S.Scalar.value c.args.order.now.n r.0 c.args.row.now r.1 (get_or c.args.turns.now c.loop-turn.turn-index none).place below c.index-row-turn.result c.index-row-turn.is)

pub loop-turn-preserved : goal.loop-turn-preserved
unfolding none
loop-turn-preserved g c =
    let r = c.requires in
    let below : (get_or c.args.turns.now c.loop-turn.turn-index none).place < r.0 = r.2 c.loop-turn.turn-index none c.loop-turn-test.true in
    row_more g.S.Scalar.order_of g.S.Scalar.value c.args.order.now.n c.args.turns.now c.args.row.now c.loop-turn.turn-index c.loop-turn-test.true
    (get_or c.args.turns.now c.loop-turn.turn-index none)
    (get_or_default c.args.turns.now c.loop-turn.turn-index none (get_or c.args.turns.now c.loop-turn.turn-index none) c.loop-turn-test.true) c.index-row-turn.result c.in_ok-number.number c.index-row-turn.is (subst (λ m. (get_or c.args.turns.now c.loop-turn.turn-index none).place < m) (sym r.1.count) below)
    c.in_ok-number.ensures.order c.in_ok-number.ensures.value c.loop-turn.made.items c.push.new.self.items c.in_ok-push.ensures.items c.loop-turn.invariant

pub returns : goal.returns
returns g c h m f g' row by =
    let r = c.requires in
    let done : c.loop-turn.turn-index ≡ length c.args.turns.now = search rules in
    row_all g.S.Scalar.order_of g.S.Scalar.value c.args.order.now.n c.args.turns.now c.args.row.now c.loop-turn.turn-index done c.loop-turn.made.items c.loop-turn.invariant
    h m f g' row (λ i t l. subst (λ n. (get_or c.args.turns.now i t).place < n) (sym r.1.count) (r.2 i t l)) by
