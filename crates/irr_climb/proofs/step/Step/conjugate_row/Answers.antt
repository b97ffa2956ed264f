-- The order of the row, and one number more.
use Rattle.std.proofs.Common.{◌≡◌, ◌≤◌, sym, ◌∙◌, subst, map, rules}
use Rattle.irr_algebra.specs.Fin.{Fin, to_nat}
use Rattle.irr_number.specs.Number.{numbers}
use Rattle.irr_level.specs.Scalar.{conjugate_exponent, phase_number}
use Rattle.irr_rep.specs.Twisted.{phase_table, place_count}
use Rattle.irr_char.specs.Characters.{IsSmallRow}
use Rattle.irr_char.specs.Rows.{row_of}
use Rattle.irr_root.proofs.TurnedTraces.{own_order}
use Rattle.irr_climb.specs.Steps.{IsStep}
use Rattle.irr_climb.proofs.RowMade.{numbers_all, numbers_more, numbers_none}
use Rattle.irr_climb.proofs.TurnedRows.{same_order, turned, turned_conjugate, turned_small}
use Rattle.irr_climb.proofs.step.Step.conjugate_row.Goals as goal

pub new-requires-clause-limited : goal.new-requires-clause-limited
new-requires-clause-limited g c =
    let x = c.index-row-0.result in
    subst (λ k. k ≤ 12000) (sym c.order.ensures) (g.met.S.Scalar.admitted_limited (g.S.Scalar.order_of x) (g.met.S.Scalar.order_admitted x))

pub conjugate_entry-requires-clause-step : goal.conjugate_entry-requires-clause-step
conjugate_entry-requires-clause-step g c =
    let step = c.args.self.now in
    subst (λ k. IsStep k step)
    (sym (own_order g.S.Scalar.order_of g.S.Scalar.value c.requires.0 (place_count step.inner) c.args.row.now c.requires.2 step.inner.not_empty
    c.index-row-0.result
    c.index-row-0.is c.in_ok-order.order.n c.order.result c.in_ok-order.ensures c.order.ensures)) c.requires.1

pub conjugate_entry-requires-clause-row : goal.conjugate_entry-requires-clause-row
conjugate_entry-requires-clause-row g c =
    let step = c.args.self.now in
    subst (λ k. IsSmallRow g.S.Scalar.order_of g.S.Scalar.value k (place_count step.inner) c.args.row.now)
    (sym (own_order g.S.Scalar.order_of g.S.Scalar.value c.requires.0 (place_count step.inner) c.args.row.now c.requires.2 step.inner.not_empty
    c.index-row-0.result
    c.index-row-0.is c.in_ok-order.order.n c.order.result c.in_ok-order.ensures c.order.ensures)) c.requires.2

pub loop-i-init : goal.loop-i-init
loop-i-init g c M is few =
    numbers_none g.S.Scalar.order_of g.S.Scalar.value M (turned g.S.Scalar.order_of g.S.Scalar.value is c.args.row.now)
    c.new-conjugate.result.items c.new-conjugate.ensures.items

pub loop-i-preserved : goal.loop-i-preserved
loop-i-preserved g c M is few =
    let order = g.S.Scalar.order_of in
    let value = g.S.Scalar.value in
    let step = c.args.self.now in
    let row = c.args.row.now in
    let entry = c.in_ok-entry.entry in
    let same = own_order order value M (place_count step.inner) row few step.inner.not_empty c.index-row-0.result
    c.index-row-0.is c.in_ok-order.order.n c.order.result c.in_ok-order.ensures c.order.ensures in
    numbers_more order value M (turned order value is row) c.loop-i.i c.loop-i.conjugate.items c.push.new.self.items entry
    (c.loop-i.invariant M is few)
    c.in_ok-push.ensures.items (c.in_ok-entry.ensures.order ∙ same)
    (subst (λ k. (is : IsStep k step) (p : Fin (place_count step.inner)) → to_nat p ≡ c.loop-i.i → value k entry ≡ (numbers k).mul
    (phase_number (phase_table step.outer) k (conjugate_exponent (phase_table step.outer) (is.part.place p) is.quotient.generator
    (is.part.place (is.quotient.conj p)))) (row_of k (map (value k) row) (is.quotient.conj p))) same c.in_ok-entry.ensures.value is)

pub returns-clause-small : goal.returns-clause-small
returns-clause-small g c M is few =
    let order = g.S.Scalar.order_of in
    let value = g.S.Scalar.value in
    let done : c.loop-i.i ≡ place_count c.args.self.now.inner = search rules in
    turned_small order value is c.args.row.now few c.loop-i.conjugate.items
    (numbers_all order value M (turned order value is c.args.row.now) c.loop-i.i c.loop-i.conjugate.items (c.loop-i.invariant M is few) done)

pub returns-clause-conjugate : goal.returns-clause-conjugate
returns-clause-conjugate g c M is d D traces =
    let order = g.S.Scalar.order_of in
    let value = g.S.Scalar.value in
    let step = c.args.self.now in
    let row = c.args.row.now in
    let done : c.loop-i.i ≡ place_count step.inner = search rules in
    let few = same_order order value row c.requires.0 M _ step.inner.not_empty c.index-row-0.result c.index-row-0.is c.requires.2 traces in
    turned_conjugate order value is row D traces c.loop-i.conjugate.items
    (numbers_all order value M (turned order value is row) c.loop-i.i c.loop-i.conjugate.items (c.loop-i.invariant M is few) done)
