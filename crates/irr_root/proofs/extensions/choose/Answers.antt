-- The family's own traces and the positions of its members.
use Rattle.std.proofs.Common.{◌≡◌, refl, sym, ◌∙◌, ap, subst, ◌<◌, ◌≤◌, length, arith}
use Rattle.irr_algebra.specs.Matrix.{trace}
use Rattle.irr_algebra.specs.Fin.{Fin}
use Rattle.irr_rep.specs.Family.{HasShape}
use Rattle.irr_rep.specs.Twisted.{phase_table, place_count}
use Rattle.irr_char.specs.Characters.{IsRowOf}
use Rattle.irr_root.specs.Choice.{AreChosen, IsChoice}
use Rattle.irr_root.specs.Positions.{ArePositionsIn}
use Rattle.irr_root.proofs.MadeChoices.{choice-made, members-distinct, row-of}
use Rattle.irr_root.proofs.ProductTerms.{row_order}
use Rattle.irr_root.proofs.extensions.choose.Goals as goal

pub character-requires-clause-shape : goal.character-requires-clause-shape
character-requires-clause-shape g c =
    let made = c.requires.family.5 in
    let mats = c.args.f.now.mats.items in
    let shape = subst (λ e. HasShape c.requires.family.0 (place_count c.args.inner.now) e mats) (sym made.size) made.shape in
    (c.requires.family.0, subst (λ h. HasShape c.requires.family.0 h c.args.f.now.dim mats) (sym shape.count) shape)

pub positions_of-requires-clause-distinct : goal.positions_of-requires-clause-distinct
positions_of-requires-clause-distinct g c = members-distinct c.requires.family.1

pub positions_of-requires-clause-not_empty : goal.positions_of-requires-clause-not_empty
positions_of-requires-clause-not_empty g c = subst (λ l. 0 < l) (sym c.requires.family.1.count) c.args.inner.now.not_empty

pub positions_of-requires-clause-few : goal.positions_of-requires-clause-few
positions_of-requires-clause-few g c = subst (λ l. l ≤ 48) (sym c.requires.family.1.count) c.args.inner.now.places_within

pub bounds-row-0 : goal.bounds-row-0
bounds-row-0 g c =
    let made = c.requires.family.5 in
    let mats = c.args.f.now.mats.items in
    let shape = subst (λ e. HasShape c.requires.family.0 (place_count c.args.inner.now) e mats) (sym made.size) made.shape in
    let r = c.in_ok-traces.ensures c.requires.family.0 (place_count c.args.inner.now) shape in
    let count : length c.as_slice-row.result.now ≡ place_count c.args.inner.now = ap length c.as_slice-row.ensures.value ∙ r.count in
    let some : 0 < place_count c.args.inner.now = c.args.inner.now.not_empty in
    omega (arith, count, some)

pub chosen_traces-requires-clause-choice : goal.chosen_traces-requires-clause-choice
chosen_traces-requires-clause-choice g c =
    let order = g.S.Scalar.order_of in
    let value = g.S.Scalar.value in
    let M = c.requires.family.0 in
    let step = c.requires.family.1 in
    let D = c.requires.family.3 in
    let fixed = c.requires.family.4 in
    let made = c.requires.family.5 in
    let f = c.args.f.now in
    let k = place_count c.args.inner.now in
    let few : k ≤ 48 = c.args.inner.now.places_within in
    let row = c.as_slice-row.result.now in
    let list = c.as_slice-list.result.now in
    let shape = subst (λ e. HasShape M k e f.mats.items) (sym made.size) made.shape in
    let is = subst (IsRowOf {h = k} order value M (λ i. trace (D.at i))) (sym c.as_slice-row.ensures.value)
    (row-of step D fixed f made few c.in_ok-traces.traces.items (c.in_ok-traces.ensures M k shape)) in
    let are = subst (ArePositionsIn c.args.members.now (place_count c.args.t.now))
    (sym c.as_slice-list.ensures.value) c.in_ok-positions.ensures.positions in
    let own = row_order order value M (λ (i : Fin k). trace
    (D.at i)) row is c.args.inner.now.not_empty refl c.index-row-0.result c.index-row-0.is c.in_ok-order.order.n
    c.order.result c.in_ok-order.ensures c.order.ensures in
    subst (λ n. IsChoice order value n (phase_table c.args.t.now)
    (phase_table c.args.inner.now) c.args.members.now c.args.p c.args.g f.dim list row) (sym own)
    (subst (λ e. IsChoice order value M (phase_table c.args.t.now) (phase_table c.args.inner.now) c.args.members.now c.args.p c.args.g e list row)
    (sym made.size)
    (choice-made step D fixed f made few list are row is))

pub returns : goal.returns
returns g c M step d D fixed made =
    let order = g.S.Scalar.order_of in
    let value = g.S.Scalar.value in
    let f = c.args.f.now in
    let k = place_count c.args.inner.now in
    let few : k ≤ 48 = c.args.inner.now.places_within in
    let row = c.as_slice-row.result.now in
    let list = c.as_slice-list.result.now in
    let xs = c.in_ok-chosen.chosen.items in
    let shape = subst (λ e. HasShape M k e f.mats.items) (sym made.size) made.shape in
    let is = subst (IsRowOf {h = k} order value M (λ i. trace (D.at i))) (sym c.as_slice-row.ensures.value)
    (row-of step D fixed f made few c.in_ok-traces.traces.items (c.in_ok-traces.ensures M k shape)) in
    let are = subst (ArePositionsIn c.args.members.now (place_count c.args.t.now))
    (sym c.as_slice-list.ensures.value) c.in_ok-positions.ensures.positions in
    let own = row_order order value M (λ (i : Fin k). trace
    (D.at i)) row is c.args.inner.now.not_empty refl c.index-row-0.result c.index-row-0.is c.in_ok-order.order.n
    c.order.result c.in_ok-order.ensures c.order.ensures in
    let at_order = subst (λ n. (d : IsChoice order value n (phase_table c.args.t.now)
    (phase_table c.args.inner.now) c.args.members.now c.args.p c.args.g f.dim list row)
    → AreChosen d xs) own c.in_ok-chosen.ensures in
    let at_size = subst (λ e. (d : IsChoice order value M (phase_table c.args.t.now)
    (phase_table c.args.inner.now) c.args.members.now c.args.p c.args.g e list row)
    → AreChosen d xs) made.size at_order in
    let a = at_size (choice-made step D fixed f made few list are row is) in
    (a.trace_at, a.extension, a.is_row)
