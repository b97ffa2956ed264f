-- Row by row.
use Rattle.std.proofs.Common.{rules, ◌≡◌, ◌∙◌, ◌+◌, ◌<◌, [], ◌∷◌, length, map, arith}
use Rattle.irr_algebra.specs.Fin.{to_nat}
use Rattle.irr_rep.specs.Twisted.{phase_table}
use Rattle.irr_compat.specs.Parts.{parts_of}
use Rattle.irr_compat.specs.Rows.{member_row, row_view}
use Rattle.irr_compat.proofs.Gathering.{gathered_none, gathered_step, gathered_all}
use Rattle.irr_compat.proofs.Rows.{row_pushed, view_same, own, own-number, character_here, asked_row, read_here}
use Rattle.irr_compat.proofs.points.push_rows.Goals as goal

pub loop-m-init : goal.loop-m-init
loop-m-init g c = λ L are e q dimension. gathered_none (map row_view c.args.rows.now.items) (λ m. member_row c.args.point (to_nat m) (e.members.size m) (parts_of (q m) L.size) ∷ [])

pub read_row-requires : goal.read_row-requires
read_row-requires g c =
    let l : c.loop-m.m < length c.args.characters.now = search rules in
    asked_row g.S.Scalar.order_of g.S.Scalar.value (phase_table c.args.line.now) c.args.turns.now c.args.characters.now c.requires.readings c.loop-m.m l
    c.index-characters-m.result c.index-characters-m.is c.args.order.now.n c.requires.order c.as_slice.result.now c.as_slice.ensures.value

pub line_parts-requires : goal.line_parts-requires
line_parts-requires g c =
    let order = g.S.Scalar.order_of in
    let value = g.S.Scalar.value in
    let T = phase_table c.args.line.now in
    let e = c.requires.readings in
    let l : c.loop-m.m < length c.args.characters.now = search rules in
    let x = c.index-characters-m.result in
    let is = c.index-characters-m.is in
    let m = own order value T c.args.turns.now c.args.characters.now e c.loop-m.m l x is in (
      c.requires.members.0,
      c.requires.members.1,
      e.members.size m,
      e.reading m,
      e.small m,
      read_here order value T c.args.turns.now c.args.characters.now e c.loop-m.m l x is c.args.order.now.n c.requires.order c.as_slice.result.now c.as_slice.ensures.value
          c.in_ok-row.row.items c.in_ok-row.ensures c.as_slice-in-loop-m.result.now c.as_slice-in-loop-m.ensures.value,
    )

pub loop-m-preserved : goal.loop-m-preserved
loop-m-preserved g c = λ L are e q dimension.
    let order = g.S.Scalar.order_of in
    let value = g.S.Scalar.value in
    let T = phase_table c.args.line.now in
    let l : c.loop-m.m < length c.args.characters.now = search rules in
    let x = c.index-characters-m.result in
    let is = c.index-characters-m.is in
    let m = own order value T c.args.turns.now c.args.characters.now e c.loop-m.m l x is in
    let number = own-number order value T c.args.turns.now c.args.characters.now e c.loop-m.m l x is in
    row_pushed c.loop-m.rows.items c.push.new.self.items _ (member_row c.args.point (to_nat m) (e.members.size m) (parts_of (q m) L.size)) c.in_ok-push.ensures.items
    (view_same c.args.point (c.loop-m.m + 1) (to_nat m) x.dim (e.members.size m) c.in_ok-parts.parts.items (parts_of (q m) L.size) (omega (arith, number))
    (character_here order value T c.args.turns.now c.args.characters.now e c.loop-m.m l x is).size
    (c.in_ok-parts.ensures L are (e.members.size m) (e.reading m) (e.small m)
    (read_here order value T c.args.turns.now c.args.characters.now e c.loop-m.m l x is c.args.order.now.n c.requires.order c.as_slice.result.now c.as_slice.ensures.value
    c.in_ok-row.row.items c.in_ok-row.ensures c.as_slice-in-loop-m.result.now c.as_slice-in-loop-m.ensures.value) (q m) (dimension m)))
    ∙ gathered_step (map row_view c.args.rows.now.items) (λ j. member_row c.args.point (to_nat j) (e.members.size j) (parts_of (q j) L.size) ∷ [])
    (map row_view c.loop-m.rows.items) c.loop-m.m m number (c.loop-m.invariant L are e q dimension)

pub returns : goal.returns
returns g c = λ L are e q dimension.
    let done : c.loop-m.m ≡ length c.args.characters.now = search rules in
    gathered_all (map row_view c.args.rows.now.items) (λ m. member_row c.args.point (to_nat m) (e.members.size m) (parts_of (q m) L.size) ∷ []) (map row_view c.loop-m.rows.items) c.loop-m.m
    (let s = e.count in omega (arith, done, s)) (c.loop-m.invariant L are e q dimension)
