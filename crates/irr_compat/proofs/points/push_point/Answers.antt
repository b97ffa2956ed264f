-- The little group, its list, the turns, and the rows.
use Rattle.std.proofs.Common.{sym, ◌∙◌, ap, subst, ◌≤◌, ◌++◌, List, [], ◌∷◌, length, get_or, map, arith}
use Rattle.std.specs.Int.{◌∣◌}
use native.Mathlib.Nat as Nat
use Rattle.irr_algebra.specs.Fin.{Fin, to_nat}
use Rattle.irr_space.specs.PhaseTable.{phases_at}
use Rattle.irr_rep.specs.Twisted.{phase_table, place_count}
use Rattle.irr_kvec.specs.Centrings.{IsWithinLimits}
use Rattle.irr_kvec.specs.WaveMeaning.{wave_vector}
use Rattle.irr_climb.specs.Families.{AreRead}
use Rattle.irr_climb.specs.Lists.{IsSmallList}
use Rattle.irr_mult.proofs.StarFacts.{order_divides, steps_here}
use Rattle.irr_mult.specs.StarParts.{IsCharacterOf}
use Rattle.irr_mult.specs.declared.star.SmallCharacter.{SmallCharacter}
use Rattle.irr_compat.specs.Parts.{gathered, parts_of}
use Rattle.irr_compat.specs.Rows.{member_row, row_view}
use Rattle.irr_compat.specs.Turns.{AreTurns}
use Rattle.irr_compat.proofs.LinePoints.{order_here, place_of, place-number, point_of_line}
use Rattle.irr_compat.proofs.PointLists.{here_readings, here_relations}
use Rattle.irr_compat.proofs.points.push_point.Goals as goal

pub little_table-requires-clause-limits : goal.little_table-requires-clause-limits
little_table-requires-clause-limits g c = subst IsWithinLimits (sym c.index-points-i.is) (c.requires.limits c.args.i c.index-points-i.result c.requires.place)

pub little_table-requires-clause-order : goal.little_table-requires-clause-order
little_table-requires-clause-order g c =
    let o = order_here c.requires.line c.args.i c.requires.place c.index-points-i.result c.index-points-i.is in
    (o.0, o.1, Nat.le_trans (Nat.le_of_dvd c.args.order.now.positive (subst (λ m. o.0 ∣ m) (sym c.requires.order) o.2)) c.args.order.now.limited)

pub complete_list-requires-clause-steps : goal.complete_list-requires-clause-steps
complete_list-requires-clause-steps g c =
    let o = order_here c.requires.line c.args.i c.requires.place c.index-points-i.result c.index-points-i.is in
    steps_here c.args.group.now c.index-points-i.result c.in_ok-table.table c.in_ok-table.ensures (phase_table c.args.line.now).order o.0 o.1 o.2

pub complete_list-requires-clause-within : goal.complete_list-requires-clause-within
complete_list-requires-clause-within g c =
    let o = order_here c.requires.line c.args.i c.requires.place c.index-points-i.result c.index-points-i.is in
    Nat.le_trans (Nat.le_of_dvd (phase_table c.args.line.now).order_positive
    (order_divides c.args.group.now c.index-points-i.result c.in_ok-table.table c.in_ok-table.ensures (phase_table c.args.line.now).order o.0 o.1 o.2))
    (subst (λ m. m ≤ 12000) c.requires.order c.args.order.now.limited)

pub small_characters-requires : goal.small_characters-requires
small_characters-requires g c =
    let o = order_here c.requires.line c.args.i c.requires.place c.index-points-i.result c.index-points-i.is in
    let t = c.in_ok-table.table in (
      place_count t,
      phase_table t,
      t.places_within,
      subst (λ m. (phase_table t).order ∣ m) (sym c.requires.order)
          (order_divides c.args.group.now c.index-points-i.result t c.in_ok-table.ensures (phase_table c.args.line.now).order o.0 o.1 o.2),
      subst (IsSmallList (phase_table t)) (sym c.deref.ensures.value) c.in_ok-families.ensures,
    )

pub turns-requires-clause-point : goal.turns-requires-clause-point
turns-requires-clause-point g c = point_of_line c.requires.line c.args.i c.requires.place c.index-points-i.result c.index-points-i.is
    (let l = c.requires.place in omega (arith, l)) c.index-points-0.result c.index-points-0.is c.in_ok-table.table c.in_ok-table.ensures

pub push_rows-requires-clause-readings : goal.push_rows-requires-clause-readings
push_rows-requires-clause-readings g c =
    let e = c.requires.line in
    let s = c.in_ok-families.ensures in
    let t = c.in_ok-table.table in
    here_readings e c.args.i c.requires.place c.index-points-i.result c.index-points-i.is (let l = c.requires.place in omega (arith, l)) c.index-points-0.result c.index-points-0.is
    (place_of e c.args.i c.requires.place c.index-points-i.result c.index-points-i.is) (place-number e c.args.i c.requires.place c.index-points-i.result c.index-points-i.is)
    t c.in_ok-table.ensures c.in_ok-families.families.items s c.deref-2.result.now
    (subst (AreTurns c.args.group.now c.args.line.now t (wave_vector c.index-points-0.result) (wave_vector c.index-points-i.result)) (sym c.deref-2.ensures.value) c.in_ok-turns.ensures)
    c.deref-3.result.now c.args.order.now.n c.requires.order
    (ap length c.deref-3.ensures.value ∙ c.in_ok-characters.ensures.count ∙ ap length c.deref.ensures.value ∙ s.read.count)
    (subst (λ (cs : List (SmallCharacter g.row.S.Denot)). (v : (phase_table t).order ∣ c.args.order.now.n) (m : Fin s.list.count) (x : SmallCharacter g.row.S.Denot)
    → IsCharacterOf g.S.Scalar.order_of g.S.Scalar.value (phase_table t) c.args.order.now.n v (s.list.member m) (get_or cs (to_nat m) x)) (sym c.deref-3.ensures.value)
    (λ v m x. c.in_ok-characters.ensures.characters (place_count t) (phase_table t) v s.list
    (subst (AreRead (phase_table t).order (phases_at (phase_table t)) s.list) (sym c.deref.ensures.value) s.read) m x))

pub returns : goal.returns
returns g c = λ e p number.
    let s = c.in_ok-families.ensures in
    let t = c.in_ok-table.table in
    let R = here_relations e c.args.i c.requires.place c.index-points-i.result c.index-points-i.is (let l = c.requires.place in omega (arith, l)) c.index-points-0.result c.index-points-0.is
    p number t c.in_ok-table.ensures c.in_ok-families.families.items s in (
      R,
      c.in_ok-push_rows.ensures e.known.list e.known.characters
          (here_readings e c.args.i c.requires.place c.index-points-i.result c.index-points-i.is (let l = c.requires.place in omega (arith, l)) c.index-points-0.result c.index-points-0.is
          p number t c.in_ok-table.ensures c.in_ok-families.families.items s c.deref-2.result.now
          (subst (AreTurns c.args.group.now c.args.line.now t (wave_vector c.index-points-0.result) (wave_vector c.index-points-i.result)) (sym c.deref-2.ensures.value) c.in_ok-turns.ensures)
          c.deref-3.result.now c.args.order.now.n c.requires.order
          (ap length c.deref-3.ensures.value ∙ c.in_ok-characters.ensures.count ∙ ap length c.deref.ensures.value ∙ s.read.count)
          (subst (λ (cs : List (SmallCharacter g.row.S.Denot)). (v : (phase_table t).order ∣ c.args.order.now.n) (m : Fin s.list.count) (x : SmallCharacter g.row.S.Denot)
          → IsCharacterOf g.S.Scalar.order_of g.S.Scalar.value (phase_table t) c.args.order.now.n v (s.list.member m) (get_or cs (to_nat m) x)) (sym c.deref-3.ensures.value)
          (λ v m x. c.in_ok-characters.ensures.characters (place_count t) (phase_table t) v s.list
          (subst (AreRead (phase_table t).order (phases_at (phase_table t)) s.list) (sym c.deref.ensures.value) s.read) m x)))
          R.mult R.is_mult
          ∙ ap (λ k. map row_view c.args.rows.now.items ++ gathered s.list.count (λ m. member_row k (to_nat m) (s.list.size m) (parts_of (R.mult m) e.known.list.size) ∷ [])) (sym number),
    )
