-- The families over one more member, and all of them.
use Rattle.std.proofs.Common.{◌≡◌, ◌<◌, ◌≤◌, ◌+◌, ◌++◌, sym, ◌∙◌, ap, subst, ℕ, suc, List, length, map, arith, rules}
use native.Mathlib.Nat as Nat
use Rattle.std.proofs.lemmas.List.Elements.{All-append, All-nil}
use Rattle.irr_algebra.specs.Fin.{to_nat}
use Rattle.irr_algebra.proofs.Indices.{from_nat, to_nat-from_nat}
use Rattle.irr_rep.specs.declared.family.Family.{Family}
use Rattle.irr_rep.specs.Twisted.{phase_table, place_count}
use Rattle.irr_climb.specs.Families.{AreRows}
use Rattle.irr_climb.specs.Lists.{IsFullyRead}
use Rattle.irr_climb.specs.Sizes.{AreSized, IsSized}
use Rattle.irr_climb.specs.Steps.{AreTurns, IsStepOf, small}
use Rattle.irr_climb.proofs.ClimbedLevel.{end_list, few_members, start_list, start_sized}
use Rattle.irr_climb.proofs.FamilyLists.{AreFirst, first_all, first_more, first_none}
use Rattle.irr_climb.proofs.OverMember.{over_at}
use Rattle.irr_climb.proofs.climb.climb.Goals as goal

pub characters-requires : goal.characters-requires
characters-requires g c =
    let T = phase_table c.args.t.now in
    let step = c.in_ok-step.step in
    let is = c.in_ok-step.ensures T.order (Nat.dvd_refl T.order) T.order_positive in
    let start = start_list T c.args.level.now c.args.outer.now step is c.args.families.now c.requires.list in (
      T.order,
      small is.is_step,
      start.list,
      start.full,
      start.read,
      start_sized T c.args.level.now c.args.outer.now step is c.args.families.now c.requires.list,
      step.inner.places_within,
    )

pub turns-requires : goal.turns-requires
turns-requires g c =
    let T = phase_table c.args.t.now in
    let step = c.in_ok-step.step in
    let is = c.in_ok-step.ensures T.order (Nat.dvd_refl T.order) T.order_positive in
    let start = start_list T c.args.level.now c.args.outer.now step is c.args.families.now c.requires.list in (
      T.order,
      is.is_step,
      start.list,
      start.full,
      subst (λ xs. AreRows g.S.Scalar.order_of g.S.Scalar.value T.order (small is.is_step) start.list (map (λ row. row.items) xs))
          (sym c.as_slice.ensures.value)
          (c.in_ok-rows.ensures T.order (small is.is_step) start.list start.read),
    )

pub overflow_cast-l-end : goal.overflow_cast-l-end
overflow_cast-l-end g c =
    let T = phase_table c.args.t.now in
    let step = c.in_ok-step.step in
    let is = c.in_ok-step.ensures T.order (Nat.dvd_refl T.order) T.order_positive in
    let start = start_list T c.args.level.now c.args.outer.now step is c.args.families.now c.requires.list in
    omega (arith, start.read.count, few_members start.list start.full, step.inner.places_within)

pub loop-l-init : goal.loop-l-init
loop-l-init g c = record {
  first = λ M is L full read turns sized.
      subst (λ fs. AreFirst is.is_step L turns.turn 0 fs) (sym c.new-climbed.ensures.items) (first_none is.is_step L turns.turn);
  sized = subst (λ fs. AreSized (phase_table c.args.t.now).order (place_count c.in_ok-step.step.outer) fs) (sym c.new-climbed.ensures.items)
      (All-nil (λ (f : Family g.row.S.Denot g.S.Scalar). IsSized (phase_table c.args.t.now).order (place_count c.in_ok-step.step.outer) f));
}

pub families_over-requires-clause-list : goal.families_over-requires-clause-list
families_over-requires-clause-list g c =
    let T = phase_table c.args.t.now in
    let step = c.in_ok-step.step in
    let is = c.in_ok-step.ensures T.order (Nat.dvd_refl T.order) T.order_positive in
    let start = start_list T c.args.level.now c.args.outer.now step is c.args.families.now c.requires.list in
    let rows = subst (λ xs. AreRows g.S.Scalar.order_of g.S.Scalar.value T.order (small is.is_step) start.list (map (λ row. row.items) xs))
    (sym c.as_slice.ensures.value)
    (c.in_ok-rows.ensures T.order (small is.is_step) start.list start.read) in (
      T.order,
      is.is_step,
      start.list,
      start.full,
      start.read,
      subst (λ ts. AreTurns is.is_step start.list ts) (sym c.as_slice-in-loop-l.ensures.value)
          (c.in_ok-turns.ensures.turns T.order is.is_step start.list start.full rows),
      start_sized T c.args.level.now c.args.outer.now step is c.args.families.now c.requires.list,
    )

pub loop-l-preserved : goal.loop-l-preserved
loop-l-preserved g c =
    let T = phase_table c.args.t.now in
    let step = c.in_ok-step.step in
    let own = c.in_ok-step.ensures T.order (Nat.dvd_refl T.order) T.order_positive in
    let start = start_list T c.args.level.now c.args.outer.now step own c.args.families.now c.requires.list in
    let rows = subst (λ xs. AreRows g.S.Scalar.order_of g.S.Scalar.value T.order (small own.is_step) start.list (map (λ row. row.items) xs))
    (sym c.as_slice.ensures.value)
    (c.in_ok-rows.ensures T.order (small own.is_step) start.list start.read) in
    let small_sizes = start_sized T c.args.level.now c.args.outer.now step own c.args.families.now c.requires.list in
    let l = c.loop-l.l in
    let before = c.loop-l.climbed.items in
    let over = c.in_ok-over.over.items in
    record {
      first = λ M is L full read turns sized.
          let below = subst (λ n. l < n) read.count c.loop-l-test.true in
          let k = from_nat L.count l below in
          let at = to_nat-from_nat L.count l below in
          subst (λ fs. AreFirst is.is_step L turns.turn (l + 1) fs) (sym c.in_ok-append.ensures.items)
          (subst (λ n. AreFirst is.is_step L turns.turn n (before ++ over)) (let e : suc l ≡ l + 1 = omega arith in e)
          (first_more is.is_step L turns.turn l k before over at (c.loop-l.invariant.first M is L full read turns sized)
          (over_at is.is_step L c.in_ok-turns.turns.items c.as_slice-in-loop-l.result.now c.as_slice-in-loop-l.ensures.value turns k over
          (λ other. c.in_ok-over.ensures.over M is.is_step L full read other sized k at))));
      sized = subst (λ fs. AreSized T.order (place_count step.outer) fs) (sym c.in_ok-append.ensures.items)
          (All-append (λ (f : Family g.row.S.Denot g.S.Scalar). IsSized T.order (place_count step.outer) f) before over c.loop-l.invariant.sized
          (c.in_ok-over.ensures.sizes T.order own.is_step start.list start.full start.read
          (subst (λ ts. AreTurns own.is_step start.list ts) (sym c.as_slice-in-loop-l.ensures.value)
          (c.in_ok-turns.ensures.turns T.order own.is_step start.list start.full rows)) small_sizes));
    }

pub returns : goal.returns
returns g c =
    let T = phase_table c.args.t.now in
    let step = c.in_ok-step.step in
    let is = c.in_ok-step.ensures T.order (Nat.dvd_refl T.order) T.order_positive in
    let start = start_list T c.args.level.now c.args.outer.now step is c.args.families.now c.requires.list in
    let rows = subst (λ xs. AreRows g.S.Scalar.order_of g.S.Scalar.value T.order (small is.is_step) start.list (map (λ row. row.items) xs))
    (sym c.as_slice.ensures.value)
    (c.in_ok-rows.ensures T.order (small is.is_step) start.list start.read) in
    let sized = start_sized T c.args.level.now c.args.outer.now step is c.args.families.now c.requires.list in
    let turns = c.in_ok-turns.ensures.turns T.order is.is_step start.list start.full rows in
    let climbed = c.loop-l.climbed.items in
    let end : c.loop-l.l ≡ length c.args.families.now = search rules in
    end_list T c.args.level.now c.args.outer.now step is climbed
    (first_all is.is_step start.list start.full c.in_ok-turns.turns.items turns climbed
    (subst (λ n. AreFirst is.is_step start.list turns.turn n climbed) (end ∙ start.read.count)
    (c.loop-l.invariant.first T.order is start.list start.full start.read turns sized)))
    c.loop-l.invariant.sized
