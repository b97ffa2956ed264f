-- From the unit up to the whole table.
use Rattle.std.proofs.Common.{◌≡◌, ◌∙◌, sym, subst, length, [], ◌∷◌, rules}
use Rattle.irr_rep.specs.Twisted.{phase_table, place_count}
use Rattle.irr_climb.specs.Climbed.{IsClimbed, IsWhole}
use Rattle.irr_climb.specs.Lists.{IsFullOn}
use Rattle.irr_climb.proofs.ClimbedSeries.{all_climbed, start_climbed}
use Rattle.irr_climb.proofs.climb.full_list.Goals as goal

pub unit_families-requires : goal.unit_families-requires
unit_families-requires g c = subst g.S.Scalar.admits (sym (c.in_ok-order.ensures ∙ c.order.ensures.order)) c.requires.admitted

pub loop-k-init : goal.loop-k-init
loop-k-init g c =
    let T = phase_table c.args.t.now in
    let fs = c.in_ok-families.families.items in
    start_climbed T c.args.levels.now fs c.requires.series
    (subst (λ n. IsFullOn T n (0 ∷ []) fs) (c.in_ok-order.ensures ∙ c.order.ensures.order) (c.in_ok-families.ensures (place_count c.args.t.now) T))

pub climb_level-requires-clause-whole : goal.climb_level-requires-clause-whole
climb_level-requires-clause-whole g c =
    subst (IsWhole (place_count c.args.t.now)) (sym c.as_slice.ensures.value)
    (subst (λ n. IsWhole n c.in_ok-whole.whole.items) c.len.ensures.count c.in_ok-whole.ensures)

pub climb_level-requires-clause-climbed : goal.climb_level-requires-clause-climbed
climb_level-requires-clause-climbed g c =
    subst (λ fs. IsClimbed (phase_table c.args.t.now) c.args.levels.now c.loop-k.k fs) (sym c.as_slice-in-loop-k.ensures.value) c.loop-k.invariant

pub returns : goal.returns
returns g c =
    let e : c.loop-k.k ≡ length c.args.levels.now = search rules in
    all_climbed (phase_table c.args.t.now) c.args.levels.now c.loop-k.k c.loop-k.families.items c.loop-k.invariant e
