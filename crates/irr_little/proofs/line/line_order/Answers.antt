-- The order of a line.
use Rattle.std.proofs.Common.{◌≡◌, sym, ◌∙◌, ap, subst, ℕ, suc, ◌<◌, ◌≤◌, ◌*◌, length, get_or, arith}
use Rattle.std.proofs.lemmas.List.{get_or_default}
use Rattle.irr_space.specs.SpaceGroup.{IsExponent}
use Rattle.irr_space.specs.Reciprocal.{IsPeriod}
use Rattle.irr_kvec.specs.WaveMeaning.{wave_vector}
use Rattle.irr_kvec.specs.Centrings.{LatticeOf, IsCentringList, IsWithinLimits}
use Rattle.irr_kvec.specs.declared.wave.Wave.{Wave}
use Rattle.irr_kvec.proofs.GroupLattices.{period_in_group}
use Rattle.irr_close.specs.StandsFor.{stands_for}
use Rattle.irr_close.proofs.SpaceGroups.{space_group}
use Rattle.irr_little.proofs.Spaces.{centrings_of}
use Rattle.irr_little.proofs.LineOrders.{order_none, order_more, order_first_above}
use Rattle.irr_little.proofs.line.line_order.Goals as goal

pub loop-i-init : goal.loop-i-init
loop-i-init c = order_none c.args.group.now c.args.points.now c.from-exponent.result
    (subst (IsExponent (stands_for c.args.group.now)) (sym c.from-exponent.ensures) c.exponent.ensures.exponent)
    (subst (λ n. n ≤ 48) (sym c.from-exponent.ensures) c.exponent.ensures.small)

pub period-requires-clause-centrings : goal.period-requires-clause-centrings
period-requires-clause-centrings c = subst IsCentringList (sym c.centrings.ensures.list) (space_group c.args.group.now).centrings

pub loop-i-preserved : goal.loop-i-preserved
loop-i-preserved c = order_more c.args.group.now c.args.points.now c.from-exponent.result
    (subst (IsExponent (stands_for c.args.group.now)) (sym c.from-exponent.ensures) c.exponent.ensures.exponent)
    c.loop-i.i c.loop-i.common c.period.result c.common_multiple-common.result c.loop-i.invariant c.common_multiple-common.ensures.positive
    c.common_multiple-common.ensures.least
    (λ d. subst (λ (w : Wave). IsPeriod (stands_for c.args.group.now) (wave_vector w) c.period.result)
    (c.index-points-i.is ∙ get_or_default c.args.points.now c.loop-i.i c.index-points-i.result d c.loop-i-test.true)
    (period_in_group (stands_for c.args.group.now) c.args.group.now.centrings.items (centrings_of c.args.group.now) (wave_vector c.index-points-i.result) c.period.result
    (subst (λ cs. IsPeriod (LatticeOf cs) (wave_vector c.index-points-i.result) c.period.result) c.centrings.ensures.list c.period.ensures)))
    (subst (λ n. c.from-exponent.result * c.common_multiple-common.result ≤ n) c.from.ensures c.if-order-from.false)

pub returns-then-order-from-clause-refused : goal.returns-then-order-from-clause-refused
returns-then-order-from-clause-refused c = order_first_above c.args.group.now c.args.points.now c.from-exponent.result
    (subst (IsExponent (stands_for c.args.group.now)) (sym c.from-exponent.ensures) c.exponent.ensures.exponent)
    c.loop-i.i c.loop-i.common c.period.result c.common_multiple-common.result c.loop-i.invariant c.common_multiple-common.ensures.positive
    c.common_multiple-common.ensures.least
    (λ d. subst (λ (w : Wave). IsPeriod (stands_for c.args.group.now) (wave_vector w) c.period.result)
    (c.index-points-i.is ∙ get_or_default c.args.points.now c.loop-i.i c.index-points-i.result d c.loop-i-test.true)
    (period_in_group (stands_for c.args.group.now) c.args.group.now.centrings.items (centrings_of c.args.group.now) (wave_vector c.index-points-i.result) c.period.result
    (subst (λ cs. IsPeriod (LatticeOf cs) (wave_vector c.index-points-i.result) c.period.result) c.centrings.ensures.list c.period.ensures)))
    c.loop-i-test.true
    (subst (λ n. n < c.from-exponent.result * c.common_multiple-common.result) c.from.ensures c.if-order-from.true)
