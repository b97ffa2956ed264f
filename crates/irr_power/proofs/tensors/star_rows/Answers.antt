-- One more star.
use Rattle.std.proofs.Common.{rules, ◌≡◌, sym, subst, length, get_or, Vec, Global}
use Rattle.irr_kvec.specs.Centrings.{IsWithinLimits}
use Rattle.irr_mult.specs.declared.star.StarCharacters.{StarCharacters}
use Rattle.irr_side.specs.ArmTraces.{AreEach}
use Rattle.irr_side.proofs.EachItems.{each_none, each_of_list}
use Rattle.irr_power.specs.FormTraces.{IsStarRow}
use Rattle.irr_power.proofs.tensors.star_rows.Goals as goal

pub loop-star-init : goal.loop-star-init
loop-star-init g c = each_none _ c.new-rows.result.items c.new-rows.ensures.items

pub star_row-requires-clause-limits : goal.star_row-requires-clause-limits
star_row-requires-clause-limits g c = subst (λ (e : StarCharacters g.row.S.Denot). IsWithinLimits e.wave) (sym c.star-item.is)
    (c.requires.limits c.loop-star.star-index c.star-item.result c.loop-star-test.true)

pub loop-star-preserved : goal.loop-star-preserved
loop-star-preserved g c = each_of_list (λ (e : StarCharacters g.row.S.Denot) (row : Vec g.row.S.Denot Global).
    IsStarRow g.S.Scalar.order_of g.S.Scalar.value c.args.order.now.n c.args.group.now c.args.form e.wave row.items)
    c.args.stars.now c.loop-star.star-index c.loop-star-test.true c.star-item.result c.star-item.is c.loop-star.rows.items
    c.push.new.self.items c.in_ok-row.row c.in_ok-push.ensures.items c.loop-star.invariant c.in_ok-row.ensures

pub returns : goal.returns
returns g c =
    let done : c.loop-star.star-index ≡ length c.args.stars.now = search rules in
    subst (λ m. AreEach (λ i (row : Vec g.row.S.Denot Global). (e : StarCharacters g.row.S.Denot)
    → IsStarRow g.S.Scalar.order_of g.S.Scalar.value c.args.order.now.n c.args.group.now c.args.form (get_or c.args.stars.now i e).wave row.items) m
    c.loop-star.rows.items) done c.loop-star.invariant
