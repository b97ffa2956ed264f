-- One more star.
use Rattle.std.proofs.Common.{rules, ◌≡◌, ◌∙◌, sym, subst, subst₂, ◌<◌, length, get_or, Vec, Global}
use Rattle.std.proofs.lemmas.List.{get_or_default}
use Rattle.irr_mult.specs.declared.star.StarCharacters.{StarCharacters}
use Rattle.irr_side.specs.ArmTraces.{AreEach}
use Rattle.irr_product.specs.Meetings.{HasPairRows, IsPairRow}
use Rattle.irr_product.specs.declared.meetings.Meeting.{Meeting}
use Rattle.irr_side.proofs.EachItems.{each_more, each_none}
use Rattle.irr_product.proofs.pairs.star_rows.Goals as goal

pub loop-i-init : goal.loop-i-init
loop-i-init g c = each_none _ c.new-rows.result.items c.new-rows.ensures.items

pub pair_row-requires : goal.pair_row-requires
pair_row-requires g c = subst₂ (λ x y. HasPairRows g.S.Scalar.order_of g.S.Scalar.value c.args.order.now.n c.args.a c.args.b x y)
    (sym c.index-stars-i.is) (sym c.index-meetings-i.is)
    (c.requires.rows c.loop-i.i c.index-stars-i.result c.index-meetings-i.result c.loop-i-test.true)

pub loop-i-preserved : goal.loop-i-preserved
loop-i-preserved g c =
    let l : c.loop-i.i < length c.args.meetings.now = subst (λ z. c.loop-i.i < z) (sym c.requires.count) c.loop-i-test.true in
    each_more (λ n (row : Vec g.row.S.Denot Global). (e : StarCharacters g.row.S.Denot) (t : Meeting g.row.S.Denot)
    → IsPairRow g.S.Scalar.order_of g.S.Scalar.value c.args.order.now.n c.args.a c.args.b (get_or c.args.stars.now n e)
    (get_or c.args.meetings.now n t) row.items) c.loop-i.i c.loop-i.rows.items c.push.new.self.items c.in_ok-row.row
    c.in_ok-push.ensures.items c.loop-i.invariant
    (λ e t. subst₂ (λ x y. IsPairRow g.S.Scalar.order_of g.S.Scalar.value c.args.order.now.n c.args.a c.args.b x y
    c.in_ok-row.row.items)
    (c.index-stars-i.is ∙ get_or_default c.args.stars.now c.loop-i.i c.index-stars-i.result e c.loop-i-test.true)
    (c.index-meetings-i.is ∙ get_or_default c.args.meetings.now c.loop-i.i c.index-meetings-i.result t l)
    c.in_ok-row.ensures)

pub returns : goal.returns
returns g c =
    let done : c.loop-i.i ≡ length c.args.stars.now = search rules in
    subst (λ m. AreEach (λ n (row : Vec g.row.S.Denot Global). (e : StarCharacters g.row.S.Denot) (t : Meeting g.row.S.Denot)
    → IsPairRow g.S.Scalar.order_of g.S.Scalar.value c.args.order.now.n c.args.a c.args.b (get_or c.args.stars.now n e)
    (get_or c.args.meetings.now n t) row.items) m c.loop-i.rows.items) done c.loop-i.invariant
