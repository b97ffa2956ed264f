-- One more value is added.
use Rattle.std.proofs.Common.{◌∙◌, ap, ◌*◌, ◌<◌, ◌≤◌, length, map, slice_index, ℕ, arith, rules}
use Rattle.std.proofs.lemmas.List.Elements.{All-get_or}
use Rattle.irr_number.specs.Number.{numbers}
use Rattle.irr_rep.specs.Twisted.{phase_table, place_count}
use Rattle.irr_space.specs.PhaseTable.{phases_over}
use Rattle.irr_extension.specs.Product.{sandwich}
use Rattle.irr_root.specs.Sandwiches.{listed_member}
use Rattle.irr_root.proofs.SandwichSums.{listed-turned, member-number, inner_terms, sums-more, sums-none, sums-small}
use Rattle.irr_root.proofs.products.sandwich_sum.Goals as goal

pub loop-k-init : goal.loop-k-init
loop-k-init g c =
    let n = c.args.order.now.n in
    sums-none g.S.Scalar.order_of g.S.Scalar.value n (phase_table c.args.t.now) c.args.x.place c.args.x.exponent c.args.y.place c.args.y.exponent 48
    (inner_terms (phase_table c.args.t.now) n c.args.members.now c.args.positions.now (map (g.S.Scalar.value n) c.args.character.now))
    c.in_ok-sum.sum c.in_ok-sum.ensures.order c.in_ok-sum.ensures.value

pub with_value-requires-clause-sum : goal.with_value-requires-clause-sum
with_value-requires-clause-sum g c =
    let n = c.args.order.now.n in
    let l : c.loop-k.k < length c.args.members.now = search rules in
    let m : length c.args.members.now ≤ 48 = c.requires.few in
    sums-small g.S.Scalar.order_of g.S.Scalar.value n (phase_table c.args.t.now) c.args.x.place c.args.x.exponent c.args.y.place c.args.y.exponent 48
    (inner_terms (phase_table c.args.t.now) n c.args.members.now c.args.positions.now (map (g.S.Scalar.value n) c.args.character.now))
    c.loop-k.k 2304 c.loop-k.sum c.loop-k.invariant (omega (arith, l, m)) (omega arith)

pub loop-k-preserved : goal.loop-k-preserved
loop-k-preserved g c =
    let order = g.S.Scalar.order_of in
    let value = g.S.Scalar.value in
    let n = c.args.order.now.n in
    let T = phase_table c.args.t.now in
    let members = c.args.members.now in
    let positions = c.args.positions.now in
    let row = c.args.character.now in
    let x = c.args.x in
    let y = c.args.y in
    let z = c.sandwich-z.result in
    let k = c.loop-k.k in
    let l : c.loop-k.k < length c.args.members.now = search rules in
    let m = listed_member T members k in
    let number = member-number T.start (slice_index members k)
    (All-get_or (λ (a : ℕ). a < place_count c.args.t.now) members k 0 l c.requires.members) in
    sums-more order value n T x.place x.exponent y.place y.exponent 48
    (inner_terms T n members positions (map (value n) row)) k c.loop-k.sum c.in_ok-sum-2.sum
    c.loop-k.invariant (c.in_ok-sum-2.ensures.small (k * 48) c.loop-k.invariant.small)
    (λ v a b p q. c.in_ok-sum-2.ensures.value ∙ ap ((numbers n).add (value n c.loop-k.sum))
    (listed-turned T n v positions (map (value n) row) z.place z.exponent (sandwich (phases_over T n v) a m b)
    (c.sandwich-z.ensures.turned n v a b m p q number)))
