-- One more half.
use Rattle.std.proofs.Common.{◌≡◌, ◌∙◌, sym, subst, rules, get_or, length}
use Rattle.irr_number.specs.Number.{numbers}
use Rattle.irr_side.specs.ArmTraces.{AreEach}
use Rattle.irr_power.specs.Halves.{IsHalf}
use Rattle.irr_side.proofs.EachItems.{each_more, each_none}
use Rattle.irr_power.proofs.HalfNumbers.{few_first, few_second, made_at}
use Rattle.irr_power.proofs.halves.half_sums.Goals as goal

pub loop-i-init : goal.loop-i-init
loop-i-init g c n pairs = each_none _ c.new-row.result.items c.new-row.ensures.items

pub half_sum-requires-clause-orders : goal.half_sum-requires-clause-orders
half_sum-requires-clause-orders g c =
    let pairs = c.requires.1 in
    let i = c.loop-i.i in
    let x = c.index-xs-i.result in
    let y = c.index-ys-i.result in
    subst (λ z. g.S.Scalar.order_of z ≡ g.S.Scalar.order_of x) (sym c.index-ys-i.is)
    (pairs.second_order i y c.loop-i-test.true
    ∙ sym (subst (λ z. g.S.Scalar.order_of z ≡ c.requires.0) (sym c.index-xs-i.is) (pairs.first_order i x c.loop-i-test.true)))

pub half_sum-requires-clause-first : goal.half_sum-requires-clause-first
half_sum-requires-clause-first g c = few_first g.S.Scalar.order_of g.S.Scalar.value c.requires.0 c.args.xs.now c.args.ys.now c.requires.1 c.loop-i.i
    c.loop-i-test.true c.index-xs-i.result c.index-xs-i.is

pub half_sum-requires-clause-second : goal.half_sum-requires-clause-second
half_sum-requires-clause-second g c = few_second g.S.Scalar.order_of g.S.Scalar.value c.requires.0 c.args.xs.now c.args.ys.now c.requires.1 c.loop-i.i
    c.loop-i-test.true c.index-xs-i.result c.index-xs-i.is c.index-ys-i.result c.index-ys-i.is

pub loop-i-preserved : goal.loop-i-preserved
loop-i-preserved g c n pairs =
    let i = c.loop-i.i in
    let x = c.index-xs-i.result in
    let z = c.in_ok-half.half in
    each_more (λ k (z : g.row.S.Denot). (x y : g.row.S.Denot) → (g.S.Scalar.order_of z ≡ n)
    × IsHalf n ((numbers n).add (g.S.Scalar.value n (get_or c.args.xs.now k x)) (g.S.Scalar.value n (get_or c.args.ys.now k y))) (g.S.Scalar.value n z))
    i c.loop-i.row.items c.push.new.self.items z c.in_ok-push.ensures.items (c.loop-i.invariant n pairs)
    (made_at g.S.Scalar.order_of g.S.Scalar.value n c.args.xs.now c.args.ys.now pairs (λ n x y. (numbers n).add x y) i
    c.loop-i-test.true x c.index-xs-i.is c.index-ys-i.result c.index-ys-i.is z c.in_ok-half.ensures.order c.in_ok-half.ensures.value)

pub returns : goal.returns
returns g c n pairs =
    let done : c.loop-i.i ≡ length c.args.xs.now = search rules in
    subst (λ m. AreEach (λ k (z : g.row.S.Denot). (x y : g.row.S.Denot) → (g.S.Scalar.order_of z ≡ n)
    × IsHalf n ((numbers n).add (g.S.Scalar.value n (get_or c.args.xs.now k x)) (g.S.Scalar.value n (get_or c.args.ys.now k y)))
    (g.S.Scalar.value n z)) m c.loop-i.row.items) done (c.loop-i.invariant n pairs)
