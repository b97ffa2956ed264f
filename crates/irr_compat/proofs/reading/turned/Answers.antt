-- A power of z times a number.
use Rattle.std.proofs.Common.{◌≡◌, ◌∙◌, ap, sym, subst, ◌≤◌, ◌*◌, ◌^◌}
use Rattle.irr_number.specs.Number.{numbers}
use Rattle.irr_canonical.specs.Coefficient.{denominator, size}
use Rattle.irr_compat.proofs.Powers.{turned_by_one, power_denominators, power_sizes}
use Rattle.irr_compat.proofs.reading.turned.Goals as goal

pub returns-then-e-eq0-clause-order : goal.returns-then-e-eq0-clause-order
returns-then-e-eq0-clause-order g c = c.in_ok-same.ensures.order ∙ c.requires.order

pub returns-then-e-eq0-clause-value : goal.returns-then-e-eq0-clause-value
returns-then-e-eq0-clause-value g c =
    let n = c.args.order.now.n in
    let value = g.S.Scalar.value in
    subst (λ m. value m c.in_ok-same.same ≡ value m c.args.x.now) c.requires.order c.in_ok-same.ensures.value
    ∙ sym (turned_by_one n c.args.e (value n c.args.x.now) c.if-e-eq0.true)

pub root-requires-clause-admitted : goal.root-requires-clause-admitted
root-requires-clause-admitted g c = subst g.S.Scalar.admits c.requires.order (g.met.S.Scalar.order_admitted c.args.x.now)

pub mul-requires-clause-orders : goal.mul-requires-clause-orders
mul-requires-clause-orders g c = c.requires.order ∙ sym c.in_ok-root.ensures.order

pub mul-requires-clause-denominators : goal.mul-requires-clause-denominators
mul-requires-clause-denominators g c =
    let n = c.args.order.now.n in
    let value = g.S.Scalar.value in
    let l : denominator n (value n c.in_ok-root.root) * denominator n (value n c.args.x.now) ≤ 2 ^ 60 = power_denominators n c.args.e
    (value n c.in_ok-root.root) (value n c.args.x.now) c.args.order.now.positive c.in_ok-root.ensures.value c.requires.denominator in
    subst (λ m. denominator m (value m c.in_ok-root.root) * denominator m (value m c.args.x.now) ≤ 2 ^ 60) (sym c.in_ok-root.ensures.order) l

pub mul-requires-clause-sizes : goal.mul-requires-clause-sizes
mul-requires-clause-sizes g c =
    let n = c.args.order.now.n in
    let value = g.S.Scalar.value in
    let l : size n (value n c.in_ok-root.root) * size n (value n c.args.x.now) ≤ 2 ^ 100 = power_sizes n c.args.e
    (value n c.in_ok-root.root) (value n c.args.x.now) c.args.order.now.positive c.args.order.now.limited c.in_ok-root.ensures.value c.requires.size in
    subst (λ m. size m (value m c.in_ok-root.root) * size m (value m c.args.x.now) ≤ 2 ^ 100) (sym c.in_ok-root.ensures.order) l

pub returns-clause-order : goal.returns-clause-order
returns-clause-order g c = c.in_ok-turned.ensures.order ∙ c.in_ok-root.ensures.order

pub returns-clause-value : goal.returns-clause-value
returns-clause-value g c =
    let n = c.args.order.now.n in
    let value = g.S.Scalar.value in
    subst (λ m. value m c.in_ok-turned.turned ≡ (numbers m).mul (value m c.in_ok-root.root) (value m c.args.x.now)) c.in_ok-root.ensures.order c.in_ok-turned.ensures.value
    ∙ ap (λ r. (numbers n).mul r (value n c.args.x.now)) c.in_ok-root.ensures.value
