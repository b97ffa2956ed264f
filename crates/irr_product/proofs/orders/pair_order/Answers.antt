-- Of the two orders the first that is above the limit.
use Rattle.std.proofs.Common.{◌≡◌, ◌∙◌, ap, subst, ◌<◌, ◌≤◌, ◌*◌, inr}
use Rattle.irr_kvec.specs.WaveMeaning.{wave_vector}
use Rattle.irr_close.specs.StandsFor.{stands_for}
use Rattle.irr_space.specs.Reciprocal.{IsOrder}
use Rattle.irr_product.specs.Products.{IsPairOrder}
use Rattle.irr_product.proofs.OrderSizes.{own_small}
use Rattle.irr_product.proofs.orders.pair_order.Goals as goal

pub common_multiple-requires-clause-small : goal.common_multiple-requires-clause-small
common_multiple-requires-clause-small c =
    let e = c.exponent-exponent.result in
    let p = c.period_at-first.result in
    let own : c.multiple-own.result ≡ e * p = c.multiple-own.ensures ∙ ap (λ n. e * n) c.from.ensures in
    own_small e p c.exponent-exponent.ensures.exponent.positive
    (subst (λ n. n ≤ 12000) own (subst (λ m. c.multiple-own.result ≤ m) c.from-2.ensures c.if-own-from.false))

pub returns-then-order-from-clause-refused : goal.returns-then-order-from-clause-refused
returns-then-order-from-clause-refused c =
    let G = stands_for c.args.group.now in
    let k = wave_vector c.args.k1.now in
    let l = wave_vector c.args.k2.now in
    let e = c.exponent-exponent.result in
    let p = c.period_at-first.result in
    let order : IsOrder G k c.multiple-own.result = record {
      exponent = e;
      period = p;
      is_exponent = c.exponent-exponent.ensures.exponent;
      is_period = c.period_at-first.ensures.period;
      is_product = c.multiple-own.ensures ∙ ap (λ n. e * n) c.from.ensures;
    } in
    let pair : IsPairOrder G k l c.multiple-order.result = record {
      exponent = e;
      first = p;
      second = c.period_at-second.result;
      common = c.common_multiple.result;
      is_exponent = c.exponent-exponent.ensures.exponent;
      is_first = c.period_at-first.ensures.period;
      is_second = c.period_at-second.ensures.period;
      first_divides = c.common_multiple.ensures.common.0;
      second_divides = c.common_multiple.ensures.common.1;
      least = c.common_multiple.ensures.common.2;
      is_product = c.multiple-order.ensures;
    } in (
      subst (λ m. m < c.multiple-order.result) c.from-3.ensures c.if-order-from.true,
      inr (pair, c.multiple-own.result, order, subst (λ m. c.multiple-own.result ≤ m) c.from-2.ensures c.if-own-from.false),
    )
