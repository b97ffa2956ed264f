-- A power of z times a number of the row.
use Rattle.std.proofs.Common.{◌≡◌, sym, ◌∙◌, ap, ap₂, subst, ◌<◌, ◌*◌, ◌^◌, map, arith}
use Rattle.irr_number.specs.Number.{numbers, root_power}
use Rattle.irr_canonical.specs.RootSum.{IsRootSum}
use Rattle.irr_canonical.proofs.RootSums.{IsRootSum-mul, IsRootSum-root}
use Rattle.irr_mat.proofs.Sizes.{product_sizes, sum_denominators}
use Rattle.irr_algebra.proofs.Indices.{from_nat, to_nat-from_nat}
use Rattle.irr_char.specs.Rows.{row_of}
use Rattle.irr_char.proofs.AverageTerms.{few_powers, item-order, item-small, item-value}
use Rattle.irr_site.specs.Traces.{number_at}
use Rattle.irr_site.proofs.traces.term.Goals as goal

pub mul-requires-clause-denominators : goal.mul-requires-clause-denominators
mul-requires-clause-denominators g c =
    let value = g.S.Scalar.value in
    let n = c.args.order.now.n in
    let x = c.in_ok-phase.phase in
    let r = c.requires.row in
    let below = subst (λ m. c.args.rest.place < m) r.1.count c.requires.fits.1 in
    sum_denominators value (g.S.Scalar.order_of x) n (g.met.S.Scalar.admitted_positive (g.S.Scalar.order_of x)
    (g.met.S.Scalar.order_admitted x)) c.in_ok-phase.ensures.order
    1 1 48 1 x c.index-row-place.result
    (subst (IsRootSum n 1 1) (sym c.in_ok-phase.ensures.value) (IsRootSum-root n c.args.rest.exponent))
    (item-small g.S.Scalar.order_of value n r.0 c.args.row.now r.1 c.args.rest.place below c.index-row-place.result c.index-row-place.is)
    (2 ^ 60) (omega arith)

pub mul-requires-clause-sizes : goal.mul-requires-clause-sizes
mul-requires-clause-sizes g c =
    let value = g.S.Scalar.value in
    let n = c.args.order.now.n in
    let x = c.in_ok-phase.phase in
    let r = c.requires.row in
    let below = subst (λ m. c.args.rest.place < m) r.1.count c.requires.fits.1 in
    product_sizes value (g.S.Scalar.order_of x) n (g.met.S.Scalar.admitted_positive (g.S.Scalar.order_of x)
    (g.met.S.Scalar.order_admitted x)) c.in_ok-phase.ensures.order
    1 1 48 1 x c.index-row-place.result
    (subst (IsRootSum n 1 1) (sym c.in_ok-phase.ensures.value) (IsRootSum-root n c.args.rest.exponent))
    (item-small g.S.Scalar.order_of value n r.0 c.args.row.now r.1 c.args.rest.place below c.index-row-place.result c.index-row-place.is)
    (2 ^ 100) (few_powers n 1 48 c.args.order.now.limited (omega arith) (omega arith))

pub mul-requires-clause-orders : goal.mul-requires-clause-orders
mul-requires-clause-orders g c =
    let r = c.requires.row in
    let below = subst (λ m. c.args.rest.place < m) r.1.count c.requires.fits.1 in
    item-order g.S.Scalar.order_of g.S.Scalar.value c.args.order.now.n r.0 c.args.row.now r.1 c.args.rest.place below
    c.index-row-place.result c.index-row-place.is ∙ sym c.in_ok-phase.ensures.order

pub returns-clause-few : goal.returns-clause-few
returns-clause-few g c =
    let value = g.S.Scalar.value in
    let n = c.args.order.now.n in
    let x = c.in_ok-phase.phase in
    let r = c.requires.row in
    let below = subst (λ m. c.args.rest.place < m) r.1.count c.requires.fits.1 in
    subst (IsRootSum n 48 1)
    (sym (subst (λ u. value u c.in_ok-product.product ≡ (numbers u).mul (value u x) (value u c.index-row-place.result))
    c.in_ok-phase.ensures.order c.in_ok-product.ensures.value))
    (IsRootSum-mul n (subst (IsRootSum n 1 1) (sym c.in_ok-phase.ensures.value) (IsRootSum-root n c.args.rest.exponent))
    (item-small g.S.Scalar.order_of value n r.0 c.args.row.now r.1 c.args.rest.place below c.index-row-place.result c.index-row-place.is))

pub returns-clause-value : goal.returns-clause-value
returns-clause-value g c =
    let value = g.S.Scalar.value in
    let n = c.args.order.now.n in
    let x = c.in_ok-phase.phase in
    let r = c.requires.row in
    let below = subst (λ m. c.args.rest.place < m) r.1.count c.requires.fits.1 in
    let p = from_nat r.0 c.args.rest.place below in
    subst (λ u. value u c.in_ok-product.product ≡ (numbers u).mul (value u x) (value u c.index-row-place.result))
    c.in_ok-phase.ensures.order c.in_ok-product.ensures.value
    ∙ ap₂ (numbers n).mul c.in_ok-phase.ensures.value
    (item-value g.S.Scalar.order_of value n r.0 c.args.row.now r.1 c.args.rest.place below c.index-row-place.result c.index-row-place.is p
    (to_nat-from_nat r.0 c.args.rest.place below)
    ∙ ap (number_at n (map (value n) c.args.row.now)) (to_nat-from_nat r.0 c.args.rest.place below))
