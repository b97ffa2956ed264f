-- Sizes, and a product that is 0.
use Rattle.std.proofs.Common.{rules, ◌∙◌, sym, ap, refl, ◌^◌, IsTrue, arith}
use Rattle.irr_number.specs.Number.{numbers}
use Rattle.irr_mat.proofs.Sizes.{product_sizes, sum_denominators, sum_sizes}
use Rattle.irr_product.proofs.RowItems.{few_product, few_sum, product_there, product_small, zero_product}
use Rattle.irr_product.proofs.rows.more.Goals as goal

pub mul-requires-clause-orders : goal.mul-requires-clause-orders
mul-requires-clause-orders g c = c.requires.second ∙ sym c.requires.first

pub mul-requires-clause-denominators : goal.mul-requires-clause-denominators
mul-requires-clause-denominators g c =
    let x = c.args.x.now in
    let m = g.S.Scalar.order_of x in
    sum_denominators g.S.Scalar.value m (g.S.Scalar.order_of c.args.sum) (g.met.S.Scalar.admitted_positive m (g.met.S.Scalar.order_admitted x))
    c.requires.first 48 1 48 1 x c.args.y.now c.requires.first_few c.requires.second_few (2 ^ 60) (omega arith)

pub mul-requires-clause-sizes : goal.mul-requires-clause-sizes
mul-requires-clause-sizes g c =
    let x = c.args.x.now in
    let m = g.S.Scalar.order_of x in
    let n = g.S.Scalar.order_of c.args.sum in
    product_sizes g.S.Scalar.value m n (g.met.S.Scalar.admitted_positive m (g.met.S.Scalar.order_admitted x))
    c.requires.first 48 1 48 1 x c.args.y.now c.requires.first_few c.requires.second_few (2 ^ 100)
    (few_product n (g.met.S.Scalar.admitted_limited n (g.met.S.Scalar.order_admitted c.args.sum)))

pub add-requires-clause-orders : goal.add-requires-clause-orders
add-requires-clause-orders g c = c.in_ok-product.ensures.order ∙ c.requires.first

pub add-requires-clause-denominators : goal.add-requires-clause-denominators
add-requires-clause-denominators g c =
    let n = g.S.Scalar.order_of c.args.sum in
    sum_denominators g.S.Scalar.value n n (g.met.S.Scalar.admitted_positive n (g.met.S.Scalar.order_admitted c.args.sum))
    refl 5308416 1 2304 1 c.args.sum c.in_ok-product.product c.requires.few
    (product_small g.S.Scalar.value n (g.S.Scalar.order_of c.args.x.now) c.args.x.now c.args.y.now c.in_ok-product.product c.requires.first
    c.in_ok-product.ensures.value c.requires.first_few c.requires.second_few) (2 ^ 60) (omega arith)

pub add-requires-clause-sizes : goal.add-requires-clause-sizes
add-requires-clause-sizes g c =
    let n = g.S.Scalar.order_of c.args.sum in
    sum_sizes g.S.Scalar.value n n (g.met.S.Scalar.admitted_positive n (g.met.S.Scalar.order_admitted c.args.sum))
    refl 5308416 1 2304 1 c.args.sum c.in_ok-product.product c.requires.few
    (product_small g.S.Scalar.value n (g.S.Scalar.order_of c.args.x.now) c.args.x.now c.args.y.now c.in_ok-product.product c.requires.first
    c.in_ok-product.ensures.value c.requires.first_few c.requires.second_few) (2 ^ 110)
    (few_sum n (g.met.S.Scalar.admitted_limited n (g.met.S.Scalar.order_admitted c.args.sum)))

pub returns-then-is_zero-clause-value : goal.returns-then-is_zero-clause-value
returns-then-is_zero-clause-value g c =
    let n = g.S.Scalar.order_of c.args.sum in
    zero_product g.S.Scalar.value n (g.S.Scalar.order_of c.args.x.now) c.args.x.now c.args.y.now c.args.sum c.requires.first
    (g.S.Scalar.value n c.args.sum) (c.is_zero.ensures.zero.0 (let t : IsTrue c.is_zero.result = search rules in t))

pub returns-clause-value : goal.returns-clause-value
returns-clause-value g c =
    let n = g.S.Scalar.order_of c.args.sum in
    c.in_ok-next.ensures.value ∙ ap ((numbers n).add (g.S.Scalar.value n c.args.sum))
    (product_there g.S.Scalar.value n (g.S.Scalar.order_of c.args.x.now) c.args.x.now c.args.y.now c.in_ok-product.product c.requires.first
    c.in_ok-product.ensures.value)
