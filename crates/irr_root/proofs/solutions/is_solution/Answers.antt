-- The sizes of two products, and their meaning.
use Rattle.std.proofs.Common.{◌≡◌, sym, ◌∙◌, ap, subst, ◌^◌, arith}
use Rattle.irr_number.specs.Number.{numbers}
use Rattle.irr_root.proofs.Smalls.{denominators_of_small, products_of_small, sizes_of_small, small-product}
use Rattle.irr_root.proofs.solutions.is_solution.Goals as goal

pub mul-requires-clause-orders : goal.mul-requires-clause-orders
mul-requires-clause-orders g c = c.requires.3.has_order ∙ sym c.requires.2.has_order

pub mul-requires-clause-denominators : goal.mul-requires-clause-denominators
mul-requires-clause-denominators g c =
    denominators_of_small g.S.Scalar.order_of g.S.Scalar.value (λ x. g.met.S.Scalar.admitted_positive (g.S.Scalar.order_of x) (g.met.S.Scalar.order_admitted x))
    (λ x. g.met.S.Scalar.admitted_limited (g.S.Scalar.order_of x) (g.met.S.Scalar.order_admitted x)) c.requires.0 48 2304 c.args.r.now c.args.power.now c.requires.2 c.requires.3

pub mul-requires-clause-sizes : goal.mul-requires-clause-sizes
mul-requires-clause-sizes g c =
    products_of_small g.S.Scalar.order_of g.S.Scalar.value (λ x. g.met.S.Scalar.admitted_positive (g.S.Scalar.order_of x) (g.met.S.Scalar.order_admitted x))
    (λ x. g.met.S.Scalar.admitted_limited (g.S.Scalar.order_of x) (g.met.S.Scalar.order_admitted x)) c.requires.0 48 2304 c.args.r.now c.args.power.now c.requires.2 c.requires.3
    (omega arith) (omega arith)

pub mul-requires-2-clause-orders : goal.mul-requires-2-clause-orders
mul-requires-2-clause-orders g c = c.in_ok-product.ensures.order ∙ c.requires.2.has_order ∙ sym c.requires.1.has_order

pub mul-requires-2-clause-denominators : goal.mul-requires-2-clause-denominators
mul-requires-2-clause-denominators g c =
    denominators_of_small g.S.Scalar.order_of g.S.Scalar.value (λ x. g.met.S.Scalar.admitted_positive (g.S.Scalar.order_of x) (g.met.S.Scalar.order_admitted x))
    (λ x. g.met.S.Scalar.admitted_limited (g.S.Scalar.order_of x) (g.met.S.Scalar.order_admitted x)) c.requires.0 2304 110592 c.args.factor.now c.in_ok-product.product c.requires.1
    (small-product g.S.Scalar.order_of g.S.Scalar.value c.requires.0 48 2304 110592 c.args.r.now c.args.power.now c.in_ok-product.product c.requires.2 c.requires.3 (omega arith)
    c.in_ok-product.ensures.order c.in_ok-product.ensures.value)

pub mul-requires-2-clause-sizes : goal.mul-requires-2-clause-sizes
mul-requires-2-clause-sizes g c =
    products_of_small g.S.Scalar.order_of g.S.Scalar.value (λ x. g.met.S.Scalar.admitted_positive (g.S.Scalar.order_of x) (g.met.S.Scalar.order_admitted x))
    (λ x. g.met.S.Scalar.admitted_limited (g.S.Scalar.order_of x) (g.met.S.Scalar.order_admitted x)) c.requires.0 2304 110592 c.args.factor.now c.in_ok-product.product c.requires.1
    (small-product g.S.Scalar.order_of g.S.Scalar.value c.requires.0 48 2304 110592 c.args.r.now c.args.power.now c.in_ok-product.product c.requires.2 c.requires.3 (omega arith)
    c.in_ok-product.ensures.order c.in_ok-product.ensures.value)
    (omega arith) (omega arith)

pub equal-requires-clause-denominators : goal.equal-requires-clause-denominators
equal-requires-clause-denominators g c =
    denominators_of_small g.S.Scalar.order_of g.S.Scalar.value (λ x. g.met.S.Scalar.admitted_positive (g.S.Scalar.order_of x) (g.met.S.Scalar.order_admitted x))
    (λ x. g.met.S.Scalar.admitted_limited (g.S.Scalar.order_of x) (g.met.S.Scalar.order_admitted x)) c.requires.0 268435456 (2 ^ 30) c.in_ok-left.left c.args.target.now
    (small-product g.S.Scalar.order_of g.S.Scalar.value c.requires.0 2304 110592 268435456 c.args.factor.now c.in_ok-product.product c.in_ok-left.left c.requires.1
    (small-product g.S.Scalar.order_of g.S.Scalar.value c.requires.0 48 2304 110592 c.args.r.now c.args.power.now c.in_ok-product.product c.requires.2 c.requires.3 (omega arith)
    c.in_ok-product.ensures.order c.in_ok-product.ensures.value) (omega arith) c.in_ok-left.ensures.order c.in_ok-left.ensures.value) c.requires.4

pub equal-requires-clause-sizes : goal.equal-requires-clause-sizes
equal-requires-clause-sizes g c =
    sizes_of_small g.S.Scalar.order_of g.S.Scalar.value (λ x. g.met.S.Scalar.admitted_positive (g.S.Scalar.order_of x) (g.met.S.Scalar.order_admitted x))
    (λ x. g.met.S.Scalar.admitted_limited (g.S.Scalar.order_of x) (g.met.S.Scalar.order_admitted x)) c.requires.0 268435456 (2 ^ 30) c.in_ok-left.left c.args.target.now
    (small-product g.S.Scalar.order_of g.S.Scalar.value c.requires.0 2304 110592 268435456 c.args.factor.now c.in_ok-product.product c.in_ok-left.left c.requires.1
    (small-product g.S.Scalar.order_of g.S.Scalar.value c.requires.0 48 2304 110592 c.args.r.now c.args.power.now c.in_ok-product.product c.requires.2 c.requires.3 (omega arith)
    c.in_ok-product.ensures.order c.in_ok-product.ensures.value) (omega arith) c.in_ok-left.ensures.order c.in_ok-left.ensures.value) c.requires.4 (omega arith) (omega arith)

pub returns : goal.returns
returns g c = λ n o.
    let value = g.S.Scalar.value in
    let factor = c.args.factor.now in
    let r = c.args.r.now in
    let power = c.args.power.now in
    let target = c.args.target.now in
    let product = c.in_ok-product.product in
    let left = c.in_ok-left.left in
    let is = subst (λ u. value u left ≡ (numbers u).mul (value u factor) (value u product)) o c.in_ok-left.ensures.value
    ∙ ap ((numbers n).mul (value n factor)) (subst (λ u. value u product ≡ (numbers u).mul (value u r) (value u power))
    (c.requires.2.has_order ∙ sym c.requires.1.has_order ∙ o) c.in_ok-product.ensures.value) in
    let at = c.in_ok-left.ensures.order ∙ o in (
      λ t. sym is ∙ subst (λ u. value u left ≡ value u target) at (c.equal.ensures.0 t),
      λ e. c.equal.ensures.1 (subst (λ u. value u left ≡ value u target) (sym at) (is ∙ e)),
    )
