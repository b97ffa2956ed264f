-- A product of two matrices, times the inverse of a phase.
use Rattle.std.proofs.Common.{sym, ◌∙◌, ap, subst, IfOk}
use Rattle.irr_algebra.specs.Matrix.{◌·◌, scale}
use Rattle.irr_algebra.proofs.Indices.{from_nat, to_nat-from_nat}
use Rattle.irr_number.specs.Number.{numbers}
use Rattle.irr_rep.specs.Defects.{IsMatrix}
use Rattle.irr_rep.specs.Twisted.{place_count}
use Rattle.irr_rep.proofs.MatrixForms.{multiplied, product_fits}
use Rattle.irr_climb.proofs.ExtensionReads.{product_is}
use Rattle.irr_climb.proofs.extensions.first.product_matrix.Goals as goal

pub mul-requires-clause-shapes : goal.mul-requires-clause-shapes
mul-requires-clause-shapes g c =
    let o = place_count c.args.step.now.outer in
    let left = c.requires.factors.4 in
    let right = c.requires.factors.5 (from_nat o c.args.y c.requires.place) (to_nat-from_nat o c.args.y c.requires.place) in
    right.rows ∙ sym left.cols

pub mul-requires-clause-orders : goal.mul-requires-clause-orders
mul-requires-clause-orders g c =
    let o = place_count c.args.step.now.outer in
    let left = c.requires.factors.4 in
    let right = c.requires.factors.5 (from_nat o c.args.y c.requires.place) (to_nat-from_nat o c.args.y c.requires.place) in
    right.order ∙ sym left.order

pub mul-requires-clause-sizes : goal.mul-requires-clause-sizes
mul-requires-clause-sizes g c =
    let M = c.args.order.now.n in
    let o = place_count c.args.step.now.outer in
    let is = c.requires.factors.0 in
    let E = c.requires.factors.2 in
    let gen = is.quotient.generator in
    let p = from_nat o c.args.y c.requires.place in
    let left = c.requires.factors.4 in
    let right = c.requires.factors.5 p (to_nat-from_nat o c.args.y c.requires.place) in
    product_fits M c.requires.factors.1 (E.at gen) (E.at p) c.args.at_generator.now c.args.at_place.now left right
    (c.requires.factors.3.product gen p)

pub multiple-requires-clause-multiple : goal.multiple-requires-clause-multiple
multiple-requires-clause-multiple g c =
    let M = c.args.order.now.n in
    let o = place_count c.args.step.now.outer in
    let is = c.requires.factors.0 in
    let d = c.requires.factors.1 in
    let E = c.requires.factors.2 in
    let gen = is.quotient.generator in
    let p = from_nat o c.args.y c.requires.place in
    let left = c.requires.factors.4 in
    let right = c.requires.factors.5 p (to_nat-from_nat o c.args.y c.requires.place) in
    let product = multiplied M d (E.at gen) (E.at p) c.args.at_generator.now c.args.at_place.now left right
    c.in_ok-product.product c.in_ok-product.ensures.rows c.in_ok-product.ensures.cols c.in_ok-product.ensures.order
    c.in_ok-product.ensures.value in
    (d, E.at gen · E.at p, product, c.requires.factors.3.multiple gen p)

pub returns : goal.returns
returns g c is d E p a left right =
    let M = c.args.order.now.n in
    let gen = is.quotient.generator in
    let product = multiplied M d (E.at gen) (E.at p) c.args.at_generator.now c.args.at_place.now left right
    c.in_ok-product.product c.in_ok-product.ensures.rows c.in_ok-product.ensures.cols c.in_ok-product.ensures.order
    c.in_ok-product.ensures.value in
    subst (λ u. IfOk c.multiple.result (IsMatrix M d u))
    (ap (λ u. scale (numbers M) u (E.at gen · E.at p)) (c.inverse_exponent-exponent.ensures.value is p a) ∙ product_is is E p)
    (c.multiple.ensures d (E.at gen · E.at p) product)
