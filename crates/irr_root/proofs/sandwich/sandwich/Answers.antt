-- The four products, one after the other.
use Rattle.irr_rep.specs.Twisted.{phase_table}
use Rattle.irr_space.specs.PhaseTable.{phases_over}
use Rattle.irr_theory.specs.Lifted.{lifted_product}
use Rattle.irr_eigen.specs.Step.{at_place}
use Rattle.irr_extension.specs.Product.{opposite_of}
use Rattle.irr_root.proofs.TurnedProducts.{product-turned, sandwich-turned, unit-turned}
use Rattle.irr_root.proofs.sandwich.sandwich.Goals as goal

pub returns-clause-turned : goal.returns-clause-turned
returns-clause-turned c M v a b k first second e =
    let T = phase_table c.args.t.now in
    let W = phases_over T M v in
    let x = c.args.x in
    let y = c.args.y in
    let left = c.turned_product-left in
    let middle = c.turned_product-middle in
    let last = c.opposite-last in
    let one = product-turned T M v x.place x.exponent c.args.n 0 left.result.place left.result.exponent a (at_place W k) first
    (unit-turned T M v k c.args.n e)
    (left.ensures.place, left.ensures.exponent) in
    let two = product-turned T M v left.result.place left.result.exponent y.place y.exponent middle.result.place middle.result.exponent
    (lifted_product a (at_place W k)) b one second (middle.ensures.place, middle.ensures.exponent) in
    let three = product-turned T M v middle.result.place middle.result.exponent last.result.place last.result.exponent c.turned_product.result.place
    c.turned_product.result.exponent
    (lifted_product (lifted_product a (at_place W k)) b) (opposite_of W k) two (last.ensures.turned M v k e)
    (c.turned_product.ensures.place, c.turned_product.ensures.exponent) in
    sandwich-turned T M v c.turned_product.result.place c.turned_product.result.exponent a b k three
