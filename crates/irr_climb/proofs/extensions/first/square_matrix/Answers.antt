-- A product with the matrix at g n.
use Rattle.std.proofs.Common.{sym, ◌∙◌, subst}
use Rattle.irr_algebra.proofs.Indices.{from_nat, to_nat-from_nat, to_nat_inj}
use Rattle.irr_rep.specs.Defects.{IsMatrix}
use Rattle.irr_rep.specs.Twisted.{phase_table, place_count}
use Rattle.irr_climb.proofs.ExtensionFits.{small_products}
use Rattle.irr_climb.proofs.extensions.first.square_matrix.Goals as goal

pub product_matrix-requires-clause-step : goal.product_matrix-requires-clause-step
product_matrix-requires-clause-step g c = c.requires.extension.1.is

pub product_matrix-requires-clause-factors : goal.product_matrix-requires-clause-factors
product_matrix-requires-clause-factors g c =
    let M = c.args.order.now.n in
    let step = c.args.step.now in
    let t = c.requires.extension.0 in
    let e = c.requires.extension.1 in
    let at = c.requires.extension.2 in
    let h = place_count step.inner in
    let q = from_nat h c.args.n c.requires.member in
    let a = to_nat-from_nat h c.args.n c.requires.member in (
      e.is,
      e.d,
      e.E,
      small_products e c.args.order.now.limited,
      at,
      λ p b. subst (λ y. IsMatrix M e.d (e.E.at y) c.in_ok-at_coset.at_coset) (to_nat_inj ((phase_table step.outer).product e.is.quotient.generator (e.is.part.place q)) p
          (sym (c.coset_place-y.ensures.place M e.is q a) ∙ sym b))
          (c.in_ok-at_coset.ensures t e at q a),
    )

pub returns : goal.returns
returns g c traces e at q a =
    c.product_matrix.ensures e.is e.d e.E ((phase_table c.args.step.now.outer).product e.is.quotient.generator (e.is.part.place q))
    (sym (c.coset_place-y.ensures.place c.args.order.now.n e.is q a)) at (c.in_ok-at_coset.ensures traces e at q a)
