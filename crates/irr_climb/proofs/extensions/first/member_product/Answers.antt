-- A product with the matrix at a member.
use Rattle.std.proofs.Common.{◌<◌, sym, ◌∙◌, ap, subst, rules}
use Rattle.irr_algebra.proofs.Indices.{from_nat, to_nat-from_nat, to_nat-lt, to_nat_inj}
use Rattle.irr_rep.specs.Defects.{IsMatrix}
use Rattle.irr_rep.specs.Twisted.{place_count}
use Rattle.irr_root.proofs.TurnedTraces.{read_at}
use Rattle.irr_climb.proofs.ConjugateRows.{member_number}
use Rattle.irr_climb.proofs.ExtensionFits.{small_products}
use Rattle.irr_climb.proofs.ExtensionReads.{family_item}
use Rattle.irr_climb.proofs.extensions.first.member_product.Goals as goal

pub index-requires : goal.index-requires
index-requires g c =
    let l = subst (λ k. c.args.n < k) (sym c.requires.extension.1.fixed.read.shape.count) c.requires.member in search rules

pub product_matrix-requires-clause-step : goal.product_matrix-requires-clause-step
product_matrix-requires-clause-step g c = c.requires.extension.1.is

pub product_matrix-requires-clause-place : goal.product_matrix-requires-clause-place
product_matrix-requires-clause-place g c =
    let step = c.args.step.now in
    let is = c.requires.extension.1.is in
    let h = place_count step.inner in
    let q = from_nat h c.args.n c.requires.member in
    let member = read_at step.members.items c.args.n c.index-y.result.now c.index-y.ensures (subst (λ k. c.args.n < k)
    (sym is.members_count) c.requires.member)
    ∙ member_number is c.args.n q (to_nat-from_nat h c.args.n c.requires.member) in
    subst (λ k. k < place_count step.outer) (sym member) (to_nat-lt (is.part.place q))

pub product_matrix-requires-clause-factors : goal.product_matrix-requires-clause-factors
product_matrix-requires-clause-factors g c =
    let M = c.args.order.now.n in
    let step = c.args.step.now in
    let e = c.requires.extension.1 in
    let is = e.is in
    let h = place_count step.inner in
    let q = from_nat h c.args.n c.requires.member in
    let a = to_nat-from_nat h c.args.n c.requires.member in
    let member = read_at step.members.items c.args.n c.index-y.result.now c.index-y.ensures (subst (λ k. c.args.n < k)
    (sym is.members_count) c.requires.member)
    ∙ member_number is c.args.n q a in (
      is,
      e.d,
      e.E,
      small_products e c.args.order.now.limited,
      c.requires.extension.2,
      λ p b. subst (λ u. IsMatrix M e.d u c.index.result.now) (sym (e.at-member q) ∙ ap e.E.at (to_nat_inj (is.part.place q) p (sym member ∙ sym b)))
          (family_item is e.D c.args.family.now e.fixed.read c.args.n c.index.result.now c.requires.member c.index.ensures q a),
    )

pub returns : goal.returns
returns g c traces e at q a =
    let step = c.args.step.now in
    let member = read_at step.members.items c.args.n c.index-y.result.now c.index-y.ensures (subst (λ k. c.args.n < k)
    (sym e.is.members_count) c.requires.member)
    ∙ member_number e.is c.args.n q a in
    c.product_matrix.ensures e.is e.d e.E (e.is.part.place q) (sym member) at
    (subst (λ u. IsMatrix c.args.order.now.n e.d u c.index.result.now) (sym (e.at-member q))
    (family_item e.is e.D c.args.family.now e.fixed.read c.args.n c.index.result.now c.requires.member c.index.ensures q a))
