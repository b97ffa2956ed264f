-- The member at a place, and the exponent that is neither 0 nor 1.
use Rattle.std.proofs.Common.{◌≡◌, ◌<◌, sym, ◌∙◌, ap, subst, IfOk, rules}
use Rattle.irr_algebra.proofs.Indices.{to_nat-lt}
use Rattle.irr_rep.specs.Defects.{IsMatrix}
use Rattle.irr_rep.specs.Twisted.{place_count}
use Rattle.irr_climb.proofs.ExtensionPlaces.{at_coset, at_member, at_square, small_exponent}
use Rattle.irr_climb.proofs.ExtensionReads.{exponent_at, family_item, part_at, part_within}
use Rattle.irr_climb.proofs.extensions.first.matrix_at_place.Goals as goal

pub index-requires : goal.index-requires
index-requires g c =
    let e = c.requires.extension.1 in
    let l = subst (λ k. c.index-n.result.now < k) (sym e.fixed.read.shape.count)
    (part_within e.is c.args.x c.index-n.result.now c.requires.place c.index-n.ensures) in search rules

pub member_product-requires-clause-member : goal.member_product-requires-clause-member
member_product-requires-clause-member g c = part_within c.requires.extension.1.is c.args.x c.index-n.result.now c.requires.place c.index-n.ensures

pub square_matrix-requires-clause-member : goal.square_matrix-requires-clause-member
square_matrix-requires-clause-member g c = part_within c.requires.extension.1.is c.args.x c.index-n.result.now c.requires.place c.index-n.ensures

pub returns-then-exponent-eq0 : goal.returns-then-exponent-eq0
returns-then-exponent-eq0 g c traces e at p a =
    let M = c.args.order.now.n in
    let step = c.args.step.now in
    let n = c.index-n.result.now in
    let number = part_at e.is c.args.x n c.index-n.ensures p a in
    subst (λ u. IfOk c.copied.result (IsMatrix M e.d u))
    (sym (e.at-member (e.is.quotient.part p)) ∙ ap e.E.at
    (at_member e.is.quotient p (sym (exponent_at e.is c.args.x c.index-exponent.result.now c.index-exponent.ensures p a)
    ∙ c.if-exponent-eq0.true)))
    (c.copied.ensures M e.d (e.D.at (e.is.quotient.part p))
    (family_item e.is e.D c.args.family.now e.fixed.read n c.index.result.now
    (subst (λ k. k < place_count step.inner) (sym number) (to_nat-lt (e.is.quotient.part p))) c.index.ensures (e.is.quotient.part p) (sym number)))

pub returns-then-exponent-eq1 : goal.returns-then-exponent-eq1
returns-then-exponent-eq1 g c traces e at p a =
    let M = c.args.order.now.n in
    let step = c.args.step.now in
    subst (λ y. IfOk c.member_product.result (IsMatrix M e.d (e.E.at y)))
    (at_coset e.is.quotient p (sym (exponent_at e.is c.args.x c.index-exponent.result.now c.index-exponent.ensures p a)
    ∙ c.if-exponent-eq1.true))
    (c.member_product.ensures traces e at (e.is.quotient.part p) (sym (part_at e.is c.args.x c.index-n.result.now c.index-n.ensures p a)))

pub returns-else-exponent-eq1 : goal.returns-else-exponent-eq1
returns-else-exponent-eq1 g c traces e at p a =
    let M = c.args.order.now.n in
    let step = c.args.step.now in
    let k = c.index-exponent.result.now in
    let number = exponent_at e.is c.args.x k c.index-exponent.ensures p a in
    let none : k ≡ 0 → ⊥ = search rules in
    let other : k ≡ 1 → ⊥ = search rules in
    subst (λ y. IfOk c.square_matrix.result (IsMatrix M e.d (e.E.at y)))
    (at_square e.is.quotient p (small_exponent e.is.quotient e.is.two_or_three p (λ z. none (number ∙ z)) (λ z. other (number ∙ z))))
    (c.square_matrix.ensures traces e at (e.is.quotient.part p) (sym (part_at e.is c.args.x c.index-n.result.now c.index-n.ensures p a)))
