-- The part of n g.
use Rattle.std.proofs.Common.{◌<◌, sym, ◌∙◌, subst}
use Rattle.irr_algebra.proofs.Indices.{from_nat, to_nat-from_nat, to_nat-lt}
use Rattle.irr_rep.specs.Twisted.{place_count}
use Rattle.irr_root.proofs.TurnedTraces.{read_at}
use Rattle.irr_climb.proofs.ConjugateRows.{generator_below, image_number, member_number}
use Rattle.irr_climb.proofs.step.Step.conjugate_member.Goals as goal

pub table-product-requires-clause-row : goal.table-product-requires-clause-row
table-product-requires-clause-row c =
    let step = c.args.self.now in
    let is = c.requires.step.1 in
    let p = from_nat (place_count step.inner) c.args.i c.requires.place in
    let read = read_at step.members.items c.args.i c.index.result.now c.index.ensures
    (subst (λ k. c.args.i < k) (sym is.members_count) c.requires.place) in
    subst (λ k. k < place_count step.outer) (sym (read ∙ member_number is c.args.i p
    (to_nat-from_nat (place_count step.inner) c.args.i c.requires.place)))
    (to_nat-lt (is.part.place p))

pub table-product-requires-clause-column : goal.table-product-requires-clause-column
table-product-requires-clause-column c = generator_below c.requires.step.1

pub returns-clause-member : goal.returns-clause-member
returns-clause-member c M is p e =
    let step = c.args.self.now in
    let read = read_at step.members.items c.args.i c.index.result.now c.index.ensures
    (subst (λ k. c.args.i < k) (sym is.members_count) c.requires.place) in
    read_at step.parts.items c.table-product.result c.index-2.result.now c.index-2.ensures
    (subst (λ k. c.table-product.result < k) (sym is.parts_count) c.table-product.ensures.within)
    ∙ image_number is c.args.i p e c.table-product.result (λ a b d f. c.table-product.ensures.product a b (d ∙ sym read) f)

pub returns-clause-within : goal.returns-clause-within
returns-clause-within c =
    let step = c.args.self.now in
    let is = c.requires.step.1 in
    let p = from_nat (place_count step.inner) c.args.i c.requires.place in
    let e = to_nat-from_nat (place_count step.inner) c.args.i c.requires.place in
    let read = read_at step.members.items c.args.i c.index.result.now c.index.ensures
    (subst (λ k. c.args.i < k) (sym is.members_count) c.requires.place) in
    subst (λ k. k < place_count step.inner)
    (sym (read_at step.parts.items c.table-product.result c.index-2.result.now c.index-2.ensures
    (subst (λ k. c.table-product.result < k) (sym is.parts_count) c.table-product.ensures.within)
    ∙ image_number is c.args.i p e c.table-product.result (λ a b d f. c.table-product.ensures.product a b (d ∙ sym read) f)))
    (to_nat-lt (is.quotient.conj p))
