-- The exponents of n g and of g n'.
use Rattle.std.proofs.Common.{◌<◌, ◌+◌, ◌-◌, ◌*◌, sym, ◌∙◌, ap₂, subst}
use Rattle.irr_algebra.proofs.Indices.{from_nat, to_nat-from_nat, to_nat-lt}
use Rattle.irr_rep.specs.Twisted.{place_count}
use Rattle.irr_root.proofs.TurnedTraces.{read_at}
use Rattle.irr_climb.proofs.ConjugateRows.{generator_below, member_number}
use Rattle.irr_climb.proofs.step.Step.conjugate_exponent.Goals as goal

pub phase-behind-requires-clause-row : goal.phase-behind-requires-clause-row
phase-behind-requires-clause-row c =
    let step = c.args.self.now in
    let is = c.requires.step.1 in
    let p = from_nat (place_count step.inner) c.args.i c.requires.place in
    let read = read_at step.members.items c.args.i c.index.result.now c.index.ensures
    (subst (λ k. c.args.i < k) (sym is.members_count) c.requires.place) in
    subst (λ k. k < place_count step.outer) (sym (read ∙ member_number is c.args.i p
    (to_nat-from_nat (place_count step.inner) c.args.i c.requires.place)))
    (to_nat-lt (is.part.place p))

pub phase-behind-requires-clause-column : goal.phase-behind-requires-clause-column
phase-behind-requires-clause-column c = generator_below c.requires.step.1

pub phase-before-requires-clause-row : goal.phase-before-requires-clause-row
phase-before-requires-clause-row c = generator_below c.requires.step.1

pub phase-before-requires-clause-column : goal.phase-before-requires-clause-column
phase-before-requires-clause-column c =
    let step = c.args.self.now in
    let is = c.requires.step.1 in
    let k = c.conjugate_member-image.result in
    let p = from_nat (place_count step.inner) k c.conjugate_member-image.ensures.within in
    let read = read_at step.members.items k c.index-2.result.now c.index-2.ensures
    (subst (λ n. k < n) (sym is.members_count) c.conjugate_member-image.ensures.within) in
    subst (λ n. n < place_count step.outer)
    (sym (read ∙ member_number is k p (to_nat-from_nat (place_count step.inner) k c.conjugate_member-image.ensures.within)))
    (to_nat-lt (is.part.place p))

pub returns : goal.returns
returns c M is p e =
    let step = c.args.self.now in
    let g = is.quotient.generator in
    let k = c.conjugate_member-image.result in
    let first = read_at step.members.items c.args.i c.index.result.now c.index.ensures
    (subst (λ k. c.args.i < k) (sym is.members_count) c.requires.place)
    ∙ member_number is c.args.i p e in
    let image = c.conjugate_member-image.ensures.member M is p e in
    let second = read_at step.members.items k c.index-2.result.now c.index-2.ensures
    (subst (λ n. k < n) (sym is.members_count) c.conjugate_member-image.ensures.within)
    ∙ member_number is k (is.quotient.conj p) (sym image) in
    ap₂ (λ a b. a + b) (c.phase-behind.ensures.exponent (is.part.place p) g (sym first) (sym is.generator))
    (ap₂ (λ a b. (a - 1) * b) c.order.ensures.order (c.phase-before.ensures.exponent g (is.part.place (is.quotient.conj p)) (sym is.generator)
    (sym second)))
