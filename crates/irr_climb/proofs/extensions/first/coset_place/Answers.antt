-- The place g n.
use Rattle.std.proofs.Common.{◌<◌, sym, ◌∙◌, ap, subst, slice_index}
use Rattle.irr_algebra.proofs.Indices.{from_nat, to_nat-from_nat, to_nat-lt}
use Rattle.irr_rep.specs.Twisted.{phase_table, place_count}
use Rattle.irr_root.proofs.TurnedTraces.{read_at}
use Rattle.irr_climb.proofs.ConjugateRows.{generator_below, member_number}
use Rattle.irr_climb.proofs.ExtensionPlaces.{coset_exponent}
use Rattle.irr_climb.proofs.extensions.first.coset_place.Goals as goal

pub table-requires-clause-row : goal.table-requires-clause-row
table-requires-clause-row c = generator_below c.requires.step.1

pub table-requires-clause-column : goal.table-requires-clause-column
table-requires-clause-column c =
    let step = c.args.step.now in
    let is = c.requires.step.1 in
    let q = from_nat (place_count step.inner) c.args.n c.requires.member in
    let read = read_at step.members.items c.args.n c.index.result.now c.index.ensures (subst (λ k. c.args.n < k)
    (sym is.members_count) c.requires.member) in
    subst (λ k. k < place_count step.outer) (sym (read ∙ member_number is c.args.n q (to_nat-from_nat
    (place_count step.inner) c.args.n c.requires.member)))
    (to_nat-lt (is.part.place q))

pub returns-clause-place : goal.returns-clause-place
returns-clause-place c M is q e =
    let step = c.args.step.now in
    let member = read_at step.members.items c.args.n c.index.result.now c.index.ensures (subst (λ k. c.args.n < k)
    (sym is.members_count) c.requires.member)
    ∙ member_number is c.args.n q e in
    c.table.ensures.product is.quotient.generator (is.part.place q) (sym is.generator) (sym member)

pub returns-clause-coset : goal.returns-clause-coset
returns-clause-coset c =
    let step = c.args.step.now in
    let is = c.requires.step.1 in
    let q = from_nat (place_count step.inner) c.args.n c.requires.member in
    let e = to_nat-from_nat (place_count step.inner) c.args.n c.requires.member in
    let member = read_at step.members.items c.args.n c.index.result.now c.index.ensures (subst (λ k. c.args.n < k)
    (sym is.members_count) c.requires.member)
    ∙ member_number is c.args.n q e in
    let y = (phase_table step.outer).product is.quotient.generator (is.part.place q) in
    ap (slice_index step.exponents.items) (c.table.ensures.product is.quotient.generator (is.part.place q) (sym is.generator) (sym member))
    ∙ is.exponents y ∙ coset_exponent is.quotient is.two_or_three q
