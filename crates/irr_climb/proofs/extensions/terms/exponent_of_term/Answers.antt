-- The phases of a place and a member, and of the member and its inverse.
use Rattle.std.proofs.Common.{◌<◌, ◌+◌, ◌-◌, ◌*◌, sym, ◌∙◌, ap₂, subst}
use Rattle.irr_algebra.proofs.Indices.{from_nat, to_nat-from_nat, to_nat-lt}
use Rattle.irr_rep.specs.Twisted.{phase_table, place_count}
use Rattle.irr_root.proofs.TurnedTraces.{read_at}
use Rattle.irr_climb.proofs.ConjugateRows.{member_number}
use Rattle.irr_climb.proofs.extensions.terms.exponent_of_term.Goals as goal

pub phase-outside-requires-clause-column : goal.phase-outside-requires-clause-column
phase-outside-requires-clause-column c =
    let step = c.args.step.now in
    let is = c.requires.step.1 in
    let q = from_nat (place_count step.inner) c.args.m c.requires.member in
    let read = read_at step.members.items c.args.m c.index.result.now c.index.ensures (subst (λ k. c.args.m < k)
    (sym is.members_count) c.requires.member) in
    subst (λ k. k < place_count step.outer) (sym (read ∙ member_number is c.args.m q (to_nat-from_nat
    (place_count step.inner) c.args.m c.requires.member)))
    (to_nat-lt (is.part.place q))

pub returns : goal.returns
returns c M is p q a b =
    let step = c.args.step.now in
    let T = phase_table step.inner in
    let member = read_at step.members.items c.args.m c.index.result.now c.index.ensures (subst (λ k. c.args.m < k)
    (sym is.members_count) c.requires.member)
    ∙ member_number is c.args.m q b in
    ap₂ (λ k l. k + l) (c.phase-outside.ensures.exponent p (is.part.place q) a (sym member))
    (ap₂ (λ k l. (k - 1) * l) c.order.ensures.order (c.phase-inside.ensures.exponent q (T.opposite q) b (sym (c.inverse.ensures.inverse q b))))
