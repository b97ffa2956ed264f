use Rattle.std.proofs.Common.{sym, subst, length, rules}
use Rattle.irr_close.specs.Distinct.{AreReduced}
use Rattle.irr_close.specs.StandsFor.{IsRefusal}
use Rattle.irr_close.proofs.Reduction.{reduced_numbers, reduced_unimodular, reduced_group, reduced_accepted, reduced_refused}
use Rattle.irr_close.proofs.generation.close.Goals as goal

pub close_distinct-requires-clause-generators : goal.close_distinct-requires-clause-generators
close_distinct-requires-clause-generators c = reduced_numbers c.args.generators.now c.as_slice.result.now
    (subst (λ ts. AreReduced c.args.generators.now ts (length c.args.generators.now)) (sym c.as_slice.ensures.value)
    c.in_ok-operations.ensures.reduced)
    c.requires.generators

pub close_distinct-requires-clause-unimodular : goal.close_distinct-requires-clause-unimodular
close_distinct-requires-clause-unimodular c = reduced_unimodular c.args.generators.now c.as_slice.result.now
    (subst (λ ts. AreReduced c.args.generators.now ts (length c.args.generators.now)) (sym c.as_slice.ensures.value)
    c.in_ok-operations.ensures.reduced)
    c.requires.unimodular

pub returns-in_err-group-clause-refused : goal.returns-in_err-group-clause-refused
returns-in_err-group-clause-refused c =
    let r : IsRefusal c.args.generators.now c.in_err-group.field-0.0 = reduced_refused c.args.generators.now c.as_slice.result.now
    (subst (λ ts. AreReduced c.args.generators.now ts (length c.args.generators.now)) (sym c.as_slice.ensures.value)
    c.in_ok-operations.ensures.reduced)
    c.in_err-group.field-0.0 c.in_err-group.ensures.refused in
    search rules

pub returns-clause-group : goal.returns-clause-group
returns-clause-group c = λ g.
    let same = reduced_group c.args.generators.now c.as_slice.result.now
    (subst (λ ts. AreReduced c.args.generators.now ts (length c.args.generators.now)) (sym c.as_slice.ensures.value)
    c.in_ok-operations.ensures.reduced) g in
    let stands = c.in_ok-group.ensures.group g in
    (λ h. same.0 (stands.0 h), λ h. stands.1 (same.1 h))

pub returns-clause-accepted : goal.returns-clause-accepted
returns-clause-accepted c = reduced_accepted c.args.generators.now c.as_slice.result.now
    (subst (λ ts. AreReduced c.args.generators.now ts (length c.args.generators.now)) (sym c.as_slice.ensures.value)
    c.in_ok-operations.ensures.reduced)
    c.in_ok-group.ensures.accepted
