-- One member more, and one pair more.
use Rattle.std.proofs.Common.{◌+◌, sym, ◌∙◌, ap, subst, set, true, arith}
use Rattle.irr_rep.specs.Twisted.{phase_table}
use Rattle.irr_chain.specs.NormalSubgroup.{In}
use Rattle.irr_chain.proofs.Markings.{written}
use Rattle.irr_chain.proofs.Generating.{Before, Marking, Row, marking-members, row-end, row-start, row-step}
use Rattle.irr_chain.proofs.quotient.powers_and_commutators.Goals as goal

pub loop-j-init : goal.loop-j-init
loop-j-init c =
    let T = phase_table c.args.t.now in
    let members = c.args.members.now in
    subst (λ v. Marking T (In members) c.args.p v (Before members (c.loop-i.i-index + 1)) (Row members c.loop-i.i-index 0))
    (sym (written c.loop-i.marks.len c.mark.new.marks c.loop-i.marks.items (sym (c.mark.auto.marks ∙ c.deref_mut.ensures.len)) ∙ c.mark.ensures.marked
    ∙ ap (λ v. set v c.power.result true) c.deref_mut.ensures.value))
    (row-start T members c.requires.below c.args.p c.loop-i.marks.items c.loop-i.i-index c.power.result c.loop-i-test.true c.power.ensures.power c.loop-i.invariant)

pub loop-j-preserved : goal.loop-j-preserved
loop-j-preserved c =
    let T = phase_table c.args.t.now in
    let members = c.args.members.now in
    subst (λ v. Marking T (In members) c.args.p v (Before members (c.loop-i.i-index + 1)) (Row members c.loop-i.i-index (c.loop-j.j-index + 1)))
    (sym (written c.loop-j.marks.len c.mark-in-loop-j.new.marks c.loop-j.marks.items (sym (c.mark-in-loop-j.auto.marks ∙ c.deref_mut-in-loop-j.ensures.len))
    ∙ c.mark-in-loop-j.ensures.marked ∙ ap (λ v. set v c.commutator.result true) c.deref_mut-in-loop-j.ensures.value))
    (row-step T members c.requires.below c.args.p c.loop-j.marks.items c.loop-i.i-index c.loop-j.j-index c.commutator.result c.loop-i-test.true c.loop-j-test.true c.commutator.ensures.commutator c.loop-j.invariant)

pub loop-i-preserved : goal.loop-i-preserved
loop-i-preserved c =
    row-end (phase_table c.args.t.now) c.args.members.now c.requires.below c.args.p c.loop-j.marks.items c.loop-i.i-index c.loop-j.j-index
    c.loop-i-test.true (omega arith) c.loop-j.invariant

pub returns-clause-generators : goal.returns-clause-generators
returns-clause-generators c =
    marking-members (phase_table c.args.t.now) c.args.members.now c.requires.below c.args.p c.loop-i.marks.items c.loop-i.i-index (omega arith) c.loop-i.invariant
