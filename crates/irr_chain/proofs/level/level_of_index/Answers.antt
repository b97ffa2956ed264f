-- The subgroup of the powers and the commutators is the whole, or is in a largest subgroup.
use Rattle.std.proofs.Common.{ℕ, sym, ◌∙◌, subst, Contains}
use Rattle.irr_rep.specs.Twisted.{phase_table}
use Rattle.irr_chain.specs.NormalSubgroup.{In}
use Rattle.irr_chain.specs.Marks.{Generators, IsMarked, Marked}
use Rattle.irr_chain.specs.Quotient.{HasQuotient}
use Rattle.irr_chain.proofs.Markings.{written}
use Rattle.irr_chain.proofs.Levels.{generated_quotient, generators_unit, no_normal}
use Rattle.irr_chain.proofs.level.level_of_index.Goals as goal

pub close-requires-clause-unit : goal.close-requires-clause-unit
close-requires-clause-unit c =
    subst (λ v. IsMarked v 0) (sym c.deref_mut.ensures.value)
    (generators_unit (phase_table c.args.t.now) c.args.members.now c.requires.subgroup c.args.p c.in_ok-inner.inner.items c.in_ok-inner.ensures.generators)

pub widest-requires-clause-quotient : goal.widest-requires-clause-quotient
widest-requires-clause-quotient c =
    let T = phase_table c.args.t.now in
    subst (λ v. HasQuotient T (Marked v) (In c.args.members.now) c.args.p)
    (sym (written c.in_ok-inner.inner.len c.close.new.marks c.in_ok-inner.inner.items (sym (c.close.auto.marks ∙ c.deref_mut.ensures.len))))
    (generated_quotient T c.args.members.now c.requires.subgroup c.args.p c.deref_mut.result.now c.close.new.marks
    (subst (Generators T (In c.args.members.now) c.args.p) (sym c.deref_mut.ensures.value) c.in_ok-inner.ensures.generators) c.close.ensures.closed c.close.ensures.grows)

pub returns-in-None : goal.returns-in-None
returns-in-None c =
    let T = phase_table c.args.t.now in
    let all : (k : ℕ) → Contains c.args.members.now k → IsMarked c.close.new.marks k =
    subst (λ v. (k : ℕ) → Contains c.args.members.now k → IsMarked v k)
    (c.deref.ensures.value ∙ written c.in_ok-inner.inner.len c.close.new.marks c.in_ok-inner.inner.items (sym (c.close.auto.marks ∙ c.deref_mut.ensures.len))) c.in-None.ensures in
    no_normal T c.args.members.now c.requires.subgroup c.args.p c.deref_mut.result.now c.close.new.marks c.requires.two_or_three
    (subst (Generators T (In c.args.members.now) c.args.p) (sym c.deref_mut.ensures.value) c.in_ok-inner.ensures.generators) c.close.ensures.grows all
