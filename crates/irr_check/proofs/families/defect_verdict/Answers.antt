-- The verdict where a representation is the first that is no small representation.
use Rattle.std.proofs.Common.{rules, sym, ap, ◌≡◌, subst, ℕ, ◌<◌}
use Rattle.irr_rep.specs.declared.family.Defect.{Defect}
use Rattle.irr_rep.specs.declared.family.Defect.TheVariants.{Product}
use Rattle.irr_check.specs.declared.fault.Fault.TheVariants.{Defect as FamilyDefect}
use Rattle.irr_check.specs.Listed.{IsSmallFault, fault_verdict}
use Rattle.irr_check.proofs.families.defect_verdict.Goals as goal

small_product : (i j : ℕ) (d : Defect) → d ≡ Product i j → IsSmallFault (FamilyDefect d) → (i < 48) × (j < 48)
unfolding IsSmallFault
small_product i j d e p = subst (λ x. IsSmallFault (FamilyDefect x)) e p

pub overflow_add-result-in-Product-2 : goal.overflow_add-result-in-Product-2
overflow_add-result-in-Product-2 c =
    let s = small_product c.in-Product.i c.in-Product.j c.args.defect c.in-Product.is c.requires.defect in
    let l : c.in-Product.i < 48 = s.0 in
    search rules

pub overflow_add-result-in-Product-3 : goal.overflow_add-result-in-Product-3
overflow_add-result-in-Product-3 c =
    let s = small_product c.in-Product.i c.in-Product.j c.args.defect c.in-Product.is c.requires.defect in
    let l : c.in-Product.j < 48 = s.1 in
    search rules

pub returns-in-Unit : goal.returns-in-Unit
unfolding fault_verdict
returns-in-Unit c = sym (ap (λ d. fault_verdict c.args.rep (FamilyDefect d)) c.in-Unit.is)

pub returns-in-Product : goal.returns-in-Product
unfolding fault_verdict
returns-in-Product c = sym (ap (λ d. fault_verdict c.args.rep (FamilyDefect d)) c.in-Product.is)
