-- The verdict where a representation is the first with a fault.
use Rattle.std.proofs.Common.{rules, sym, ap, ◌∙◌, ◌≡◌, subst, ℕ, ◌<◌}
use Rattle.irr_check.specs.declared.fault.Fault.{Fault}
use Rattle.irr_check.specs.declared.fault.Fault.TheVariants.{Char}
use Rattle.irr_check.specs.Listed.{IsSmallFault, fault_verdict}
use Rattle.irr_check.proofs.families.Faulty.verdict.Goals as goal

small_trace : (i : ℕ) (f : Fault) → f ≡ Char i → IsSmallFault f → i < 48
unfolding IsSmallFault
small_trace i f e p = subst IsSmallFault e p

pub defect_verdict-requires-clause-defect : goal.defect_verdict-requires-clause-defect
defect_verdict-requires-clause-defect c = subst IsSmallFault c.in-Defect.is c.requires.fault

pub overflow_add-result : goal.overflow_add-result
overflow_add-result c =
    let l : c.in-Char.i < 48 = small_trace c.in-Char.i c.args.self.now.fault c.in-Char.is c.requires.fault in
    search rules

pub returns-in-Defect : goal.returns-in-Defect
unfolding fault_verdict
returns-in-Defect c = c.defect_verdict.ensures ∙ sym (ap (fault_verdict c.args.self.now.rep) c.in-Defect.is)

pub returns-in-Char : goal.returns-in-Char
unfolding fault_verdict
returns-in-Char c = sym (ap (fault_verdict c.args.self.now.rep) c.in-Char.is)

pub returns-in-Reducible : goal.returns-in-Reducible
unfolding fault_verdict
returns-in-Reducible c = sym (ap (fault_verdict c.args.self.now.rep) c.in-Reducible.is)
