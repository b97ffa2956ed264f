use Rattle.std.proofs.Common.{refl, subst, ◌≤◌, rules}
use Rattle.irr_report.specs.ReportStages.{IsOrdered, StepFails}
use Rattle.irr_report.proofs.StageSteps.{places-no_words, places-fails, places-steps}
use Rattle.irr_report.proofs.steps.places.Goals as goal

pub returns-in_default-clause-fails : goal.returns-in_default-clause-fails
returns-in_default-clause-fails g c = places-no_words c.args.wave c.args.order c.args.line.now (c.in_default.ensures.none refl)

pub returns-in_err-n-clause-fails : goal.returns-in_err-n-clause-fails
returns-in_err-n-clause-fails g c = let made : StepFails (IsOrdered c.args.wave c.args.order) c.args.line.now c.in_err-n.field-0.0 = places-fails c.args.wave c.args.order c.args.line.now c.in-Some.digits.now c.in_err-n.field-0.0 c.in-Some.ensures.some c.in_err-n.ensures.fault in search rules

pub returns-clause-steps : goal.returns-clause-steps
returns-clause-steps g c = places-steps c.args.wave c.args.order _ c.args.line.now c.in-Some.digits.now c.in-Some.ensures.some c.in_ok-n.ensures.whole (subst (λ k. k ≤ 48) c.in_ok-n.ensures.value c.in_ok-n.ensures.within) refl refl c.in_ok-n.ensures.value c.new.ensures.items
