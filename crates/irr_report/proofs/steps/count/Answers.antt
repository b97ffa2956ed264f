use Rattle.std.proofs.Common.{refl, subst, ◌≤◌, rules}
use Rattle.irr_report.specs.ReportStages.{IsListing, StepFails}
use Rattle.irr_report.proofs.StageSteps.{count-no_words, count-fails, count-steps}
use Rattle.irr_report.proofs.steps.count.Goals as goal

pub returns-in_default-clause-fails : goal.returns-in_default-clause-fails
returns-in_default-clause-fails g c = count-no_words c.args.listed c.args.line.now c.requires.full (c.in_default.ensures.none refl)

pub returns-in_err-n-clause-fails : goal.returns-in_err-n-clause-fails
returns-in_err-n-clause-fails g c = let made : StepFails (IsListing c.args.listed) c.args.line.now c.in_err-n.field-0.0 = count-fails c.args.listed c.args.line.now c.in-Some.digits.now c.in_err-n.field-0.0 c.requires.full c.in-Some.ensures.some c.in_err-n.ensures.fault in search rules

pub returns-clause-steps : goal.returns-clause-steps
returns-clause-steps g c = count-steps c.args.listed _ c.args.line.now c.in-Some.digits.now c.requires.full c.in-Some.ensures.some c.in_ok-n.ensures.whole (subst (λ k. k ≤ 48) c.in_ok-n.ensures.value c.in_ok-n.ensures.within) refl refl refl c.in_ok-n.ensures.value c.new.ensures.items
