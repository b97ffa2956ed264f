use Rattle.irr_numeral.specs.WrittenNumber.{IsWhole}
use Rattle.irr_report.specs.Digits.{IsDigitsFault}
use Rattle.irr_report.proofs.ReportSound.{whole-positive}
use Rattle.std.proofs.Common.{refl, sym, ◌∙◌, subst, ◌<◌, ◌≤◌, rules}
use Rattle.irr_cyc.specs.declared.orders.TheConstants.{ORDER_LIMIT}
use Rattle.irr_report.specs.declared.stage.StepError.TheVariants as errors
use Rattle.irr_report.specs.ReportStages.{IsWaved, StepFails}
use Rattle.irr_report.proofs.StageSteps.{memory_fails, order-no_words, order-fails, order-steps}
use Rattle.irr_report.proofs.steps.order.Goals as goal

pub new-requires-clause-positive : goal.new-requires-clause-positive
new-requires-clause-positive g c = subst (λ k. 0 < k) (sym c.in_ok-n.ensures.value) (whole-positive c.in-Some.digits.now c.in_ok-n.ensures.whole)

pub returns-in_default-clause-fails : goal.returns-in_default-clause-fails
returns-in_default-clause-fails g c = order-no_words c.args.wave c.args.line.now (c.in_default.ensures.none refl)

pub returns-in_err-n-clause-fails : goal.returns-in_err-n-clause-fails
returns-in_err-n-clause-fails g c = let made : StepFails (IsWaved c.args.wave) c.args.line.now c.in_err-n.field-0.0 = order-fails c.args.wave c.args.line.now c.in-Some.digits.now c.in_err-n.field-0.0 c.in-Some.ensures.some (subst (λ k. IsDigitsFault IsWhole k c.in-Some.digits.now c.in_err-n.field-0.0) c.from.ensures c.in_err-n.ensures.fault) in search rules

pub returns-in_err-order-clause-fails : goal.returns-in_err-order-clause-fails
returns-in_err-order-clause-fails g c = let made : StepFails (IsWaved c.args.wave) c.args.line.now errors.Memory = memory_fails (IsWaved c.args.wave) c.args.line.now in search rules

pub returns-clause-steps : goal.returns-clause-steps
returns-clause-steps g c = order-steps c.args.wave c.in_ok-order.order c.args.line.now c.in-Some.digits.now c.in-Some.ensures.some c.in_ok-n.ensures.whole (c.in_ok-order.ensures ∙ c.in_ok-n.ensures.value) (subst (λ k. k ≤ ORDER_LIMIT) c.in_ok-n.ensures.value (subst (λ k. c.in_ok-n.n ≤ k) c.from.ensures c.in_ok-n.ensures.within))
