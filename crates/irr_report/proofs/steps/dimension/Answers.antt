use Rattle.std.proofs.Common.{refl, ◌≡◌, length, sym, ap, subst, ◌∙◌, ◌+◌, ◌≤◌, ◌<◌, rules}
use Rattle.irr_report.specs.declared.stage.StepError.TheVariants as errors
use Rattle.irr_report.specs.ReportStages.{IsCounting, StepFails}
use Rattle.irr_report.proofs.ReportSound.{whole-positive}
use Rattle.irr_report.proofs.StageSteps.{memory_fails, dimension-no_words, dimension-fails, dimension-steps}
use Rattle.irr_report.proofs.steps.dimension.Goals as goal

pub invariant_of-result : goal.invariant_of-result
invariant_of-result g c = record { some = subst (λ k. 0 < k) (sym c.in_ok-n.ensures.value) (whole-positive c.in-Some.digits.now c.in_ok-n.ensures.whole); few = c.in_ok-n.ensures.within }

pub returns-in_err-words-clause-fails : goal.returns-in_err-words-clause-fails
returns-in_err-words-clause-fails g c = let made : StepFails (IsCounting c.args.counted) c.args.line.now errors.Memory = memory_fails (IsCounting c.args.counted) c.args.line.now in search rules

pub returns-in_default-clause-fails : goal.returns-in_default-clause-fails
returns-in_default-clause-fails g c = dimension-no_words c.args.counted (c.len.result + 1) c.deref.result.now c.args.line.now (ap (λ n. n + 1) (let made : c.len.result ≡ length c.args.counted.reps.items = (let l = c.len.ensures in search rules) in made)) (c.deref.ensures.value ∙ c.in_ok-words.ensures) c.requires.room (c.in_default.ensures.none refl)

pub returns-in_err-n-clause-fails : goal.returns-in_err-n-clause-fails
returns-in_err-n-clause-fails g c = let made : StepFails (IsCounting c.args.counted) c.args.line.now c.in_err-n.field-0.0 = dimension-fails c.args.counted (c.len.result + 1) c.deref.result.now c.args.line.now c.in-Some.digits.now c.in_err-n.field-0.0 (ap (λ n. n + 1) (let made : c.len.result ≡ length c.args.counted.reps.items = (let l = c.len.ensures in search rules) in made)) (c.deref.ensures.value ∙ c.in_ok-words.ensures) c.requires.room c.in-Some.ensures.some c.in_err-n.ensures.fault in search rules

pub returns-clause-steps : goal.returns-clause-steps
returns-clause-steps g c = dimension-steps c.args.counted _ (c.len.result + 1) c.deref.result.now c.args.line.now c.in-Some.digits.now (ap (λ n. n + 1) (let made : c.len.result ≡ length c.args.counted.reps.items = (let l = c.len.ensures in search rules) in made)) (c.deref.ensures.value ∙ c.in_ok-words.ensures) c.requires.room c.in-Some.ensures.some c.in_ok-n.ensures.whole (subst (λ k. k ≤ 48) c.in_ok-n.ensures.value c.in_ok-n.ensures.within) c.in_ok-n.ensures.value
