use Rattle.std.proofs.Common.{refl, ◌≡◌, length, ap, ◌∙◌, ◌+◌, rules}
use Rattle.irr_report.specs.declared.stage.StepError.TheVariants as errors
use Rattle.irr_report.specs.ReportStages.{IsListing, StepFails}
use Rattle.irr_report.proofs.StageSteps.{memory_fails, operation-no_words, operation-fails, operation-steps}
use Rattle.irr_report.proofs.steps.one_operation.Goals as goal

pub returns-in_err-words-clause-fails : goal.returns-in_err-words-clause-fails
returns-in_err-words-clause-fails g c = let made : StepFails (IsListing c.args.listed) c.args.line.now errors.Memory = memory_fails (IsListing c.args.listed) c.args.line.now in search rules

pub returns-in_default-clause-fails : goal.returns-in_default-clause-fails
returns-in_default-clause-fails g c = operation-no_words c.args.listed (c.len.result + 1) c.deref.result.now c.args.line.now (ap (λ n. n + 1) (let made : c.len.result ≡ length c.args.listed.ops.items = (let l = c.len.ensures in search rules) in made)) (c.deref.ensures.value ∙ c.in_ok-words.ensures) c.requires.room (c.in_default.ensures.none refl)

pub returns-in_default-operation_of-clause-fails : goal.returns-in_default-operation_of-clause-fails
returns-in_default-operation_of-clause-fails g c = operation-fails c.args.listed (c.len.result + 1) c.deref.result.now c.args.line.now c.in-Some.text.now (ap (λ n. n + 1) (let made : c.len.result ≡ length c.args.listed.ops.items = (let l = c.len.ensures in search rules) in made)) (c.deref.ensures.value ∙ c.in_ok-words.ensures) c.requires.room c.in-Some.ensures.some (c.in_default-operation_of.ensures.none refl)

pub returns-in_err-ops-clause-fails : goal.returns-in_err-ops-clause-fails
returns-in_err-ops-clause-fails g c = let made : StepFails (IsListing c.args.listed) c.args.line.now errors.Memory = memory_fails (IsListing c.args.listed) c.args.line.now in search rules

pub returns-clause-steps : goal.returns-clause-steps
returns-clause-steps g c = operation-steps c.args.listed _ c.in-Some-operation_of.op (c.len.result + 1) c.deref.result.now c.args.line.now c.in-Some.text.now (ap (λ n. n + 1) (let made : c.len.result ≡ length c.args.listed.ops.items = (let l = c.len.ensures in search rules) in made)) (c.deref.ensures.value ∙ c.in_ok-words.ensures) c.requires.room c.in-Some.ensures.some c.in-Some-operation_of.ensures.some refl c.in_ok-ops.ensures
