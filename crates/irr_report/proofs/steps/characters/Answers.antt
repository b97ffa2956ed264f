use Rattle.std.proofs.Common.{refl, ◌≡◌, length, [], rules}
use Rattle.irr_report.specs.ReportStages.{IsSizing, StepFails}
use Rattle.irr_report.proofs.StageSteps.{characters-no_words, characters-fails, characters-steps}
use Rattle.irr_report.proofs.steps.characters.Goals as goal

pub values-requires-clause-admitted : goal.values-requires-clause-admitted
values-requires-clause-admitted g c = c.requires.admitted c.args.counted.order.n c.args.counted.order.positive c.args.counted.order.limited

pub values-requires-clause-scaled : goal.values-requires-clause-scaled
values-requires-clause-scaled g c = ∣ ([], c.new-scale.ensures) ∣₁

pub returns-in_default-clause-fails : goal.returns-in_default-clause-fails
returns-in_default-clause-fails g c = characters-no_words c.args.counted c.args.dim c.args.line.now (c.in_default.ensures.none refl)

pub returns-in_err-chars-clause-fails : goal.returns-in_err-chars-clause-fails
returns-in_err-chars-clause-fails g c = let made : StepFails (IsSizing c.args.counted c.args.dim) c.args.line.now c.in_err-chars.field-0.0 = characters-fails c.args.counted c.args.dim c.new-scale.result c.len.result c.args.line.now c.in-Some.text.now c.in_err-chars.field-0.0 c.new-scale.ensures (let made : c.len.result ≡ length c.args.counted.ops.items = (let l = c.len.ensures in search rules) in made) c.in-Some.ensures.some c.in_err-chars.ensures.fault in search rules

pub returns-clause-steps : goal.returns-clause-steps
returns-clause-steps g c = characters-steps c.args.counted c.args.dim _ c.new-scale.result c.len.result c.args.line.now c.in-Some.text.now c.new-scale.ensures (let made : c.len.result ≡ length c.args.counted.ops.items = (let l = c.len.ensures in search rules) in made) c.in-Some.ensures.some c.in_ok-chars.ensures.read refl c.new-mats.ensures.items
