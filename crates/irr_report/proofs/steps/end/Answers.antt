use Rattle.std.specs.Prelude.{IsTrue}
use Rattle.irr_report.proofs.StageSteps.{end-fails, end-steps}
use Rattle.irr_report.proofs.steps.end.Goals as goal

pub returns-then-is_end-clause-steps : goal.returns-then-is_end-clause-steps
returns-then-is_end-clause-steps g c = end-steps c.args.counted c.whole_report.result c.args.line.now c.requires.full (c.is_end.ensures.0 c.if-is_end.true)
    c.whole_report.ensures.wave c.whole_report.ensures.order c.whole_report.ensures.ops c.whole_report.ensures.reps

pub returns-else-is_end-clause-fails : goal.returns-else-is_end-clause-fails
returns-else-is_end-clause-fails g c = end-fails c.args.counted c.args.line.now c.requires.full
    (λ e. (let t : IsTrue c.is_end.result = c.is_end.ensures.1 e in absurd (cc (c.if-is_end.false))))
