use Rattle.std.proofs.Common.{refl}
use Rattle.irr_report.proofs.StageSteps.{wave-steps, wave-fails}
use Rattle.irr_report.proofs.steps.wave.Goals as goal

pub returns-in-Some-wave_of-clause-steps : goal.returns-in-Some-wave_of-clause-steps
returns-in-Some-wave_of-clause-steps g c = wave-steps c.in-Some-wave_of.wave c.args.line.now c.in-Some.text.now c.in-Some.ensures.some c.in-Some-wave_of.ensures.some

pub returns-in-None-clause-fails : goal.returns-in-None-clause-fails
returns-in-None-clause-fails g c = wave-fails c.args.line.now c.in-Some.text.now c.in-Some.ensures.some (c.in-None.ensures.none refl)
