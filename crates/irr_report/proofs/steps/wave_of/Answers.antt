use Rattle.irr_report.proofs.SomeTexts.{wave-of_read, no-wave}
use Rattle.irr_report.proofs.steps.wave_of.Goals as goal

pub returns-in-Ok-clause-some : goal.returns-in-Ok-clause-some
returns-in-Ok-clause-some c = record { text_of = wave-of_read c.args.text.now c.in-Ok.wave c.in-Ok.ensures.wave c.in-Ok.ensures.read c.in-Ok.ensures.within; limits = c.in-Ok.ensures.limits }

pub returns-in-Err-clause-none : goal.returns-in-Err-clause-none
returns-in-Err-clause-none c = λ e. no-wave c.args.text.now c.in-Err.field-0 c.in-Err.ensures.fault
