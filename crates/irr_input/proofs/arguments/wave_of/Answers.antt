use Rattle.irr_input.proofs.WaveTexts.{text-of_read, no_fault-text}
use Rattle.irr_input.proofs.arguments.wave_of.Goals as goal

pub returns-in-Ok-clause-some : goal.returns-in-Ok-clause-some
returns-in-Ok-clause-some c = text-of_read c.args.word.now c.in-Ok.wave c.in-Ok.ensures.wave c.in-Ok.ensures.read c.in-Ok.ensures.within

pub returns-in-Err-clause-none : goal.returns-in-Err-clause-none
returns-in-Err-clause-none c = λ e k h. no_fault-text c.args.word.now c.in-Err.field-0 k c.in-Err.ensures.fault h
