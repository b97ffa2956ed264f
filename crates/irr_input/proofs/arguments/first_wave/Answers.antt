use Rattle.std.proofs.Common.{refl, sym, subst}
use Rattle.irr_kvec.specs.WaveMeaning.{wave_vector}
use Rattle.irr_input.specs.Command.{IsWordOf}
use Rattle.irr_input.specs.Command.Argument.{wave}
use Rattle.irr_input.specs.Forms.Sort.{of_waves}
use Rattle.irr_input.proofs.FormSteps.{no_sort}
use Rattle.irr_input.proofs.arguments.first_wave.Goals as goal

pub returns-in-None-clause-none : goal.returns-in-None-clause-none
returns-in-None-clause-none c = (
  refl,
  no_sort of_waves c.args.words.now c.in-Some.word.now c.in-Some.rest.now c.in-Some.ensures.cases.0
      (λ h. c.in-None.ensures.none refl (wave_vector h.0) (subst (IsWordOf (wave (wave_vector h.0))) (sym c.deref.ensures.value) h.1)),
)
