use Rattle.std.proofs.Common.{refl, sym, subst}
use Rattle.irr_rat.specs.VectorMeaning.{vector}
use Rattle.irr_input.specs.PointText.{IsPointOf}
use Rattle.irr_input.specs.Forms.Sort.{of_points}
use Rattle.irr_input.proofs.FormSteps.{no_sort}
use Rattle.irr_input.proofs.arguments.first_point.Goals as goal

pub returns-in-None-clause-none : goal.returns-in-None-clause-none
returns-in-None-clause-none c = (
  refl,
  no_sort of_points c.args.words.now c.in-Some.word.now c.in-Some.rest.now c.in-Some.ensures.cases.0
      (λ h. c.in-None.ensures.none refl (vector h.0) (subst (λ w. IsPointOf w (vector h.0)) (sym c.deref.ensures.value) h.1)),
)
