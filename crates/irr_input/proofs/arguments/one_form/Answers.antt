use Rattle.std.proofs.Common.{rules, ◌∙◌, sym}
use Rattle.irr_input.specs.Command.{texts}
use Rattle.irr_input.specs.declared.words.Usage.{Usage}
use Rattle.irr_input.specs.Forms.{IsRefusedFrom}
use Rattle.irr_input.specs.Forms as forms
use Rattle.irr_input.specs.Forms.Form.{no_more}
use Rattle.irr_input.proofs.FormSteps.{form-behind, form-here}
use Rattle.irr_input.proofs.arguments.one_form.Goals as goal

pub returns-in_default-named_form-clause-refused : goal.returns-in_default-named_form-clause-refused
returns-in_default-named_form-clause-refused c = form-here 2 no_more c.args.words.now c.in-Some.word.now c.in-Some.rest.now c.in-Some.ensures.cases.0
    (λ t e. c.in_default-named_form.not-Some t (c.named_form.ensures.only t (c.deref.ensures.value ∙ e)))

pub returns-in_err-no_word-clause-refused : goal.returns-in_err-no_word-clause-refused
returns-in_err-no_word-clause-refused c =
    let e : Usage = c.in_err-no_word.field-0.0 in
    let r : IsRefusedFrom 2 forms.one_form (texts c.args.words.now) e.0 = form-behind 2 no_more c.in-Some-named_form.value c.args.words.now c.in-Some.word.now c.in-Some.rest.now
    e.0 c.in-Some.ensures.cases.0 (sym c.deref.ensures.value ∙ c.in-Some-named_form.ensures.found) c.in_err-no_word.ensures.some in
    search rules
