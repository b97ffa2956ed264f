use Rattle.std.proofs.Common.{rules, subst}
use Rattle.irr_input.specs.Command.{texts, IsWordOf}
use Rattle.irr_input.specs.Command.Argument.{number}
use Rattle.irr_input.specs.declared.words.Usage.{Usage}
use Rattle.irr_input.specs.Forms.{IsRefusedFrom}
use Rattle.irr_input.specs.Forms as forms
use Rattle.irr_input.specs.Forms.Form.{no_more}
use Rattle.irr_input.proofs.FormSteps.{number-behind}
use Rattle.irr_input.proofs.arguments.one_number.Goals as goal

pub returns-in_err-no_word-clause-refused : goal.returns-in_err-no_word-clause-refused
returns-in_err-no_word-clause-refused c =
    let e : Usage = c.in_err-no_word.field-0.0 in
    let r : IsRefusedFrom 2 forms.one_number (texts c.args.words.now) e.0 = number-behind 2 no_more c.in-Some-number_of.value c.args.words.now c.in-Some.word.now c.in-Some.rest.now
    e.0 c.in-Some.ensures.cases.0 (subst (IsWordOf (number c.in-Some-number_of.value)) c.deref.ensures.value c.in-Some-number_of.ensures.some) c.in_err-no_word.ensures.some in
    search rules
