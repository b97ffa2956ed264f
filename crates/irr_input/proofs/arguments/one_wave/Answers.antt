use Rattle.std.proofs.Common.{rules}
use Rattle.irr_input.specs.Command.{texts}
use Rattle.irr_input.specs.declared.words.Usage.{Usage}
use Rattle.irr_input.specs.Forms.{IsRefusedFrom}
use Rattle.irr_input.specs.Forms as forms
use Rattle.irr_input.specs.Forms.Form.{no_more}
use Rattle.irr_input.proofs.FormSteps.{refused-here, refused-behind}
use Rattle.irr_input.proofs.arguments.one_wave.Goals as goal

pub returns-in_err-first-clause-refused : goal.returns-in_err-first-clause-refused
returns-in_err-first-clause-refused c =
    let e : Usage = c.in_err-first.field-0.0 in
    let r : IsRefusedFrom 2 forms.one_wave (texts c.args.words.now) e.0 = refused-here 2 no_more (texts c.args.words.now) e.0 c.in_err-first.ensures.none in
    search rules

pub returns-in_err-no_word-clause-refused : goal.returns-in_err-no_word-clause-refused
returns-in_err-no_word-clause-refused c =
    let e : Usage = c.in_err-no_word.field-0.0 in
    let r : IsRefusedFrom 2 forms.one_wave (texts c.args.words.now) e.0 = refused-behind 2 no_more c.in_ok-first.first (texts c.args.words.now) (texts c.in_ok-first.rest.now)
    e.0 c.in_ok-first.ensures.first c.in_err-no_word.ensures.some in
    search rules
