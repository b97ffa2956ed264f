use Rattle.std.proofs.Common.{rules}
use Rattle.irr_input.specs.Command.{texts}
use Rattle.irr_input.specs.declared.words.Usage.{Usage}
use Rattle.irr_input.specs.Forms.{IsRefusedFrom}
use Rattle.irr_input.specs.Forms as forms
use Rattle.irr_input.specs.Forms.Form.{no_more}
use Rattle.irr_input.proofs.FormSteps.{point-here, point-behind, refused-here, refused-behind}
use Rattle.irr_input.proofs.arguments.point_and_wave.Goals as goal

pub returns-in_err-point-clause-refused : goal.returns-in_err-point-clause-refused
returns-in_err-point-clause-refused c =
    let e : Usage = c.in_err-point.field-0.0 in
    let r : IsRefusedFrom 2 forms.point_and_wave (texts c.args.words.now) e.0 = point-here 2 forms.one_wave (texts c.args.words.now) e.0 c.in_err-point.ensures.none in
    search rules

pub returns-in_err-wave-clause-refused : goal.returns-in_err-wave-clause-refused
returns-in_err-wave-clause-refused c =
    let e : Usage = c.in_err-wave.field-0.0 in
    let r : IsRefusedFrom 2 forms.point_and_wave (texts c.args.words.now) e.0 = point-behind 2 forms.one_wave c.in_ok-point.point (texts c.args.words.now) (texts c.in_ok-point.rest.now) e.0
    c.in_ok-point.ensures.first (refused-here 3 no_more (texts c.in_ok-point.rest.now) e.0 c.in_err-wave.ensures.none) in
    search rules

pub returns-in_err-no_word-clause-refused : goal.returns-in_err-no_word-clause-refused
returns-in_err-no_word-clause-refused c =
    let e : Usage = c.in_err-no_word.field-0.0 in
    let r : IsRefusedFrom 2 forms.point_and_wave (texts c.args.words.now) e.0 = point-behind 2 forms.one_wave c.in_ok-point.point (texts c.args.words.now) (texts c.in_ok-point.rest.now) e.0
    c.in_ok-point.ensures.first
    (refused-behind 3 no_more c.in_ok-wave.wave (texts c.in_ok-point.rest.now) (texts c.in_ok-wave.rest.now) e.0 c.in_ok-wave.ensures.first c.in_err-no_word.ensures.some) in
    search rules
