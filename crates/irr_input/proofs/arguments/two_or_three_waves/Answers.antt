use Rattle.std.proofs.Common.{rules, arith, ◌≡◌, length}
use Rattle.std.proofs.lemmas.Grind.{common_steps}
use Rattle.irr_input.specs.Command.{texts}
use Rattle.irr_input.specs.declared.words.Usage.{Usage}
use Rattle.irr_input.specs.Forms.{Form, IsRefusedFrom}
use Rattle.irr_input.specs.Forms as forms
use Rattle.irr_input.specs.Forms.Sort.{of_waves}
use Rattle.irr_input.specs.Forms.Form.{no_more, one_more, perhaps}
use Rattle.irr_input.proofs.FormSteps.{refused-here, refused-behind, perhaps-here, perhaps-behind, texts-more}
use Rattle.irr_input.proofs.arguments.two_or_three_waves.Goals as goal

abbrev third : Form
third = perhaps of_waves no_more

abbrev second : Form
second = one_more of_waves third

pub returns-in_err-first-clause-refused : goal.returns-in_err-first-clause-refused
returns-in_err-first-clause-refused c =
    let e : Usage = c.in_err-first.field-0.0 in
    let r : IsRefusedFrom 2 forms.two_or_three_waves (texts c.args.words.now) e.0 = refused-here 2 second (texts c.args.words.now) e.0 c.in_err-first.ensures.none in
    search rules

pub returns-in_err-second-clause-refused : goal.returns-in_err-second-clause-refused
returns-in_err-second-clause-refused c =
    let e : Usage = c.in_err-second.field-0.0 in
    let r : IsRefusedFrom 2 forms.two_or_three_waves (texts c.args.words.now) e.0 = refused-behind 2 second c.in_ok-first.first (texts c.args.words.now) (texts c.in_ok-first.rest.now) e.0
    c.in_ok-first.ensures.first (refused-here 3 third (texts c.in_ok-first.rest.now) e.0 c.in_err-second.ensures.none) in
    search rules

pub returns-in_err-third-clause-refused : goal.returns-in_err-third-clause-refused
returns-in_err-third-clause-refused c =
    let e : Usage = c.in_err-third.field-0.0 in
    let some : length c.in_ok-second.rest.now ≡ 0 → ⊥ = grind (arith, common_steps) in
    let r : IsRefusedFrom 2 forms.two_or_three_waves (texts c.args.words.now) e.0 = refused-behind 2 second c.in_ok-first.first (texts c.args.words.now) (texts c.in_ok-first.rest.now) e.0
    c.in_ok-first.ensures.first
    (refused-behind 3 third c.in_ok-second.second (texts c.in_ok-first.rest.now) (texts c.in_ok-second.rest.now) e.0 c.in_ok-second.ensures.first
    (perhaps-here 4 no_more (texts c.in_ok-second.rest.now) e.0 (texts-more c.in_ok-second.rest.now some) c.in_err-third.ensures.none)) in
    search rules

pub returns-in_err-no_word-clause-refused : goal.returns-in_err-no_word-clause-refused
returns-in_err-no_word-clause-refused c =
    let e : Usage = c.in_err-no_word.field-0.0 in
    let r : IsRefusedFrom 2 forms.two_or_three_waves (texts c.args.words.now) e.0 = refused-behind 2 second c.in_ok-first.first (texts c.args.words.now) (texts c.in_ok-first.rest.now) e.0
    c.in_ok-first.ensures.first
    (refused-behind 3 third c.in_ok-second.second (texts c.in_ok-first.rest.now) (texts c.in_ok-second.rest.now) e.0 c.in_ok-second.ensures.first
    (perhaps-behind 4 no_more c.in_ok-third.third (texts c.in_ok-second.rest.now) (texts c.in_ok-third.rest.now) e.0 c.in_ok-third.ensures.first c.in_err-no_word.ensures.some)) in
    search rules
