-- A text parts into digits and a rest that begins with none in one way.
use Rattle.std.proofs.Common.{◌∙◌, take, drop}
use Rattle.std.proofs.lemmas.List.{take-append-drop}
use Rattle.irr_digits.proofs.Numerals.{run_unique}
use Rattle.irr_numeral.proofs.terms.split_digits.Goals as goal

pub returns : goal.returns
returns c = λ digits rest all no e.
    let run = run_unique (take c.digit_run.result c.args.text.now) digits (drop c.digit_run.result c.args.text.now) rest c.digit_run.ensures.digits all c.digit_run.ensures.longest no (take-append-drop c.digit_run.result c.args.text.now ∙ e) in
    (c.split_at.ensures.front ∙ run.0, c.split_at.ensures.back ∙ run.1)
