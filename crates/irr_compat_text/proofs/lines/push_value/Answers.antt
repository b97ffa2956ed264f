-- The text of 0 is told without its terms.
use Rattle.std.proofs.Common.{◌∙◌, ◌++◌, ap, sym, rules}
use Rattle.std.specs.Prelude.{IsTrue}
use Rattle.irr_text.specs.NumberText.{number_text}
use Rattle.irr_text.specs.ReportText.{next_word}
use Rattle.irr_report.proofs.ZeroTexts.{zero-word}
use Rattle.irr_compat_text.proofs.lines.push_value.Goals as goal

pub returns-then-is_zero : goal.returns-then-is_zero
returns-then-is_zero g c =
    let laws = g.met.S.Scalar in
    let x = c.args.x.now in
    let n = g.S.Scalar.order_of x in
    let none = c.is_zero.ensures.zero.0 (let t : IsTrue c.is_zero.result = search rules in t) in
    c.in_ok-extend_from_slice.ensures.items
    ∙ ap (λ word. c.args.text.now.items ++ word) (sym (ap (λ y. next_word (number_text n y)) none ∙ zero-word n (laws.admitted_positive n (laws.order_admitted x))))
