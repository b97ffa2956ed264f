-- The text of 0 is told without its terms.
use Rattle.std.proofs.Common.{◌≡◌, ◌∙◌, ◌++◌, ap, sym, subst, rules}
use Rattle.std.specs.Prelude.{IsTrue, codes}
use Rattle.irr_report.proofs.ZeroTexts.{zero-word}
use Rattle.irr_full_text.specs.Lines.{number_word}
use Rattle.irr_full_text.proofs.numbers.push_value.Goals as goal

pub returns-then-is_zero : goal.returns-then-is_zero
returns-then-is_zero g c = λ M same.
    let laws = g.met.S.Scalar in
    let x = c.args.x.now in
    let n = g.S.Scalar.order_of x in
    let none = c.is_zero.ensures.zero.0 (let t : IsTrue c.is_zero.result = search rules in t) in
    c.in_ok-extend_from_slice.ensures.items
    ∙ ap (λ word. c.args.text.now.items ++ word)
    (sym (subst (λ m. number_word m (g.S.Scalar.value m x) ≡ codes " 0") same
    (ap (number_word n) none ∙ zero-word n (laws.admitted_positive n (laws.order_admitted x)))))
