-- A number times 0 is 0.
use Rattle.std.proofs.Common.{◌≡◌, ◌∙◌, sym, ap, subst}
use Rattle.std.proofs.lemmas.Result.{IfOk-weaker}
use Rattle.irr_algebra.proofs.Rings.{mul-zero}
use Rattle.irr_number.specs.Number.{numbers}
use Rattle.irr_root.proofs.Smalls.{is-true}
use Rattle.irr_climb.proofs.extensions.multiples.entry_multiple.Goals as goal

pub returns-then-is_zero-clause-order : goal.returns-then-is_zero-clause-order
returns-then-is_zero-clause-order g c = IfOk-weaker c.copy.result _ _ (λ z e. e ∙ c.requires.orders) c.copy.ensures.order

pub returns-then-is_zero-clause-value : goal.returns-then-is_zero-clause-value
returns-then-is_zero-clause-value g c =
    let value = g.S.Scalar.value in
    let n = g.S.Scalar.order_of c.args.by.now in
    let x = c.args.x.now in
    let none = subst (λ k. value k x ≡ (numbers k).zero) c.requires.orders (c.is_zero.ensures.zero.0 (is-true c.is_zero.result c.if-is_zero.true)) in
    IfOk-weaker c.copy.result _ _ (λ z e.
    subst (λ k. value k z ≡ value k x) c.requires.orders e ∙ none ∙ sym (mul-zero (numbers n) (value n c.args.by.now))
    ∙ ap ((numbers n).mul (value n c.args.by.now)) (sym none))
    c.copy.ensures.value
