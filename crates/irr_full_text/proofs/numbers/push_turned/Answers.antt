-- A power of z times a number.
use Rattle.std.proofs.Common.{◌≡◌, ◌∙◌, ◌++◌, ap, sym, subst, rules, ◌≤◌, ◌*◌, ◌^◌}
use Rattle.std.specs.Prelude.{IsTrue}
use Rattle.irr_number.specs.Number.{numbers}
use Rattle.irr_canonical.specs.Coefficient.{denominator, size}
use Rattle.irr_full_text.specs.Lines.{number_word}
use Rattle.irr_full_text.proofs.Turns.{turned_by_one, turned_zero, power_denominators, power_sizes}
use Rattle.irr_full_text.proofs.numbers.push_turned.Goals as goal

pub returns-then-e-eq0 : goal.returns-then-e-eq0
returns-then-e-eq0 g c =
    let n = c.args.order.now.n in
    let x = c.args.x.now in
    c.in_ok-push_value.ensures n c.requires.order
    ∙ ap (λ y. c.args.text.now.items ++ number_word n y)
    (sym (turned_by_one n c.args.e (g.S.Scalar.value n x) c.if-e-eq0.true))

pub returns-then-is_zero : goal.returns-then-is_zero
returns-then-is_zero g c =
    let n = c.args.order.now.n in
    let x = c.args.x.now in
    let none : g.S.Scalar.value n x ≡ (numbers n).zero = subst (λ m. g.S.Scalar.value m x ≡ (numbers m).zero)
    c.requires.order
    (c.is_zero.ensures.zero.0 (let t : IsTrue c.is_zero.result = search rules in t)) in
    c.in_ok-push_value-2.ensures n c.requires.order
    ∙ ap (λ y. c.args.text.now.items ++ number_word n y) (sym (turned_zero n c.args.e (g.S.Scalar.value n x) none))

pub mul-requires-clause-denominators : goal.mul-requires-clause-denominators
mul-requires-clause-denominators g c =
    let n = c.args.order.now.n in
    let value = g.S.Scalar.value in
    let l : denominator n (value n c.in_ok-root.root) * denominator n (value n c.args.x.now) ≤ 2 ^
    60 = power_denominators n c.args.e
    (value n c.in_ok-root.root) (value n c.args.x.now) c.args.order.now.positive c.in_ok-root.ensures.value
    c.requires.denominator in
    subst (λ m. denominator m (value m c.in_ok-root.root) * denominator m (value m c.args.x.now) ≤ 2 ^ 60)
    (sym c.in_ok-root.ensures.order) l

pub mul-requires-clause-sizes : goal.mul-requires-clause-sizes
mul-requires-clause-sizes g c =
    let n = c.args.order.now.n in
    let value = g.S.Scalar.value in
    let l : size n (value n c.in_ok-root.root) * size n (value n c.args.x.now) ≤ 2 ^ 100 = power_sizes n c.args.e
    (value n c.in_ok-root.root) (value n c.args.x.now) c.args.order.now.positive c.args.order.now.limited
    c.in_ok-root.ensures.value c.requires.size in
    subst (λ m. size m (value m c.in_ok-root.root) * size m (value m c.args.x.now) ≤ 2 ^ 100)
    (sym c.in_ok-root.ensures.order) l
