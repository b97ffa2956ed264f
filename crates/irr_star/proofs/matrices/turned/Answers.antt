-- A copy where the power or the number needs no product.
use Rattle.std.proofs.Common.{◌≡◌, ◌∙◌, sym, ap, subst}
use Rattle.std.proofs.lemmas.Result.{IfOk-weaker}
use Rattle.irr_algebra.proofs.Rings.{mul-zero, one-mul}
use Rattle.irr_number.specs.Number.{numbers, root_power}
use Rattle.irr_number.proofs.RootPowers.{root_power-zero}
use Rattle.irr_canonical.specs.RootSum.{IsRootSum}
use Rattle.irr_canonical.proofs.RootSums.{IsRootSum-root}
use Rattle.irr_star.proofs.NumberSizes.{is-true, turn_denominators, turn_sizes}
use Rattle.irr_star.proofs.matrices.turned.Goals as goal

pub returns-then-e-eq0-clause-value : goal.returns-then-e-eq0-clause-value
returns-then-e-eq0-clause-value g c =
    let value = g.S.Scalar.value in
    let n = c.args.order.now.n in
    let x = c.args.x.now in
    IfOk-weaker c.copy.result _ _ (λ y e. subst (λ k. value k y ≡ value k x) c.requires.order e
    ∙ sym (ap (λ u. (numbers n).mul (root_power n u) (value n x)) c.if-e-eq0.true ∙ ap
    (λ u. (numbers n).mul u (value n x)) (root_power-zero n)
    ∙ one-mul (numbers n) (value n x))) c.copy.ensures.value

pub returns-then-is_zero-clause-value : goal.returns-then-is_zero-clause-value
returns-then-is_zero-clause-value g c =
    let value = g.S.Scalar.value in
    let n = c.args.order.now.n in
    let x = c.args.x.now in
    let none = subst (λ k. value k x ≡ (numbers k).zero) c.requires.order
    (c.is_zero.ensures.zero.0 (is-true c.is_zero.result c.if-is_zero.true)) in
    IfOk-weaker c.copy-then-is_zero.result _ _ (λ y e. subst (λ k. value k y ≡ value k x) c.requires.order e ∙ none
    ∙ sym (mul-zero (numbers n) (root_power n c.args.e)) ∙ ap ((numbers n).mul (root_power n c.args.e)) (sym none))
    c.copy-then-is_zero.ensures.value

pub mul-requires-clause-denominators : goal.mul-requires-clause-denominators
mul-requires-clause-denominators g c =
    let n = c.args.order.now.n in
    let r = c.in_ok-root.root in
    turn_denominators g.S.Scalar.value (g.S.Scalar.order_of r) n
    (g.met.S.Scalar.admitted_positive (g.S.Scalar.order_of r) (g.met.S.Scalar.order_admitted r))
    c.in_ok-root.ensures.order r c.args.x.now
    (subst (IsRootSum n 1 1) (sym c.in_ok-root.ensures.value) (IsRootSum-root n c.args.e)) c.requires.denominator

pub mul-requires-clause-sizes : goal.mul-requires-clause-sizes
mul-requires-clause-sizes g c =
    let n = c.args.order.now.n in
    let r = c.in_ok-root.root in
    turn_sizes g.S.Scalar.value (g.S.Scalar.order_of r) n
    (g.met.S.Scalar.admitted_positive (g.S.Scalar.order_of r) (g.met.S.Scalar.order_admitted r))
    c.in_ok-root.ensures.order
    (g.met.S.Scalar.admitted_limited (g.S.Scalar.order_of r) (g.met.S.Scalar.order_admitted r)) r c.args.x.now
    (subst (IsRootSum n 1 1) (sym c.in_ok-root.ensures.value) (IsRootSum-root n c.args.e)) c.requires.size
