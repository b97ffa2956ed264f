-- The number itself, or its square.
use Rattle.std.proofs.Common.{◌≡◌, sym, ◌∙◌, ap, inl, inr, arith}
use Rattle.std.proofs.lemmas.Result.{IfOk-weaker}
use Rattle.irr_number.specs.Number.{numbers}
use Rattle.irr_clifford.specs.Roots.{number_power}
use Rattle.irr_root.proofs.LowerPowers.{power_one, power_two}
use Rattle.irr_root.proofs.Smalls.{denominators_of_small, products_of_small}
use Rattle.irr_root.proofs.solutions.lower_power.Goals as goal

pub mul-requires-clause-denominators : goal.mul-requires-clause-denominators
mul-requires-clause-denominators g c =
    denominators_of_small g.S.Scalar.order_of g.S.Scalar.value (λ x. g.met.S.Scalar.admitted_positive (g.S.Scalar.order_of x) (g.met.S.Scalar.order_admitted x))
    (λ x. g.met.S.Scalar.admitted_limited (g.S.Scalar.order_of x) (g.met.S.Scalar.order_admitted x)) (g.S.Scalar.order_of c.args.x.now) 48 48 c.args.x.now c.args.x.now
    c.requires.small c.requires.small

pub mul-requires-clause-sizes : goal.mul-requires-clause-sizes
mul-requires-clause-sizes g c =
    products_of_small g.S.Scalar.order_of g.S.Scalar.value (λ x. g.met.S.Scalar.admitted_positive (g.S.Scalar.order_of x) (g.met.S.Scalar.order_admitted x))
    (λ x. g.met.S.Scalar.admitted_limited (g.S.Scalar.order_of x) (g.met.S.Scalar.order_admitted x)) (g.S.Scalar.order_of c.args.x.now) 48 48 c.args.x.now c.args.x.now
    c.requires.small c.requires.small (omega arith) (omega arith)

pub returns-then-q-eq1-clause-value : goal.returns-then-q-eq1-clause-value
returns-then-q-eq1-clause-value g c =
    let R = numbers (g.S.Scalar.order_of c.args.x.now) in
    let x = g.S.Scalar.value (g.S.Scalar.order_of c.args.x.now) c.args.x.now in
    IfOk-weaker c.copy.result _ _ (λ y v. v ∙ sym (power_one R x) ∙ ap (number_power R x) (sym c.if-q-eq1.true)) c.copy.ensures.value

pub returns-else-q-eq1-clause-value : goal.returns-else-q-eq1-clause-value
returns-else-q-eq1-clause-value g c =
    let R = numbers (g.S.Scalar.order_of c.args.x.now) in
    let x = g.S.Scalar.value (g.S.Scalar.order_of c.args.x.now) c.args.x.now in
    let two : c.args.q ≡ 2 = elim c.requires.one_or_two [ inl e ↦ absurd (c.if-q-eq1.false e) | inr e ↦ e ] in
    IfOk-weaker c.mul.result _ _ (λ y v. v ∙ sym (power_two R x) ∙ ap (number_power R x) (sym two)) c.mul.ensures.value
