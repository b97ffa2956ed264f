-- The exponent is read modulo the table's order.
use Rattle.std.proofs.Common.{◌≡◌, ◌∙◌, ap₂, ◌*◌, ◌/◌, ◌%◌}
use Rattle.std.proofs.lemmas.Result.{IfOk-weaker}
use Rattle.irr_number.specs.Number.{root_power}
use Rattle.irr_rep.specs.Twisted.{phase_table}
use Rattle.irr_root.proofs.Phases.{root_power-rest}
use Rattle.irr_root.proofs.eigenvalues.phase.Goals as goal

pub returns-clause-value : goal.returns-clause-value
returns-clause-value g c =
    let n = c.args.order.now.n in
    let T = phase_table c.args.t.now in
    IfOk-weaker c.root.result
    (λ x. g.S.Scalar.value n x ≡ root_power n (c.args.e % c.order.result * (c.n.result / c.order-2.result)))
    (λ x. g.S.Scalar.value n x ≡ root_power n (c.args.e * (n / T.order)))
    (λ x e. e ∙ ap₂ (λ a b. root_power n (c.args.e % a * b)) c.order.ensures.order (ap₂ (λ a b. a / b) c.n.ensures.value c.order-2.ensures.order)
    ∙ root_power-rest T.order n c.args.e T.order_positive c.requires.divides)
    c.root.ensures.value
