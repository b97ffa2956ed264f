-- The inverse of a phase as a power of z.
use Rattle.std.proofs.Common.{◌*◌, ◌-◌, ◌/◌, ◌%◌, sym, ◌∙◌, ap, ap₂}
use Rattle.irr_number.specs.Number.{root_power}
use Rattle.irr_rep.specs.Twisted.{phase_table}
use Rattle.irr_climb.proofs.ConjugateRows.{generator_below}
use Rattle.irr_climb.proofs.ExtensionTerms.{root_over}
use Rattle.irr_climb.proofs.extensions.first.inverse_exponent.Goals as goal

pub phase-requires-clause-row : goal.phase-requires-clause-row
phase-requires-clause-row c = generator_below c.requires.step

pub returns-clause-value : goal.returns-clause-value
returns-clause-value c is p e =
    let step = c.args.step.now in
    let M = c.args.order.now.n in
    let T = phase_table step.outer in
    ap (root_power M) (c.root_exponent.ensures.value
    ∙ ap₂ (λ k l. k % l * (c.n.result / l)) (ap₂ (λ k l. (k - 1) * l) c.order-n.ensures.order (c.phase.ensures.exponent is.quotient.generator p
    (sym is.generator) e)) c.order-n.ensures.order
    ∙ ap (λ n. (T.order - 1) * T.exponent is.quotient.generator p % T.order * (n / T.order)) c.n.ensures.value)
    ∙ root_over T.order M T.order_positive is.outer_divides ((T.order - 1) * T.exponent is.quotient.generator p)
