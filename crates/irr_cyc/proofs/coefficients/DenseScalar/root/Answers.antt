-- One coefficient 1 stands for the power.
use Rattle.std.proofs.Common.{◌∙◌}
use Rattle.irr_cyc.proofs.Values.{unit-number}
use Rattle.irr_cyc.proofs.coefficients.DenseScalar.root.Goals as goal

pub returns-clause-value : goal.returns-clause-value
returns-clause-value c = unit-number c.args.order.now.n c.in_ok-coefficients.coefficients.items c.args.j c.of_powers.result.coefficients.items c.of_powers.result.den
    (c.in_ok-coefficients.ensures.len ∙ c.n.ensures.value) c.requires.exponent c.in_ok-coefficients.ensures.zeros c.of_powers.ensures.value
