-- Zeros over 1 are the form of 0.
use Rattle.std.proofs.Common.{arith}
use Rattle.irr_cyc.proofs.Values.{zeros-lowest, zeros-value}
use Rattle.irr_cyc.proofs.coefficients.DenseScalar.zero.Goals as goal

pub invariant_of-result : goal.invariant_of-result
invariant_of-result c = record {
  form = record {
    some = omega (arith, c.in_ok-coefficients.ensures.len, c.n.ensures.positive);
    few = omega (arith, c.in_ok-coefficients.ensures.len, c.n.ensures.limited);
    positive = omega arith;
    in_basis = λ j lt n. c.in_ok-coefficients.ensures.zeros j;
    lowest = zeros-lowest c.in_ok-coefficients.coefficients.items;
  };
}

pub returns-clause-value : goal.returns-clause-value
returns-clause-value c = zeros-value c.args.order.now.n c.in_ok-coefficients.coefficients.items 1 (omega arith) (λ j lt. c.in_ok-coefficients.ensures.zeros j)
