-- The terms of a sum over a denominator stand for it.
use Rattle.irr_sparse.proofs.Arithmetic.{sum-value}
use Rattle.irr_sparse.proofs.numbers.SparseScalar.from_terms.Goals as goal

pub returns-clause-value : goal.returns-clause-value
returns-clause-value c = sum-value c.args.order.now.n c.n.result c.n-2.result c.in_ok-sums.sums.items c.of_terms.result.terms.items c.of_terms.result.den c.n.ensures.value c.n-2.ensures.value c.args.terms.now c.args.den c.requires.positive
    c.in_ok-sums.ensures.terms c.in_ok-sums.ensures.sum c.of_terms.ensures.value
