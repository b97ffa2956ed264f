-- The terms of a power stand for it.
use Rattle.irr_sparse.proofs.Arithmetic.{root-value}
use Rattle.irr_sparse.proofs.numbers.SparseScalar.root.Goals as goal

pub returns-clause-value : goal.returns-clause-value
returns-clause-value c = root-value c.args.order.now.n c.n.result c.n-2.result c.in_ok-terms.terms.items c.of_terms.result.terms.items c.of_terms.result.den c.n.ensures.value c.n-2.ensures.value c.args.j c.args.order.now.positive
    c.in_ok-terms.ensures.terms c.in_ok-terms.ensures.sum c.of_terms.ensures.value
