-- 1 is z^0.
use Rattle.std.proofs.Common.{◌∙◌}
use Rattle.irr_number.proofs.RootPowers.{root_power-zero}
use Rattle.irr_sparse.proofs.numbers.SparseScalar.one.Goals as goal

pub returns-clause-value : goal.returns-clause-value
returns-clause-value c = c.in_ok-one.ensures.value ∙ root_power-zero c.args.order.now.n
