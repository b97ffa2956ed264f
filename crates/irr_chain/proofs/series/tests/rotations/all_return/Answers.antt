-- One place more.
use Rattle.std.proofs.Common.{◌≡◌, below_more, true, rules}
use Rattle.irr_chain.proofs.series.tests.rotations.all_return.Goals as goal

pub loop-i-preserved : goal.loop-i-preserved
loop-i-preserved c = below_more _ _ c.loop-i.invariant (let e : c.returns.result ≡ true = search rules in c.returns.ensures e)
