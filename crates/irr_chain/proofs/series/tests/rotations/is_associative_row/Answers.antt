-- One place more.
use Rattle.std.proofs.Common.{◌≡◌, below_more, true, rules}
use Rattle.irr_chain.proofs.series.tests.rotations.is_associative_row.Goals as goal

pub loop-j-preserved : goal.loop-j-preserved
loop-j-preserved c = below_more _ _ c.loop-j.invariant (let e : c.is_associative_at.result ≡ true = search rules in c.is_associative_at.ensures e)
