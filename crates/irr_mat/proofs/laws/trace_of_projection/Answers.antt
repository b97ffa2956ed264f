-- The law of projections, at the field of the numbers.
use Rattle.irr_mat.proofs.Projections.{trace-rank}
use Rattle.irr_mat.proofs.laws.trace_of_projection.Goals as goal

pub returns : goal.returns
returns c = λ N n k h a e r. trace-rank N h n k a e r
